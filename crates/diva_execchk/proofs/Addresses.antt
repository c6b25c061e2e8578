-- Only a load or a store has an address.
use Rattle.std.proofs.Common.{◌≡◌, ℕ, false, refl}
use Rattle.diva_decode.specs.declared.instr.Instr.{Instr}
use Rattle.diva_isa.specs.declared.kind.Kind.{Kind}
use Rattle.diva_isa.specs.declared.kind.Kind.TheVariants.{Load, Store}
use Rattle.diva_isa.specs.Kind.{kind, moves_memory}
use Rattle.diva_isa.specs.Step.{address}

address_apart : (k : Kind) (i : Instr) (a : ℕ) → moves_memory k ≡ false → address k i a ≡ 0
address_apart (Load width) i a h = absurd (cc)
address_apart (Store width) i a h = absurd (cc)
address_apart k i a h = refl

pub no_address : (i : Instr) (a : ℕ) → moves_memory (kind i.op) ≡ false → address (kind i.op) i a ≡ 0
no_address i a h = address_apart (kind i.op) i a h

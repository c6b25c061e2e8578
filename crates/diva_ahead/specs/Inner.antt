-- Where stores lie.
-- Only private contracts of this crate cite this: a reader of its promises can pass over it.
use Rattle.std.specs.Prelude.{ℕ, ◌≡◌}
use Rattle.diva_isa.specs.Kind.{size}
use Rattle.diva_isa.specs.declared.effect.Effect.{Effect}
use Rattle.diva_isa.specs.declared.effect.Effect.TheVariants.{Nothing, Writes, Stores, Puts}

-- an effect stores the n bytes from an address on
abbrev pub StoresAt : Effect → (addr n : ℕ) → Type 0
StoresAt Nothing a n = ⊥
StoresAt (Writes rd value) a n = ⊥
StoresAt (Stores width addr value) a n = (a ≡ addr) × (n ≡ size width)
StoresAt (Puts byte) a n = ⊥

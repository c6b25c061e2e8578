-- A number of which a byte is outside is not there after the claims.
use Rattle.std.proofs.Common.{◌≡◌, ◌+◌, ℕ, List, None, map, refl, sym, ap, ◌∙◌, rules}
use Rattle.diva_memory.specs.Bytes.{Bytes, byte_at}
use Rattle.diva_storeq.specs.Stores.{laid}
use Rattle.diva_storeq.proofs.Laying.{half_none, half_high_none}
use Rattle.diva_isa.specs.State.{State, byte_of, memory_of}
use Rattle.diva_isa.specs.Step.{effect_of}
use Rattle.diva_isa.specs.declared.record.Record.{Record}
use Rattle.diva_core.specs.Older.{older, with_claims}
use Rattle.diva_core.proofs.Laying.{effects_none}
use Rattle.diva_core.proofs.pending.Pending.number_behind.Goals as goal

-- a byte that is outside stays outside
stays_out : (s : State) (claims : List Record) (m : Bytes) (a : ℕ) → memory_of s ≡ m → byte_at m a ≡ None → byte_of (with_claims s claims) a ≡ None
stays_out s claims m a reads outside = effects_none s (map effect_of claims) a (ap (λ (n : Bytes). byte_at n a) reads ∙ outside)

pub returns-in_err-byte-in-Byte : goal.returns-in_err-byte-in-Byte
returns-in_err-byte-in-Byte c = λ s reads.
    let outside : byte_at (laid c.args.memory.now c.args.queue.now.items) c.args.addr ≡ None = search rules in
    let none = stays_out s (older c.args.self.now.items c.args.count) _ c.args.addr reads outside in
    rw (c.in-Byte.is, c.from_residual.ensures, none) refl

pub returns-in_err-byte-in-Half : goal.returns-in_err-byte-in-Half
returns-in_err-byte-in-Half c = λ s reads.
    let claims = older c.args.self.now.items c.args.count in
    let outside : byte_at (laid c.args.memory.now c.args.queue.now.items) c.args.addr ≡ None = search rules in
    rw (c.in-Half.is, c.from_residual-in_err-byte-in-Half.ensures)
    (sym (half_none (memory_of (with_claims s claims)) c.args.addr (stays_out s claims _ c.args.addr reads outside)))

pub returns-in_err-byte-in-Half-2 : goal.returns-in_err-byte-in-Half-2
returns-in_err-byte-in-Half-2 c = λ s reads.
    let claims = older c.args.self.now.items c.args.count in
    let outside : byte_at (laid c.args.memory.now c.args.queue.now.items) (c.args.addr + 1) ≡ None = search rules in
    rw (c.in-Half.is, c.from_residual-in_err-byte-in-Half-2.ensures)
    (sym (half_high_none (memory_of (with_claims s claims)) c.args.addr (stays_out s claims _ (c.args.addr + 1) reads outside)))

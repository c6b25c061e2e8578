use Rattle.std.proofs.Common.{◌≡◌, ◌+◌, Some}
use Rattle.diva_isa.specs.State.{State, byte_of}
use Rattle.diva_core.specs.Older.{older, with_claims}
use Rattle.diva_core.specs.Inner.{HasBytes}
use Rattle.diva_core.proofs.pending.Pending.word_after.Given as goal

abbrev pub invariant-loop-place : goal.invariant-loop-place
invariant-loop-place l =
    (s : State) → HasBytes (with_claims s (older l.self.items l.from)) l.addr l.fn.bytes
    → let t : State = with_claims s (older l.self.items l.place) in
    (byte_of t l.addr ≡ Some l.byte0) × (byte_of t (l.addr + 1) ≡ Some l.byte1) × (byte_of t (l.addr + 2) ≡ Some l.byte2) × (byte_of t (l.addr + 3) ≡ Some l.byte3)

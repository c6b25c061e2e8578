use Rattle.std.proofs.Common.{◌≡◌, Some}
use Rattle.diva_isa.specs.State.{State, byte_of}
use Rattle.diva_core.specs.Older.{older, with_claims}
use Rattle.diva_core.proofs.pending.Pending.byte_after.Given as goal

abbrev pub invariant-loop-place : goal.invariant-loop-place
invariant-loop-place l = (s : State) → byte_of s l.addr ≡ Some l.byte → byte_of (with_claims s (older l.self.items l.place)) l.addr ≡ Some l.latest

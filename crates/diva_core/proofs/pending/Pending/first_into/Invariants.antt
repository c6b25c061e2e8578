use Rattle.std.proofs.Common.{◌≡◌, ◌<◌, ℕ, ◌+◌}
use Rattle.diva_isa.specs.State.{State, byte_of}
use Rattle.diva_core.specs.Older.{older, with_claims}
use Rattle.diva_core.proofs.pending.Pending.first_into.Given as goal

abbrev pub invariant-loop-place : goal.invariant-loop-place
invariant-loop-place l =
    (s : State) (i : ℕ) → i < 4 → byte_of (with_claims s (older l.self.items l.place)) (l.addr + i) ≡ byte_of s (l.addr + i)

use Rattle.std.proofs.Common.{◌≡◌, ◌≤◌, ◌+◌, length}
use Rattle.diva_isa.specs.State.{State, output_limit}
use Rattle.diva_core.specs.Older.{older, with_claims}
use Rattle.diva_core.proofs.pending.Pending.out_len_after.Given as goal

abbrev pub invariant-loop-place : goal.invariant-loop-place
invariant-loop-place l = record {
  len : (s : State) → length s.output ≡ l.len → length (with_claims s (older l.self.items l.place)).output ≡ l.latest;
  few : l.latest ≤ output_limit + l.place;
}

use Rattle.std.proofs.Common.{◌≡◌, ◌+◌, ◌<◌, ℕ, length, take, get_or}
use Rattle.diva_faults.specs.Inner.{latest_end}
use Rattle.diva_faults.proofs.schedule.hush_ends_of.Given as goal

abbrev pub invariant-loop-row : goal.invariant-loop-row
invariant-loop-row l = record {
  so_far : l.latest ≡ latest_end (take l.row-index l.rows);
  beside : length l.ends.items ≡ l.row-index;
  latest : (k : ℕ) → k < l.row-index → get_or l.ends.items k 0 ≡ latest_end (take (k + 1) l.rows);
}

use Rattle.std.proofs.Common.{◌≡◌, ℕ, ◌-◌, ◌<◌, ◌≤◌, [], length, take, drop, true, false}
use Rattle.diva_ooo.specs.Board.{can_at, is_load}
use Rattle.diva_ooo.specs.Issue.{are_stored, is_waiting, issued_from}
use Rattle.diva_ooo.specs.MarkSets.{has, holds_at}
use Rattle.diva_ooo.proofs.issuing.issue.Given as goal

abbrev pub invariant-loop-at : goal.invariant-loop-at
invariant-loop-at l = record {
  left : issued_from l.ahead l.view l.begun (take l.at l.window) (drop l.at l.window) ≡ issued_from l.ahead l.view 0 [] l.fn.window;
  few : l.begun < 2;
  passed : (i : ℕ) → i < l.at → has l.candidates i ≡ false;
  here : l.at < 64 → has l.candidates l.at ≡ true;
  waits : (i : ℕ) → has l.candidates i ≡ true → holds_at (λ e. is_waiting e.progress) l.window i ≡ true;
  stored : (i : ℕ) → has l.candidates i ≡ true → holds_at is_load l.window i ≡ true → are_stored (take i l.window) ≡ true;
  others : (i : ℕ) → l.at ≤ i → has l.candidates i ≡ false → can_at [] l.window i ≡ false;
}

abbrev pub decreases-loop-at : goal.decreases-loop-at
decreases-loop-at l = length l.window - l.at

use Rattle.std.proofs.Common.{◌≡◌, ◌<◌, ◌≤◌, ℕ, length, get_or, false, if◌then◌else◌}
use Rattle.std.specs.Prelude.{nat_lt}
use Rattle.diva_ooo.specs.Board.{no_mark}
use Rattle.diva_ooo.specs.MarkSets.{has}
use Rattle.diva_ooo.proofs.board.keep_below.Given as goal

abbrev pub invariant-loop-n : goal.invariant-loop-n
invariant-loop-n l = record {
  before : (n : ℕ) → n < l.n → (i : ℕ) → has (get_or l.sets n no_mark) i ≡ (if nat_lt i l.end then has (get_or l.fn.sets n no_mark) i else false);
  after : (n : ℕ) → l.n ≤ n → get_or l.sets n no_mark ≡ get_or l.fn.sets n no_mark;
  long : length l.sets ≡ 32;
}

use Rattle.std.proofs.Common.{◌≡◌, ◌<◌, ◌≤◌, ◌+◌, ℕ, length, get_or}
use Rattle.diva_ooo.specs.Board.{no_mark}
use Rattle.diva_ooo.specs.MarkSets.{has}
use Rattle.diva_ooo.proofs.board.lower.Given as goal

abbrev pub invariant-loop-n : goal.invariant-loop-n
invariant-loop-n l = record {
  before : (n : ℕ) → n < l.n → (i : ℕ) → has (get_or l.sets n no_mark) i ≡ has (get_or l.fn.sets n no_mark) (32 + i);
  after : (n : ℕ) → l.n ≤ n → get_or l.sets n no_mark ≡ get_or l.fn.sets n no_mark;
  long : length l.sets ≡ 32;
}

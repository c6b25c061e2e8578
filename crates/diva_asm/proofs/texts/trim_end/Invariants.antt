use Rattle.std.proofs.Common.{◌≡◌, ◌≤◌, ◌<◌, ℕ, get_or, true, length}
use Rattle.diva_outside.specs.Words.{is_blank}
use Rattle.diva_asm.proofs.texts.trim_end.Given as goal

abbrev pub invariant-loop-end : goal.invariant-loop-end
invariant-loop-end l = record { within : l.end ≤ length l.text; blanks : (k : ℕ) → l.end ≤ k → k < length l.text → is_blank (get_or l.text k 0) ≡ true }

abbrev pub decreases-loop-end : goal.decreases-loop-end
decreases-loop-end l = l.end

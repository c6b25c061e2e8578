-- The words so far were read.
use Rattle.std.proofs.Common.{◌≡◌, length}
use Rattle.diva_outside.specs.Words.{words_of}
use Rattle.diva_tape.proofs.Numbering.{IsRead}
use Rattle.diva_tape.proofs.reading.claim_in.Given as goal

abbrev pub invariant-loop-word : goal.invariant-loop-word
invariant-loop-word l = record {
  can_next : (goal.iterator-loop-word).can_next l.word-iterator;
  is_finite : (goal.iterator-loop-word).is_finite l.word-iterator;
  eight : length l.numbers ≡ 8;
  read : IsRead (words_of l.part) l.word-iterator l.numbers l.count l.is_over;
}

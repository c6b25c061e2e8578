-- The numbers so far are written, a space before each but the first.
use Rattle.std.proofs.Common.{◌≡◌, ◌≤◌, ◌*◌, ◌+◌, ◌∷◌, ◌++◌, length, take}
use Rattle.std.specs.List.{flat_map}
use Rattle.diva_outside.specs.Text.{hex_word}
use Rattle.diva_tape.proofs.piece.tape_piece.Given as goal

abbrev pub invariant-loop-number : goal.invariant-loop-number
invariant-loop-number l = record {
  text : l.line ≡ l.initial.line ++ flat_map (λ number. 32 ∷ hex_word number) (take l.number-index l.number-items);
  len : length l.line ≡ length l.initial.line + 9 * l.number-index;
  short : length l.initial.line ≤ 11;
}

-- How a line is cut into cells.
use Rattle.std.proofs.Common.{◌≡◌, ◌<◌, ◌-◌, ℕ, ◌+◌, [], ◌∷◌, take, drop, length, Bool, true, false, refl, ◌∙◌, arith}
use Rattle.std.specs.Prelude.{Some, None}
use Rattle.std.specs.List.{count_by, position, position_or_len}
use Rattle.std.proofs.lemmas.Grind.{common_steps}
use Rattle.std.proofs.lemmas.List.Splits.{length-slice_split, slice_split_first}
use Rattle.diva_outside.specs.Text.{Text}
use Rattle.diva_rate.specs.Cells.{cells_of, is_comma}
use Rattle.diva_outside.proofs.Splitting.{after_place}

pub cells_commas : (line : Text) → length (cells_of line) ≡ count_by is_comma line + 1
cells_commas line = length-slice_split is_comma line

-- a text without a comma is one cell
split-step : (b : ℕ) (text : Text) (t : Bool) → is_comma b ≡ t
    → (position is_comma text ≡ None → cells_of text ≡ text ∷ [])
    → position is_comma (b ∷ text) ≡ None → cells_of (b ∷ text) ≡ (b ∷ text) ∷ []
split-step b text true p more none = grind (arith, common_steps)
split-step b text false p more none = grind (arith, common_steps)

pub cut_end : (text : Text) → position is_comma text ≡ None → cells_of text ≡ text ∷ []
cut_end [] none = refl
cut_end (b ∷ text) none = split-step b text (is_comma b) refl (cut_end text) none

-- a text is cut at its first comma
pub cut_at : (text : Text) (at : ℕ) → position is_comma text ≡ Some at → at < length text
    → cells_of text ≡ take at text ∷ cells_of (take (length text - (at + 1)) (drop (at + 1) text))
cut_at text at found inside =
    let is : position_or_len is_comma text ≡ at = grind (arith, common_steps) in
    let before : position_or_len is_comma text < length text = omega (arith, is) in
    rw (after_place is_comma text at found) (slice_split_first is_comma text 0 before ∙ rw is refl)

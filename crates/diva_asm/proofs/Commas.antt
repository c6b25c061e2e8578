-- Texts between commas.
use Rattle.std.proofs.Common.{◌≡◌, ◌<◌, ℕ, ◌+◌, List, [], ◌∷◌, length, Bool, true, false, cond, not, refl, arith}
use Rattle.std.specs.Prelude.{Some}
use Rattle.std.specs.List.{position_or_len, slice_split, before_first, after_first}
use Rattle.std.proofs.lemmas.List.Splits.{slice_split_first}
use Rattle.diva_asm.specs.Texts.{trim, is_comma, operand_texts}

pub one_part : (p : ℕ → Bool) (text : List ℕ) → position_or_len p text ≡ length text → slice_split p text ≡ text ∷ []
one_part p [] e = refl
one_part p (b ∷ text) e = step (one_part p text) (p b) refl e
  where
    step : (position_or_len p text ≡ length text → slice_split p text ≡ text ∷ []) → (t : Bool) → p b ≡ t → cond (not t) (1 + position_or_len p text) 0 ≡ length (b ∷ text) → slice_split p (b ∷ text) ≡ (b ∷ text) ∷ []
    step more true q h = absurd (omega arith)
    step more false q h = rw (q, more (omega arith)) refl

-- one text, and the first of several
pub last_text : (text : List ℕ) → position_or_len is_comma text ≡ length text → operand_texts (Some text) ≡ trim text ∷ []
last_text text e = rw (one_part is_comma text e) refl

pub first_of_texts : (text : List ℕ) → position_or_len is_comma text < length text
    → operand_texts (Some text) ≡ trim (before_first is_comma text) ∷ operand_texts (Some (after_first is_comma text))
first_of_texts text h = rw (slice_split_first is_comma text 0 h) refl

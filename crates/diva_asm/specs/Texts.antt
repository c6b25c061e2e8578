-- How a line is cut: blanks, names, and what stands between commas.
-- Cited in `Statements.antt`, for `assemble`.
use Rattle.std.specs.Prelude.{ℕ, ◌==◌, ◌&&◌, ◌||◌, ◌-◌, nat_le, not, Bool, get_or, List, [], ◌∷◌, ◌++◌, length, take, map, Option, Some, None, if◌then◌else◌}
use Rattle.std.specs.List.{before_first, position_or_len, suffix_len, slice_split}
use Rattle.diva_outside.specs.Text.{Text}
use Rattle.diva_outside.specs.Words.{begins_comment, from_first, is_blank, is_letter}

-- what stands before a line's comment
abbrev pub without_comment : Text → Text
without_comment line = before_first begins_comment line

-- ---- blanks

abbrev pub trim_start : Text → Text
trim_start text = from_first is_letter text

unfoldable pub trim_end : Text → Text
trim_end text = take (length text - suffix_len is_blank text) text

-- a text without the blanks at its ends
unfoldable pub trim : Text → Text
trim text = trim_end (trim_start text)

-- ---- names

-- a letter or _
abbrev pub begins_name : ℕ → Bool
begins_name b = (nat_le 97 b && nat_le b 122) || (nat_le 65 b && nat_le b 90) || (b == 95)

-- a letter, a digit or _
abbrev pub continues_name : ℕ → Bool
continues_name b = begins_name b || (nat_le 48 b && nat_le b 57)

abbrev pub ends_name : ℕ → Bool
ends_name b = not (continues_name b)

-- how long the name is that a text begins with: a letter or _, then letters, digits or _
unfoldable pub name_len : Text → ℕ
name_len text = if begins_name (get_or text 0 0) then position_or_len ends_name text else 0

unfoldable pub is_name : Text → Bool
is_name text = not (length text == 0) && (name_len text == length text)

-- ---- labels

abbrev pub is_colon : ℕ → Bool
is_colon b = b == 58

-- a line's labels, and what follows them
pub record Labelled : Type 0 where
  pub names : List Text
  pub rest : Text

abbrev pub onto_names : Text → Labelled → Labelled
onto_names name text = record { names = name ∷ text.names; rest = text.rest }

-- the names that stand before colons at the beginning, and what follows them; `passed` stands behind the last colon
abbrev pub labels_after : Text → Text → Labelled
labels_after passed [] = record { names = []; rest = passed }
labels_after passed (b ∷ text) =
    if is_colon b
    then (if is_name (trim passed) then onto_names (trim passed) (labels_after [] text)
    else record { names = []; rest = passed ++ b ∷ text })
    else labels_after (passed ++ b ∷ []) text

unfoldable pub labels_of : Text → Labelled
labels_of text = labels_after [] text

-- ---- operands

abbrev pub is_comma : ℕ → Bool
is_comma b = b == 44

-- a mnemonic ends before a blank or a comma
abbrev pub ends_mnemonic : ℕ → Bool
ends_mnemonic b = is_blank b || is_comma b

-- the texts of the operands, between which commas stand; none where nothing stands there
abbrev pub operand_texts : Option Text → List Text
operand_texts None = []
operand_texts (Some text) = map trim (slice_split is_comma text)

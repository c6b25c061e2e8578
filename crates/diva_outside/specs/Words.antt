-- The words of a line.
-- Cited by `words` and `without_comment`.
use Rattle.std.specs.Prelude.{ℕ, ◌==◌, ◌||◌, not, Bool, List, length, drop, filter}
use Rattle.std.specs.List.{before_first, position_or_len, slice_split}
use Rattle.diva_outside.specs.Text.{Text}

-- `#` begins a comment
abbrev pub begins_comment : ℕ → Bool
begins_comment b = b == 35

-- a space, a tab or a carriage return
abbrev pub is_blank : ℕ → Bool
is_blank b = (b == 32) || (b == 9) || (b == 13)

abbrev pub is_letter : ℕ → Bool
is_letter b = not (is_blank b)

-- a text from the first byte on that passes a test
abbrev pub from_first : (ℕ → Bool) → Text → Text
from_first p text = drop (position_or_len p text) text

-- a word is not empty
abbrev pub is_word : Text → Bool
is_word part = not (length part == 0)

-- the words of a text, which blanks separate
unfoldable pub words_in : Text → List Text
words_in text = filter is_word (slice_split is_blank text)

-- the words of a line, its comment left out
abbrev pub words_of : Text → List Text
words_of line = words_in (before_first begins_comment line)

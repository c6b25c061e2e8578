-- The next words of a line, each as what is due there.
-- Cited by `LineWords::number`, `hex` and `end`.
use Rattle.std.specs.Prelude.{ℕ, ◌≤◌, ◌&&◌, nat_le, List, [], ◌∷◌, Option, Some, None, option_and_then, Result, Ok, Err, if◌then◌else◌}
use Rattle.std.specs.Option.{ok_or}
use Rattle.diva_outside.specs.Numbers.{decimal_of, hex_of}
use Rattle.diva_outside.specs.Steps.{and_then, fault_by}
use Rattle.diva_outside.specs.Text.{Text}
use Rattle.diva_outside.specs.declared.next_words.WordFault.{WordFault}
use Rattle.diva_outside.specs.declared.next_words.WordFault.TheVariants.{Count, Unreadable}

-- ---- one word

-- a number in a range
pub record IsInRange (low high n : ℕ) : Type 0 where
  pub least : low ≤ n
  pub most : n ≤ high

abbrev pub ranged : ℕ → ℕ → ℕ → Option ℕ
ranged low high n = if nat_le low n && nat_le n high then Some n else None

-- the first word as a decimal number from low to high
unfoldable pub first_number : (low high : ℕ) → List Text → Result ℕ WordFault
first_number low high [] = Err Count
first_number low high (word ∷ words) = ok_or (option_and_then (ranged low high) (decimal_of word)) Unreadable

-- the first word as one to eight hex digits
unfoldable pub first_hex : List Text → Result ℕ WordFault
first_hex [] = Err Count
first_hex (word ∷ words) = ok_or (hex_of word) Unreadable

-- no word is left over
abbrev pub no_more : List Text → Result (Unit {0}) WordFault
no_more [] = Ok tt
no_more (word ∷ words) = Err Count

-- ---- words from the left

abbrev pub others_of : List Text → List Text
others_of [] = []
others_of (word ∷ words) = words

-- what a rule makes of the words by the first of them, and then the others by what that says
abbrev pub with_first : {A B E : Type 0} → (List Text → Result A E) → List Text → (A → List Text → Result B E) → Result B E
with_first rule words next = and_then (rule words) (λ value. next value (others_of words))

-- ---- the same, where a format has a kind of its own for each fault of a word

abbrev pub number_in : {K : Type 0} → (WordFault → K) → (low high : ℕ) → List Text → Result ℕ K
number_in kind_of low high words = fault_by kind_of (first_number low high words)

abbrev pub hex_in : {K : Type 0} → (WordFault → K) → List Text → Result ℕ K
hex_in kind_of words = fault_by kind_of (first_hex words)

-- a value, behind which no word is left over
abbrev pub and_no_more : {A K : Type 0} → (WordFault → K) → A → List Text → Result A K
and_no_more kind_of value words = and_then (fault_by kind_of (no_more words)) (λ done. Ok value)

-- The lines of a text, and how a text is read line by line.
-- Cited by `lines` and `fold_lines`.
use Rattle.std.specs.Prelude.{ℕ, ◌+◌, ◌==◌, Bool, List, [], ◌∷◌, Result, Ok, Err, if◌then◌else◌}
use Rattle.std.specs.List.{onto_first}
use Rattle.diva_outside.specs.Text.{Text}

-- a line feed
abbrev pub is_feed : ℕ → Bool
is_feed b = b == 10

-- the lines of a text: each ends with a line feed, which the last one may lack
abbrev pub lines_of : Text → List Text
lines_of [] = []
lines_of (b ∷ bytes) = if is_feed b then [] ∷ lines_of bytes else onto_first b (lines_of bytes)

-- what is wrong with a text: a line, counted from 1, and the number of the kind of its fault
pub record LineFault : Type 0 where
  pub line : ℕ
  pub kind : ℕ

-- what follows a line that has no fault, else its fault; the kinds of faults have numbers
abbrev pub at_line : {A K : Type 0} → (K → ℕ) → ℕ → Result A K → (A → Result A LineFault) → Result A LineFault
at_line number n (Ok kept) next = next kept
at_line number n (Err kind) next = Err (record { line = n; kind = number kind })

-- what the lines from line n on make of what is kept so far by a step for each line, or the first fault: that of the first
-- line whose step gives a kind
abbrev pub over_lines : {A K : Type 0} → (K → ℕ) → (A → Text → Result A K) → ℕ → A → List Text → Result A LineFault
over_lines number step n kept [] = Ok kept
over_lines number step n kept (line ∷ lines) = at_line number n (step kept line) (λ next. over_lines number step (n + 1) next lines)

-- the same of all lines of a text
abbrev pub fold_lines : {A K : Type 0} → (K → ℕ) → (A → Text → Result A K) → A → Text → Result A LineFault
fold_lines number step kept text = over_lines number step 1 kept (lines_of text)

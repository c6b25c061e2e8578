-- Texts whose lines are items: one for each line that has words.
-- Cited by `read_items`.
use Rattle.std.specs.Prelude.{ℕ, List, [], ◌∷◌, ◌++◌, length, Option, Some, None, Result, Ok, Err}
use Rattle.diva_outside.specs.Lines.{LineFault, fold_lines}
use Rattle.diva_outside.specs.Steps.{and_then}
use Rattle.diva_outside.specs.Text.{Text}
use Rattle.diva_outside.specs.Words.{words_of}

-- what a rule makes of the first word of a line and the others, if there are words
abbrev pub if_words : {A K : Type 0} → (Text → List Text → Result A K) → List Text → Result (Option A) K
if_words rule [] = Ok None
if_words rule (word ∷ words) = and_then (rule word words) (λ item. Ok (Some item))

-- a list, unless its last item is one too many
abbrev pub unless_surplus : {A K : Type 0} → Option K → List A → Result (List A) K
unless_surplus None items = Ok items
unless_surplus (Some kind) items = Err kind

-- the items so far with that of one more line, if it has one; `surplus` gives the kind of the fault of an item that is one too
-- many behind so many
abbrev pub and_item : {A K : Type 0} → (ℕ → Option K) → List A → Option A → Result (List A) K
and_item surplus items None = Ok items
and_item surplus items (Some item) = unless_surplus (surplus (length items)) (items ++ item ∷ [])

-- the items so far with that of one more line, by a rule for its first word and the others
abbrev pub with_item : {A K : Type 0} → (Text → List Text → Result A K) → (ℕ → Option K) → List A → Text → Result (List A) K
with_item rule surplus items line = and_then (if_words rule (words_of line)) (and_item surplus items)

-- the items of a text in their order, or its first fault
abbrev pub items_of : {A K : Type 0} → (K → ℕ) → (Text → List Text → Result A K) → (ℕ → Option K) → Text → Result (List A) LineFault
items_of number rule surplus text = fold_lines number (with_item rule surplus) [] text

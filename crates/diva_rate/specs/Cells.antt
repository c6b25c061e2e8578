-- The cells of a line, each as what is due there.
-- Cited in `Injections.antt`, for `Injections::read`.
use Rattle.std.specs.Prelude.{ℕ, ◌-◌, ◌^◌, ◌==◌, Bool, true, false, List, [], ◌∷◌, length, codes, find, Option, Some, None, option_and_then, Result, Ok, Err, if◌then◌else◌}
use Rattle.std.specs.List.{slice_split}
use Rattle.std.specs.Option.{ok_or}
use Rattle.std.specs.Str.{bytes_eq}
use Rattle.diva_core.specs.declared.differences.Field.{Field}
use Rattle.diva_core.specs.Difference.{all_fields, field_name}
use Rattle.diva_outside.specs.NextWords.{others_of, ranged}
use Rattle.diva_outside.specs.Numbers.{spelled_number}
use Rattle.diva_outside.specs.Steps.{and_then}
use Rattle.diva_outside.specs.Text.{Text}
use Rattle.diva_rate.specs.Names.{all_endings, all_models, ending_name, model_name}
use Rattle.diva_rate.specs.declared.fault.Kind.{Kind}
use Rattle.diva_rate.specs.declared.fault.Kind.TheVariants.{Number, Word}
use Rattle.diva_rate.specs.declared.injection.FaultModel.{FaultModel}
use Rattle.diva_rate.specs.declared.injection.OpenEnding.{OpenEnding}

abbrev pub is_comma : ℕ → Bool
is_comma b = b == 44

-- the cells of a line, which commas separate
abbrev pub cells_of : Text → List Text
cells_of line = slice_split is_comma line

-- the first cell; an empty one if there is none
abbrev pub first_cell : List Text → Text
first_cell [] = []
first_cell (cell ∷ cells) = cell

-- ---- one cell

-- the number up to `most` that one to 19 decimal digits spell
unfoldable pub number_to : (most : ℕ) → Text → Option ℕ
number_to most cell = option_and_then (ranged 0 most) (spelled_number 10 19 cell)

abbrev pub is_empty : Text → Bool
is_empty cell = length cell == 0

-- what a rule says of a cell, nothing of an empty one
abbrev pub if_filled : {A : Type 0} → (Text → Result A Kind) → Text → Result (Option A) Kind
if_filled rule cell = if is_empty cell then Ok None else and_then (rule cell) (λ value. Ok (Some value))

-- ---- the first cell, as what is due there

-- a number below 2^63
abbrev pub number_of : Text → Result ℕ Kind
number_of cell = ok_or (number_to (2 ^ 63 - 1) cell) Number

-- a bit: a number up to 31
abbrev pub bit_of : Text → Result ℕ Kind
bit_of cell = ok_or (number_to 31 cell) Number

abbrev pub model_of : Text → Result FaultModel Kind
model_of cell = ok_or (find (λ model. bytes_eq cell (model_name model)) all_models) Word

abbrev pub field_of : Text → Result Field Kind
field_of cell = ok_or (find (λ field. bytes_eq cell (field_name field)) all_fields) Word

abbrev pub ending_of : Text → Result OpenEnding Kind
ending_of cell = ok_or (find (λ ending. bytes_eq cell (ending_name ending)) all_endings) Word

-- yes or no
abbrev pub answer_of : Text → Result Bool Kind
answer_of cell = if bytes_eq cell (codes "yes") then Ok true else (if bytes_eq cell (codes "no") then Ok false else Err Word)

-- ---- the first cell of some, and then the others

-- what a rule makes of the first cell, and then the others by what that says
abbrev pub with_cell : {A B : Type 0} → (Text → Result A Kind) → List Text → (A → List Text → Result B Kind) → Result B Kind
with_cell rule cells next = and_then (rule (first_cell cells)) (λ value. next value (others_of cells))

-- What a list of names with commas between them stands for.
-- Cited in `Inject.antt`, for `read_lab_words`.
use Rattle.std.specs.Prelude.{ℕ, ◌==◌, nat_le, Bool, List, [], ◌∷◌, length, find, Option, Some, None, option_and_then, option_map, if◌then◌else◌}
use Rattle.std.specs.List.{slice_split}
use Rattle.std.specs.Str.{bytes_eq}
use Rattle.clap.specs.Walk.{Text}
use Rattle.diva_core.specs.declared.differences.Field.{Field}
use Rattle.diva_core.specs.Difference.{all_fields, field_name}
use Rattle.diva_inject.specs.Models.{model_name}
use Rattle.diva_inject.specs.declared.models.FaultModel.{FaultModel}
use Rattle.diva_inject.specs.declared.models.FaultModel.TheVariants.{Flip, Set, Lose, Double, Hush, Stuck}

abbrev pub is_comma : ℕ → Bool
is_comma byte = byte == 44

-- what each of some names stands for, if each stands for something
abbrev pub all_named : {A : Type 0} → (named : Text → Option A) → List Text → Option (List A)
all_named named [] = Some []
all_named named (name ∷ names) = option_and_then (λ x. option_map (λ xs. x ∷ xs) (all_named named names)) (named name)

-- the items, if they are no more than so many
abbrev pub at_most : {A : Type 0} → ℕ → List A → Option (List A)
at_most most items = if nat_le (length items) most then Some items else None

-- the items of the names in a word, in their order; a name may stand there twice
unfoldable pub choice_of : {A : Type 0} → (named : Text → Option A) → (most : ℕ) → Text → Option (List A)
choice_of named most word = option_and_then (at_most most) (all_named named (slice_split is_comma word))

abbrev pub all_models : List FaultModel
all_models = Flip ∷ Set ∷ Lose ∷ Double ∷ Hush ∷ Stuck ∷ []

-- the model, and the field, of a name
abbrev pub model_named : Text → Option FaultModel
model_named name = find (λ model. bytes_eq name (model_name model)) all_models

abbrev pub field_named : Text → Option Field
field_named name = find (λ field. bytes_eq name (field_name field)) all_fields

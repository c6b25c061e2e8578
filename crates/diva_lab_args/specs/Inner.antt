-- The items of a list of names so far.
-- Only private contracts of this crate cite this: a reader of its promises can pass over it.
use Rattle.std.specs.Prelude.{ℕ, List, [], ◌∷◌, ◌++◌, Option, Some, None, option_and_then}
use Rattle.clap.specs.Walk.{Text}
use Rattle.diva_lab_args.specs.Choices.{at_most}

abbrev pub items_in : {A : Type 0} → Option (List A) → List A
items_in None = []
items_in (Some items) = items

-- the items with that of one more name, if there is room for it
abbrev pub with_name : {A : Type 0} → (named : Text → Option A) → (most : ℕ) → List A → Text → Option (List A)
with_name named most items name = option_and_then (λ x. at_most most (items ++ x ∷ [])) (named name)

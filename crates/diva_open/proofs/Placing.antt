-- The place where a claim leaves, by whether it is the record that is due.
use Rattle.std.proofs.Common.{◌≡◌, ◌≢◌, ℕ, List, [], ◌∷◌, Option, Some, None, refl, ap, ◌∙◌}
use Rattle.std.proofs.lemmas.Bool.{eq-eqb}
use Rattle.diva_isa.specs.declared.record.Record.{Record}
use Rattle.diva_core.specs.declared.differences.Diff.{Diff}
use Rattle.diva_core.specs.declared.differences.Field.{Field}
use Rattle.diva_core.specs.Difference.{all_fields, difference_in, field_of, first_difference}
use Rattle.diva_core.proofs.Differing.{difference-none}
use Rattle.diva_open.specs.Open.{place_behind}

no_difference_in : (fs : List Field) (r : Record) → difference_in fs r r ≡ None
no_difference_in [] r = refl
no_difference_in (f ∷ fs) r = rw (eq-eqb (field_of f r) (field_of f r) refl) (no_difference_in fs r)

-- an equal claim has no difference
pub no_difference : (r : Record) → first_difference r r ≡ None
unfolding first_difference
no_difference r = no_difference_in all_fields r

pub place_of_due : (count : ℕ) (p r : Record) → p ≡ r → place_behind None count (first_difference p r) ≡ None
place_of_due count p r e =
    ap (λ (z : Record). place_behind None count (first_difference z r)) e ∙ ap (place_behind None count) (no_difference r)

pub place_of_other : (count : ℕ) (p r : Record) → p ≢ r → place_behind None count (first_difference p r) ≡ Some count
place_of_other count p r other = by_difference (first_difference p r) refl
  where
    by_difference : (o : Option Diff) → first_difference p r ≡ o → place_behind None count o ≡ Some count
    by_difference None e = absurd (other (difference-none p r e))
    by_difference (Some d) e = refl

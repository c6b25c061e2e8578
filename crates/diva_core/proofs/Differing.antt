-- What a difference says, and what none says.
use Rattle.std.specs.Prelude.{IfSome}
use Rattle.std.proofs.Common.{◌≡◌, Bool, true, false, ◌==◌, List, [], ◌∷◌, Option, Some, None, refl, sym, subst, cond}
use Rattle.std.proofs.lemmas.Bool.{eqb-true, eqb-false}
use Rattle.std.proofs.lemmas.Option.{none-some, same_Some}
use Rattle.diva_isa.specs.declared.record.Record.{Record}
use Rattle.diva_core.specs.declared.differences.Field.{Field}
use Rattle.diva_core.specs.declared.differences.Diff.{Diff}
use Rattle.diva_core.specs.Difference.{field_of, difference_in, all_fields, first_difference, IsDifference}

-- p and r are equal in some fields
abbrev pub AreSame : List Field → Record → Record → Type 0
AreSame [] p r = Unit {0}
AreSame (f ∷ fs) p r = (field_of f p ≡ field_of f r) × AreSame fs p r

unless-none : (b : Bool) (o : Option Diff) (d : Diff) → cond b o (Some d) ≡ None → (b ≡ true) × (o ≡ None)
unless-none true o d e = (refl, e)
unless-none false o d e = absurd (none-some _ (sym e))

unless-some : (b : Bool) (o : Option Diff) (c d : Diff) (P : Diff → Type 0) → cond b o (Some c) ≡ Some d → (o ≡ Some d → P d) → (b ≡ false → P c) → P d
unless-some true o c d P e rest here = rest e
unless-some false o c d P e rest here = subst P (same_Some _ _ e) (here refl)

pub in-none : (fs : List Field) (p r : Record) → difference_in fs p r ≡ None → AreSame fs p r
in-none [] p r e = tt
in-none (f ∷ fs) p r e =
    let both = unless-none (field_of f p == field_of f r) (difference_in fs p r) _ e in (eqb-true _ _ both.0, in-none fs p r both.1)

in-some : (fs : List Field) (p r : Record) (d : Diff) → difference_in fs p r ≡ Some d → IsDifference p r d
in-some [] p r d e = absurd (none-some _ e)
in-some (f ∷ fs) p r d e =
    unless-some (field_of f p == field_of f r) (difference_in fs p r) (record { field = f; claimed = field_of f p; due = field_of f r }) d (IsDifference p r) e
    (in-some fs p r d)
    (λ other. record { claims = refl; dues = refl; differ = eqb-false _ _ other })

same : (p r : Record) → AreSame all_fields p r → p ≡ r
same p r (a, (b, (c, (d, (e, (f, (g, (h, k)))))))) = λ i. record { pc = a i; word = b i; src1 = c i; src2 = d i; addr = e i; value = f i; next = g i; end = h i }

pub difference-some : (p r : Record) (d : Diff) → first_difference p r ≡ Some d → IsDifference p r d
unfolding first_difference
difference-some p r d e = in-some all_fields p r d e

pub difference-none : (p r : Record) → first_difference p r ≡ None → p ≡ r
unfolding first_difference
difference-none p r e = same p r (in-none all_fields p r e)

-- the same of the answer
pub difference_names : (p r : Record) → IfSome (first_difference p r) (IsDifference p r)
difference_names p r = names (first_difference p r) refl
  where
    names : (o : Option Diff) → first_difference p r ≡ o → IfSome o (IsDifference p r)
    names None e = tt
    names (Some d) e = difference-some p r d e

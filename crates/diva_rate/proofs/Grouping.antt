-- The rates of groups, group by group.
use Rattle.std.proofs.Common.{◌≡◌, ◌<◌, ◌≤◌, ◌+◌, ℕ, Bool, true, false, cond, List, [], ◌∷◌, ◌++◌, map, take, get_or, refl, ap, ◌∙◌, take_all}
use Rattle.std.specs.Prelude.{Option}
use Rattle.std.specs.List.{filter}
use Rattle.std.proofs.lemmas.List.{map-append}
use Rattle.std.proofs.lemmas.List.Elements.{filter_more}
use Rattle.diva_rate.specs.Groups.{all_groups, lines_in}
use Rattle.diva_rate.specs.Grouping.{rates_if}
use Rattle.diva_rate.specs.Rates.{has_lines, rates_in}
use Rattle.diva_rate.specs.declared.group.Group.{Group}
use Rattle.diva_rate.specs.declared.group.TheConstants.{GROUPS}
use Rattle.diva_rate.specs.declared.injection.Injection.{Injection}
use Rattle.diva_rate.specs.declared.rates.GroupRates.{GroupRates}

listed : GROUPS ≡ all_groups
listed = refl

-- the rates of the groups up to a place
module _ (base : Option ℕ) (lines : List Injection) where
  abbrev rates_to : ℕ → List GroupRates
  rates_to i = map (λ group. rates_in base group (lines_in group lines)) (filter (has_lines lines) (take i all_groups))

  one : (group : Group) (t : Bool) → map (λ group. rates_in base group (lines_in group lines)) (cond t (group ∷ []) [])
      ≡ cond t (rates_in base group (lines_in group lines) ∷ []) []
  one group true = refl
  one group false = refl

  pub groups_more : (i : ℕ) (d : Group) → i < 48
      → map (λ group. rates_in base group (lines_in group lines)) (filter (has_lines lines) (take (i + 1) all_groups))
      ≡ map (λ group. rates_in base group (lines_in group lines)) (filter (has_lines lines) (take i all_groups)) ++ rates_if base lines (get_or GROUPS i d)
  groups_more i d inside =
      let group : Group = get_or all_groups i d in
      ap (map (λ group. rates_in base group (lines_in group lines))) (filter_more (has_lines lines) all_groups i d inside)
      ∙ map-append (λ group. rates_in base group (lines_in group lines)) (filter (has_lines lines) (take i all_groups)) (cond (has_lines lines group) (group ∷ []) [])
      ∙ ap (λ (l : List GroupRates). rates_to i ++ l) (one group (has_lines lines group))

  pub groups_all : (i : ℕ) → 48 ≤ i
      → map (λ group. rates_in base group (lines_in group lines)) (filter (has_lines lines) (take i all_groups))
      ≡ map (λ group. rates_in base group (lines_in group lines)) (filter (has_lines lines) all_groups)
  groups_all i all = ap (λ (l : List Group). map (λ group. rates_in base group (lines_in group lines)) (filter (has_lines lines) l)) (take_all i all_groups all)

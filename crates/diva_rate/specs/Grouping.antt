-- The rates of one group, if it has lines.
-- Only private contracts of this crate cite this: a reader of its promises can pass over it.
use Rattle.std.specs.Prelude.{ℕ, List, [], ◌∷◌, Option, if◌then◌else◌}
use Rattle.diva_rate.specs.Groups.{lines_in}
use Rattle.diva_rate.specs.Rates.{has_lines, rates_in}
use Rattle.diva_rate.specs.declared.group.Group.{Group}
use Rattle.diva_rate.specs.declared.injection.Injection.{Injection}
use Rattle.diva_rate.specs.declared.rates.GroupRates.{GroupRates}

abbrev pub rates_if : (base : Option ℕ) → List Injection → Group → List GroupRates
rates_if base lines group = if has_lines lines group then rates_in base group (lines_in group lines) ∷ [] else []

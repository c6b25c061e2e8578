-- The rates of injections: what is counted of the lines of each group.
-- Cited by `Injections::rates`, and by what `Rates` shows.
use Rattle.std.specs.Prelude.{ℕ, ◌-◌, nat_lt, max, Bool, List, map, filter, length, Option, Some, None}
use Rattle.std.specs.List.{fold}
use Rattle.diva_rate.specs.Counts.{share_in}
use Rattle.diva_rate.specs.Extra.{base_of, extra_of}
use Rattle.diva_rate.specs.Groups.{all_groups, lines_in}
use Rattle.diva_rate.specs.Injections.{Injections}
use Rattle.diva_rate.specs.Latencies.{latencies_in}
use Rattle.diva_rate.specs.declared.counts.What.TheVariants.{Hit, Found, Same, Ended}
use Rattle.diva_rate.specs.declared.extra.Extra.{Extra}
use Rattle.diva_rate.specs.declared.group.Group.{Group}
use Rattle.diva_rate.specs.declared.injection.Injection.{Injection}
use Rattle.diva_rate.specs.declared.injection.OpenEnding.TheVariants.{Masked, Silent, Trap, Hang, Stray}
use Rattle.diva_rate.specs.declared.rates.GroupRates.{GroupRates}

-- ---- a group

-- the mean of cycles over the base, if there is one
abbrev pub extra_if : Option ℕ → List Injection → Option Extra
extra_if None lines = None
extra_if (Some base) lines = Some (extra_of base lines)

-- the rates of a group that has these lines
abbrev pub rates_in : (base : Option ℕ) → Group → List Injection → GroupRates
rates_in base group lines = record {
  group = group;
  faults = length lines;
  hit = share_in lines Hit;
  found = share_in lines Found;
  same = share_in lines Same;
  masked = share_in lines (Ended Masked);
  silent = share_in lines (Ended Silent);
  trap = share_in lines (Ended Trap);
  hang = share_in lines (Ended Hang);
  stray = share_in lines (Ended Stray);
  latencies = latencies_in lines;
  extra = extra_if base lines;
}

-- ---- all groups

-- a group has lines
abbrev pub has_lines : List Injection → Group → Bool
has_lines lines group = nat_lt 0 (length (lines_in group lines))

-- the rates of each group that has lines
abbrev pub groups_of : List Injection → List GroupRates
groups_of lines = map (λ group. rates_in (base_of lines) group (lines_in group lines)) (filter (has_lines lines) all_groups)

-- ---- numbers of faults

abbrev pub greatest : List Injection → ℕ
greatest lines = fold (λ most line. max line.fault most) 0 lines

-- how many of the numbers from 0 to the greatest have no line: there is one number more than the greatest says, and each line
-- that is counted has one of its own
abbrev pub missing_of : List Injection → ℕ
missing_of lines = greatest lines - (length lines - 1)

-- ---- the whole

-- how many faults are counted, how many further lines there were, how many numbers have no line, and the groups
pub record Rates : Type 0 where
  pub faults : ℕ
  pub twice : ℕ
  pub missing : ℕ
  pub groups : List GroupRates

unfoldable pub rates_of : Injections → Rates
rates_of kept = record {
  faults = length kept.lines;
  twice = kept.twice;
  missing = missing_of kept.lines;
  groups = groups_of kept.lines;
}

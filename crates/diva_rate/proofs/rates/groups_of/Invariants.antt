-- The rates of the groups so far.
use Rattle.std.proofs.Common.{◌≡◌, ◌≤◌, map, take, length}
use Rattle.std.specs.List.{filter}
use Rattle.diva_rate.specs.Extra.{base_of}
use Rattle.diva_rate.specs.Groups.{all_groups, lines_in}
use Rattle.diva_rate.specs.Rates.{has_lines, rates_in}
use Rattle.diva_rate.proofs.rates.groups_of.Given as goal

abbrev pub invariant-loop-group : goal.invariant-loop-group
invariant-loop-group l = record {
  groups : l.groups.items ≡ map (λ group. rates_in (base_of l.lines) group (lines_in group l.lines)) (filter (has_lines l.lines) (take l.group-index all_groups));
  few : length l.groups.items ≤ l.group-index;
}

-- The lines of the group so far.
use Rattle.std.proofs.Common.{◌≡◌, ◌≤◌, length, take}
use Rattle.diva_rate.specs.Groups.{lines_in}
use Rattle.diva_rate.proofs.group.Group.lines_in.Given as goal

abbrev pub invariant-loop-line : goal.invariant-loop-line
invariant-loop-line l = record {
  kept : l.kept.items ≡ lines_in l.self (take l.line-index l.lines);
  few : length l.kept.items ≤ l.line-index;
}

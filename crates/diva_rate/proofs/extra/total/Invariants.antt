-- The cycles so far.
use Rattle.std.proofs.Common.{◌≡◌, ◌≤◌, ◌*◌, ◌^◌, ◌-◌, take}
use Rattle.diva_rate.specs.Extra.{cycles_of}
use Rattle.diva_rate.proofs.extra.total.Given as goal

abbrev pub invariant-loop-line : goal.invariant-loop-line
invariant-loop-line l = record {
  total : l.total ≡ cycles_of (take l.line-index l.lines);
  small : l.total ≤ l.line-index * (2 ^ 64 - 1);
}

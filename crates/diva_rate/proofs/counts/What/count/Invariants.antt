-- The lines that count so far.
use Rattle.std.proofs.Common.{◌≡◌, ◌≤◌, take}
use Rattle.diva_rate.specs.Counts.{count_of}
use Rattle.diva_rate.proofs.counts.What.count.Given as goal

abbrev pub invariant-loop-line : goal.invariant-loop-line
invariant-loop-line l = record {
  count : l.count ≡ count_of l.self (take l.line-index l.lines);
  few : l.count ≤ l.line-index;
}

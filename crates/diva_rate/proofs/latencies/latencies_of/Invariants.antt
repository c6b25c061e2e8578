-- The latencies so far.
use Rattle.std.proofs.Common.{◌≡◌, ◌≤◌, length, take}
use Rattle.diva_rate.specs.Latencies.{latencies_of}
use Rattle.diva_rate.proofs.latencies.latencies_of.Given as goal

abbrev pub invariant-loop-line : goal.invariant-loop-line
invariant-loop-line l = record {
  found : l.found.items ≡ latencies_of (take l.line-index l.lines);
  few : length l.found.items ≤ l.line-index;
}

-- The turns so far, with what was written of them.
use Rattle.std.proofs.Common.{◌≡◌, ◌≤◌, ◌+◌, ℕ, true, Ok}
use Rattle.diva_isa.specs.State.{goes_on}
use Rattle.diva_core.specs.Machine.{IsMachine}
use Rattle.diva_cli.specs.Lanes.{AreHonest, are_asked}
use Rattle.diva_cli.proofs.Seeing.{WatchesSoFar}
use Rattle.diva_cli.proofs.watching.watch_checked.Given as goal

abbrev pub invariant-loop : goal.invariant-loop
invariant-loop g l = record {
  watches : WatchesSoFar g.C.Core.gives g.W.Watcher.puts g.W.Watcher.says l.fn.m l.fn.core l.fn.watcher g.S.Sink.account l.fn.sink (are_asked g.L.Lane.says l.fn.lanes l.lanes l.fn.liar) l.counter l.m l.core l.watcher l.sink (Ok tt);
  can : (n : ℕ) → n + l.counter ≤ l.fn.budget → g.W.Watcher.can l.watcher n;
  on : goes_on l.m.timed.arch ≡ true;
  sound : IsMachine l.m.timed;
  honest : AreHonest g.L.Lane.honest l.lanes;
}

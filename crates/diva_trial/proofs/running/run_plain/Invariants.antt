use Rattle.std.proofs.Common.{◌≤◌, ◌-◌}
use Rattle.diva_trial.specs.Inner.{AreAlike, StandsOn}
use Rattle.diva_trial.proofs.running.run_plain.Given as goal

abbrev pub invariant-loop-m : goal.invariant-loop-m
invariant-loop-m g l = record {
  stands : StandsOn g.M.Driven.step g.C.Core.gives l.fn.script (g.M.Driven.seen l.fn.m) l.fn.core (g.M.Driven.seen l.m) l.core;
  alike : AreAlike (g.M.Driven.seen l.fn.m) (g.M.Driven.seen l.m);
  within : (g.M.Driven.seen l.m).timed.cycles ≤ l.fn.until;
}

abbrev pub decreases-loop-m : goal.decreases-loop-m
decreases-loop-m g l = l.fn.until - (g.M.Driven.seen l.m).timed.cycles

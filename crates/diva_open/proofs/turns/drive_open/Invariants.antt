use Rattle.std.proofs.Common.{◌≤◌, ◌+◌, ◌-◌, ◌≡◌, ◌⊎◌, true}
use Rattle.diva_isa.specs.State.{goes_on}
use Rattle.diva_open.specs.Turns.{OpenTurns}
use Rattle.diva_open.proofs.turns.drive_open.Given as goal

abbrev pub invariant-loop-list : goal.invariant-loop-list
invariant-loop-list g l = record {
  turns : OpenTurns g.C.Core.gives l.fn.m l.fn.core l.m l.core;
  within : l.m.timed.cycles ≤ l.fn.m.timed.cycles + l.fn.budget;
  began : (l.m ≡ l.fn.m) × (l.core ≡ l.fn.core) ⊎ (goes_on l.fn.m.timed.arch ≡ true);
}

abbrev pub decreases-loop-list : goal.decreases-loop-list
decreases-loop-list g l = (l.fn.m.timed.cycles + l.fn.budget) - l.m.timed.cycles

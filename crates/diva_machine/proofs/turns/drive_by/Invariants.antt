use Rattle.std.proofs.Common.{◌≡◌, ◌≤◌, ◌+◌, ◌-◌, true}
use Rattle.diva_isa.specs.State.{goes_on}
use Rattle.diva_core.specs.Machine.{IsMachine}
use Rattle.diva_machine.specs.Inner.{LedTurns}
use Rattle.diva_machine.proofs.turns.drive_by.Given as goal

abbrev pub invariant-loop-list : goal.invariant-loop-list
invariant-loop-list g l = record {
  on : goes_on l.m.timed.arch ≡ true;
  began : goes_on l.fn.m.timed.arch ≡ true;
  within : l.m.timed.cycles ≤ l.fn.m.timed.cycles + l.fn.budget;
  sound : IsMachine l.fn.m.timed;
  outvoted : l.m.outvoted ≡ l.fn.m.outvoted;
  stages : g.S.Stages.sound l.stages;
  led : LedTurns g.C.Core.gives l.fn.m l.fn.core l.m l.core g.S.Stages.led l.fn.stages l.stages;
}

abbrev pub decreases-loop-list : goal.decreases-loop-list
decreases-loop-list g l = (l.fn.m.timed.cycles + l.fn.budget) - l.m.timed.cycles

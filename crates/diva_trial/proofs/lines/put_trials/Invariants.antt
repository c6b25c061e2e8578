use Rattle.std.proofs.Common.{◌-◌}
use Rattle.diva_isa.specs.State.{State}
use Rattle.diva_core.specs.Timed.{Config as Numbers}
use Rattle.diva_inject.specs.Parts.{IsIn, numbers_of}
use Rattle.diva_outside.specs.Lent.{lent}
use Rattle.diva_trial.specs.Begun.{AreReady, AreTrials}
use Rattle.diva_trial.specs.Lines.{IsOutcome, numbers_in}
use Rattle.diva_trial.specs.Putting.{AreOfOneRun, PutsSome}
use Rattle.diva_trial.proofs.lines.put_trials.Given as goal

abbrev pub invariant-loop-number : goal.invariant-loop-number
invariant-loop-number g l = record {
  ready : AreReady l.trials;
  stays : AreOfOneRun g.C.Core.gives l.fn.trials l.trials;
  one : IsIn l.faults.part l.number;
  puts : (config : Numbers) (start : State) (core : g.row.C.Denot) → AreTrials g.C.Core.gives config start core l.fn.trials
      → PutsSome (IsOutcome g.C.Core.gives config start core l.fn.trials l.faults.plan) (numbers_in l.faults) (numbers_of l.faults.part l.number l.faults.count)
      (lent g.S.Sink.account l.fn.sink l.sink);
}

abbrev pub decreases-loop-number : goal.decreases-loop-number
decreases-loop-number g l = l.count - l.number

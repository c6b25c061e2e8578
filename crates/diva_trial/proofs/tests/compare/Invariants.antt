use Rattle.diva_trial.specs.Begun.{AreReady}
use Rattle.diva_trial.proofs.tests.compare.Given as goal

-- runs under a fault can begin, after each row
abbrev pub invariant-loop-fault : goal.invariant-loop-fault
invariant-loop-fault g l = AreReady l.trials

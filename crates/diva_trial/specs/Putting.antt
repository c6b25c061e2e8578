-- What is put of trials so far.
-- Only private contracts of this crate cite this: a reader of its promises can pass over it.
use Rattle.std.specs.Prelude.{ℕ, ◌≡◌, List, ◌++◌, Result, Ok}
use Rattle.diva_outside.specs.Sink.{LentSink, PutsTo}
use Rattle.diva_outside.specs.declared.sink.SinkFailed.{SinkFailed}
use Rattle.diva_isa.specs.State.{State}
use Rattle.diva_core.specs.History.{Meaning}
use Rattle.diva_core.specs.Timed.{Config}
use Rattle.diva_inject.specs.Lines.{outcome_text}
use Rattle.diva_inject.specs.declared.outcome.Outcome.{Outcome}
use Rattle.diva_trial.specs.Begun.{AreTrials}
use Rattle.diva_trial.specs.Lines.{AreOutcomes, trials_text}
use Rattle.diva_trial.specs.declared.trials.Trials.{Trials}

-- a line was put of what became of the runs under a fault, of which this holds
pub record PutsOutcome {S : Type 0} (this : Outcome → Type 0) (sink : LentSink S) (result : Result (Unit {0}) SinkFailed) : Type 0 where
  pub outcome : Outcome
  pub is : this outcome
  pub put : PutsTo sink (outcome_text outcome) result

-- trials are still those of a run
pub record AreOfOneRun {C : Type 0} (gives : Meaning C) (before after : Trials C) : Type 0 where
  pub trials : (config : Config) (start : State) (core : C) → AreTrials gives config start core before → AreTrials gives config start core after
  pub free : after.free ≡ before.free
  pub script : after.script.now ≡ before.script.now
  pub until : after.until ≡ before.until

-- the lines of some faults were put, and these are left
pub record PutsSome {S : Type 0} (this : ℕ → Outcome → Type 0) (numbers left : List ℕ) (sink : LentSink S) : Type 0 where
  pub done : List ℕ
  pub in_order : numbers ≡ done ++ left
  pub outcomes : List Outcome
  pub are : AreOutcomes this done outcomes
  pub put : PutsTo {E = SinkFailed} sink (trials_text outcomes) (Ok tt)

-- What the parts of `inject` promise one another.
-- Only private contracts of this crate cite this: a reader of its promises can pass over it.
use Rattle.std.specs.Prelude.{ℕ, ◌≡◌, List, Result, Ok, Err}
use Rattle.diva_outside.specs.Sink.{LentSink}
use Rattle.diva_outside.specs.declared.sink.SinkFailed.{SinkFailed}
use Rattle.diva_isa.specs.State.{State}
use Rattle.diva_core.specs.History.{Meaning}
use Rattle.diva_core.specs.Timed.{Timed}
use Rattle.diva_faults.specs.declared.rows.Row.{Row}
use Rattle.diva_inject.specs.declared.outcome.Outcome.{Outcome}
use Rattle.diva_process.specs.declared.status.Status.{Status}
use Rattle.diva_process.specs.declared.status.Status.TheVariants.{Halted}
use Rattle.diva_process.specs.declared.stop.Failure.{Failure}
use Rattle.diva_process.specs.declared.stop.Failure.TheVariants.{Cut, Memory}
use Rattle.diva_trial.specs.Lines.{PutsTrials}
use Rattle.diva_trial.specs.Trials.{HasTrial, IsFree}
use Rattle.diva_trial.specs.declared.lines.Faults.{Faults}
use Rattle.diva_lab_args.specs.declared.inject.InjectOptions.{InjectOptions}
use Rattle.diva_workbench.specs.Injects.{fault_in, numbers_by, plan_by}

-- the faults that are run
abbrev pub faults_by : InjectOptions → (free : Timed) → Faults
faults_by options free = record { plan = plan_by options free; part = options.part; first = options.first; count = options.count }

-- the run without a fault was made under a core, and then those under faults, with a line put of each
pub record HasPut {S : Type 0} (options : InjectOptions) (script : List Row) (start : State) (sink : LentSink S)
    (result : Result (Unit {0}) SinkFailed) (D : Type 0) (its : Meaning D) (first : D) : Type 0 where
  pub free : Timed
  pub is : IsFree its options.setup.config start first script options.cycles free
  pub puts : PutsTrials (λ (number : ℕ) (outcome : Outcome). HasTrial its options.setup.config start first script options.cycles free number (fault_in options free number) outcome)
      (numbers_by options) sink result

-- so it is; or memory ran out, and nothing was put
abbrev pub InjectsUnder : {S : Type 0} → InjectOptions → (script : List Row) → (start : State) → LentSink S → Result Status Failure
    → (D : Type 0) → Meaning D → (first : D) → Type 0
InjectsUnder options script start sink (Ok ends) D its first = (ends ≡ Halted) × HasPut options script start sink (Ok tt) D its first
InjectsUnder options script start sink (Err Cut) D its first = HasPut options script start sink (Err (record {})) D its first
InjectsUnder options script start sink (Err Memory) D its first = sink.after ≡ sink.before

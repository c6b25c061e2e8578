-- What trials have made of the run without a fault.
-- Cited by `Trials::new` and `run`.
use Rattle.std.specs.List.{All}
use Rattle.diva_isa.specs.State.{State}
use Rattle.diva_core.specs.Timed.{Config}
use Rattle.diva_core.specs.History.{Meaning}
use Rattle.diva_machine.specs.Machine.{Machine}
use Rattle.diva_open.specs.Laws.{opened}
use Rattle.diva_open.specs.Open.{Open, new_open, open_cycle_of}
use Rattle.diva_trial.specs.declared.trials.Trials.{Trials}
use Rattle.diva_trial.specs.Kept.{CanBegin, IsStand}
use Rattle.diva_trial.specs.Paths.{checked_cycle}
use Rattle.diva_trial.specs.Trials.{IsFree}

-- the machines are those of the run without a fault, on machines with these numbers and under copies of this core: its last one, and those that
-- are kept
pub record AreTrials {C : Type 0} (gives : Meaning C) (config : Config) (start : State) (core : C) (trials : Trials C) : Type 0 where
  pub free : IsFree gives config start core trials.script.now trials.until trials.free.timed
  pub checked : All (IsStand (λ (m : Machine). opened m.timed) checked_cycle gives trials.script.now (new_open config start) core) trials.checked.stands.items
  pub unchecked : All (IsStand (λ (m : Open). m) open_cycle_of gives trials.script.now (new_open config start) core) trials.unchecked.stands.items

-- runs under a fault can begin on them
pub record AreReady {C : Type 0} (trials : Trials C) : Type 0 where
  pub checked : CanBegin (λ (m : Machine). opened m.timed) trials.checked
  pub unchecked : CanBegin (λ (m : Open). m) trials.unchecked

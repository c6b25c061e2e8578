-- What is put of the runs under some faults: a header, and then a line of each as its runs end.
-- Cited by `put_trials`.
use Rattle.std.specs.Prelude.{ℕ, ◌≡◌, List, [], ◌∷◌, ◌++◌, length, take, Result, OnOk, OnErr}
use Rattle.std.specs.List.{flat_map}
use Rattle.diva_outside.specs.Sink.{LentSink, PutsTo, TakesPast}
use Rattle.diva_outside.specs.Text.{Text}
use Rattle.diva_isa.specs.State.{State}
use Rattle.diva_core.specs.History.{Meaning}
use Rattle.diva_core.specs.Timed.{Config}
use Rattle.diva_inject.specs.Lines.{header_text, outcome_text}
use Rattle.diva_inject.specs.Parts.{numbers_of}
use Rattle.diva_inject.specs.Plans.{Plan, fault_at}
use Rattle.diva_inject.specs.declared.outcome.Outcome.{Outcome}
use Rattle.diva_trial.specs.Trials.{HasTrial}
use Rattle.diva_trial.specs.declared.lines.Faults.{Faults}
use Rattle.diva_trial.specs.declared.trials.Trials.{Trials}

-- ---- which faults are run, and what became of them

-- those of the part, from the first number on and below the count
abbrev pub numbers_in : Faults → List ℕ
numbers_in faults = numbers_of faults.part faults.first faults.count

-- this holds of each number and the outcome in its place, and there are as many of both
abbrev pub AreOutcomes : (this : ℕ → Outcome → Type 0) → List ℕ → List Outcome → Type 0
AreOutcomes this [] [] = Unit {0}
AreOutcomes this (number ∷ numbers) (outcome ∷ outcomes) = this number outcome × AreOutcomes this numbers outcomes
AreOutcomes this [] (outcome ∷ outcomes) = ⊥
AreOutcomes this (number ∷ numbers) [] = ⊥

-- this became of the runs under the fault of a number
abbrev pub IsOutcome : {C : Type 0} → Meaning C → Config → (start : State) → (core : C) → Trials C → Plan → (number : ℕ) → Outcome → Type 0
IsOutcome gives config start core trials plan number outcome =
    HasTrial gives config start core trials.script.now trials.until trials.free.timed number (fault_at plan number) outcome

-- ---- the text

abbrev pub trials_text : List Outcome → Text
trials_text outcomes = header_text ++ flat_map outcome_text outcomes

-- what had been put before the last line
abbrev pub before_last : List Outcome → Text
before_last [] = []
before_last (outcome ∷ outcomes) = trials_text (take (length outcomes) (outcome ∷ outcomes))

-- the lines of the faults were put: of all, or, if the sink failed, of the first of them, in the last line of which it did
pub record PutsTrials {S E : Type 0} (this : ℕ → Outcome → Type 0) (numbers : List ℕ) (sink : LentSink S) (result : Result (Unit {0}) E) : Type 0 where
  pub done : List ℕ
  pub later : List ℕ
  pub in_order : numbers ≡ done ++ later
  pub outcomes : List Outcome
  pub are : AreOutcomes this done outcomes
  pub put : PutsTo sink (trials_text outcomes) result
  pub all : OnOk result (later ≡ [])
  pub cut : OnErr result (TakesPast sink (before_last outcomes) (trials_text outcomes))

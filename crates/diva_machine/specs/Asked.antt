-- What is asked of the lanes of a machine that is voted on: of each claim, once at each stage that compares.
-- Cited by `Machine::cycle_voted`, `turn_voted` and `drive_voted`.
use Rattle.std.specs.Prelude.{ℕ, ◌+◌, ◌-◌, ◌==◌, List, [], ◌∷◌, ◌++◌, filter, map, if◌then◌else◌}
use Rattle.diva_isa.specs.State.{State, goes_on}
use Rattle.diva_isa.specs.Step.{apply}
use Rattle.diva_isa.specs.declared.record.Record.{Record}
use Rattle.diva_core.specs.Timed.{Timed, PendingClaim}
use Rattle.diva_core.specs.Cycle.{begun, commits_under, cycle_of, drained, stores_wait}
use Rattle.diva_core.specs.History.{Meaning, lists_of}
use Rattle.diva_vote.specs.declared.stage.Stage.{Stage}
use Rattle.diva_vote.specs.declared.stage.Stage.TheVariants.{Fetch, Operands, Execute, Memory}
use Rattle.diva_vote.specs.Questions.{Question, stage_row}
use Rattle.diva_machine.specs.Drives.{Drives}
use Rattle.diva_machine.specs.Machine.{Machine}

-- the stage that compares claims of an age: one, or none
unfoldable pub stages_at : (age : ℕ) → List Stage
stages_at age = filter (λ stage. (stage_row stage).age == age) (Fetch ∷ Operands ∷ Execute ∷ Memory ∷ [])

-- what is asked of a claim of an age that stands in a state
abbrev pub asked_at : (age : ℕ) → State → Record → List Question
asked_at age s claim = map (λ stage. record { stage = stage; claim = claim; state = s }) (stages_at age)

-- what is asked in a cycle of the claims that are pending behind a committed state, the oldest first: each stands in the state after
-- the older ones
abbrev pub asked_in : (cycle : ℕ) → State → List PendingClaim → List Question
asked_in cycle s [] = []
asked_in cycle s (p ∷ rest) = asked_at (cycle - p.cycle) s p.claim ++ asked_in cycle (apply s p.claim) rest

-- what is asked in the coming cycle: of the claims that its commits leave, behind the state to which they lead
unfoldable pub asked_of : Timed → List Question
asked_of m =
    let left : Timed = commits_under stores_wait (drained (begun m)) in
    if goes_on m.arch then asked_in (m.cycles + 1) left.arch left.under.pending else []

-- what is asked in the cycles in which a machine is handed these lists
abbrev pub asked_over : Timed → List (List Record) → List Question
asked_over m [] = []
asked_over m (list ∷ lists) = asked_of m ++ asked_over (cycle_of m list) lists

-- a drive leads from a machine and a core to others, and this holds of what was asked in its turns
pub record DrivesAsking {C : Type 0} (gives : Meaning C) (m : Machine) (core : C) (last : Machine) (final : C)
    (this : List Question → Type 0) : Type 0 where
  pub drives : Drives gives m core last final
  pub asked : this (asked_over m.timed (lists_of drives.turns.history))

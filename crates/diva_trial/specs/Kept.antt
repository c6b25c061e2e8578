-- The machines that are kept of a run without a fault.
-- Cited in `Begun.antt`, for `Trials::new`, which ensures it, and `run`, which requires it. Nothing else is promised by it: a reader of the promises
-- can pass over it.
use Rattle.std.specs.Prelude.{ℕ, ◌≡◌, ◌≤◌, ◌<◌, List, [], ◌∷◌, Some, slice_get}
use Rattle.std.specs.List.{All}
use Rattle.diva_core.specs.History.{Meaning}
use Rattle.diva_faults.specs.declared.rows.Row.{Row}
use Rattle.diva_open.specs.Open.{Open}
use Rattle.diva_trial.specs.declared.kept.Kept.{Kept}
use Rattle.diva_trial.specs.declared.kept.Stand.{Stand}
use Rattle.diva_trial.specs.Inner.{AreAlike, Stands}
use Rattle.diva_trial.specs.Paths.{Cycling}

-- a machine that is kept stands where the run without a fault once stood, and so did the run under any fault that comes later
abbrev pub IsStand : {M C : Type 0} → (seen : M → Open) → Cycling → Meaning C → (rows : List Row) → Open → C → Stand M C → Type 0
IsStand seen step gives script o first stand = Stands step gives script o first (seen stand.machine) stand.core

-- the first of some machines has run no cycle
abbrev pub BeginsNew : {M C : Type 0} → (seen : M → Open) → List (Stand M C) → Type 0
BeginsNew seen [] = ⊥
BeginsNew seen (stand ∷ stands) = (seen stand.machine).timed.cycles ≡ 0

-- the machine in this place has run fewer cycles than `cycle`, and no more than `until`
pub record IsPlaceBefore {M C : Type 0} (seen : M → Open) (cycle until : ℕ) (stands : List (Stand M C)) (place : ℕ) : Type 0 where
  pub stand : Stand M C
  pub there : slice_get stands place ≡ Some stand
  pub earlier : (seen stand.machine).timed.cycles < cycle
  pub within : (seen stand.machine).timed.cycles ≤ until

-- a run can begin on each of the machines that are kept, and on the first before any fault
pub record CanBegin {M C : Type 0} (seen : M → Open) (kept : Kept M C) : Type 0 where
  pub new : BeginsNew seen kept.stands.items
  pub alike : All (λ (stand : Stand M C). AreAlike (seen kept.work.machine) (seen stand.machine)) kept.stands.items

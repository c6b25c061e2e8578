-- What is determined of a run.
-- Cited by `own_run_is_determined`.
use Rattle.std.specs.Prelude.{◌≡◌, List}
use Rattle.diva_isa.specs.State.{State}
use Rattle.diva_isa.specs.declared.record.Record.{Record}
use Rattle.diva_core.specs.History.{Meaning}
use Rattle.diva_core.specs.Told.{Told}

-- a core's list, and the core after a call, are determined by the core before, what it is told and the state that it is shown
abbrev pub IsDetermined : {C : Type 0} → Meaning C → Type 0
IsDetermined {C} gives =
    (before : C) (told : Told) (s : State) (list other : List Record) (after last : C)
    → gives before told s list after → gives before told s other last → (list ≡ other) × (after ≡ last)

-- What a core means whose lists a script spoils.
-- Cited by `Faulty::new` and what `Faulty` gives.
use Rattle.std.specs.Prelude.{◌≡◌, ℕ, List}
use Rattle.diva_isa.specs.State.{State}
use Rattle.diva_isa.specs.declared.record.Record.{Record}
use Rattle.diva_core.specs.History.{Meaning}
use Rattle.diva_core.specs.Told.{Told}
use Rattle.diva_faults.specs.declared.rows.Row.{Row}
use Rattle.diva_faults.specs.declared.faulty.Faulty.{Faulty}
use Rattle.diva_faults.specs.Lists.{scripted}

-- the list is what the rows of a script make, in the cycle `now`, of some list that a core gave
pub record IsSpoiled (is_given : List Record → Type 0) (rows : List Row) (now : ℕ) (list : List Record) : Type 0 where
  pub inner : List Record
  pub given : is_given inner
  pub laid : list ≡ scripted rows now inner

-- the meaning of a core under a script
abbrev pub spoiled : {C : Type 0} → List Row → Meaning C → Meaning C
spoiled rows gives = λ before told s list after. IsSpoiled (λ inner. gives before told s inner after) rows told.cycle list

-- ---- the core of the code

-- the core that was lent, which reference it was, and the rows of its script
abbrev pub inside : {C : Type 0} → Faulty C → C
inside f = f.inner.now

abbrev pub lent_name : {C : Type 0} → Faulty C → ℕ
lent_name f = f.inner.ghost_name

abbrev pub rows_in : {C : Type 0} → Faulty C → List Row
rows_in f = f.script.now

-- a call: the core that was lent was asked, and the script laid over its list; both stay the same
pub record IsSpoiledCall {C : Type 0} (gives : Meaning C) (before : Faulty C) (told : Told) (s : State) (list : List Record) (after : Faulty C) : Type 0 where
  pub spoils : spoiled (rows_in before) gives (inside before) told s list (inside after)
  pub same_script : rows_in after ≡ rows_in before
  pub same_core : lent_name after ≡ lent_name before

abbrev pub spoiled_call : {C : Type 0} → Meaning C → Meaning (Faulty C)
spoiled_call gives = λ before told s list after. IsSpoiledCall gives before told s list after

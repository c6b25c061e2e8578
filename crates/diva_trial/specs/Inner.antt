-- What only private contracts of this crate cite, and `Kept.antt`. A reader of its promises can pass over it.
use Rattle.std.specs.Prelude.{ℕ, ◌≡◌, ◌↔◌, ◌≤◌, ◌<◌, List, [], ◌∷◌, ◌++◌, length, true, Bool}
use Rattle.diva_isa.specs.State.{goes_on}
use Rattle.diva_isa.specs.declared.record.Record.{Record}
use Rattle.diva_core.specs.Told.{told_of}
use Rattle.diva_core.specs.History.{Meaning}
use Rattle.diva_open.specs.Open.{Open}
use Rattle.diva_trial.specs.Paths.{Cycling, HasHit, HitsBy, IsPath, Leads, handed_to, lists_on}
use Rattle.diva_faults.specs.declared.rows.Row.{Row}
use Rattle.diva_faults.specs.Rows.{row_cycle}

-- a turn: the core handed over a list, and the machine got what becomes of it; whether that was a hit
pub record IsStruckTurn {C : Type 0} (step : Cycling) (gives : Meaning C) (script : List Row) (fault : Row) (o : Open) (core : C) (last : Open) (after : C)
    (hit : Bool) : Type 0 where
  pub list : List Record
  pub given : gives core (told_of o.timed) o.timed.arch list after
  pub next : last ≡ step o (handed_to (script ++ fault ∷ []) o list)
  pub decides : (hit ≡ true) ↔ HitsBy step script fault o list

-- a machine and its core stand where a run without a fault once stood, and so did the run under any fault that comes later
pub record Stands {C : Type 0} (step : Cycling) (gives : Meaning C) (script : List Row) (o : Open) (first : C) (last : Open) (core : C) : Type 0 where
  pub leads : Leads step gives script o first last core
  pub early : (fault : Row) → last.timed.cycles < row_cycle fault → IsPath step gives (script ++ fault ∷ []) o first leads.path last core
  pub unhit : (fault : Row) → last.timed.cycles < row_cycle fault → HasHit step script fault o (lists_on leads.path) → ⊥

-- a machine and its core stand where the run under a fault once stood, and it is known whether the fault had hit
pub record Struck {C : Type 0} (step : Cycling) (gives : Meaning C) (script : List Row) (fault : Row) (o : Open) (first : C) (last : Open) (core : C)
    (hit : Bool) : Type 0 where
  pub leads : Leads step gives (script ++ fault ∷ []) o first last core
  pub decides : (hit ≡ true) ↔ HasHit step script fault o (lists_on leads.path)

-- if a machine and a core stand where a run without a fault once stood, so do these others
abbrev pub StandsOn : {C : Type 0} → Cycling → Meaning C → (script : List Row) → Open → C → Open → C → Type 0
StandsOn {C} step gives script m core last final =
    (o : Open) (first : C) → Stands step gives script o first m core → Stands step gives script o first last final

-- and if they do, these others stand where the run under a fault once stood
abbrev pub StandsStruck : {C : Type 0} → Cycling → Meaning C → (script : List Row) → (fault : Row) → Open → C → Open → C → (hit : Bool) → Type 0
StandsStruck {C} step gives script fault m core last final hit =
    (o : Open) (first : C) → Stands step gives script o first m core → Struck step gives script fault o first last final hit

-- a run came to its end: so many cycles have run, or the machine has ended
pub record IsOver (until : ℕ) (last : Open) : Type 0 where
  pub within : last.timed.cycles ≤ until
  pub whole : goes_on last.timed.arch ≡ true → last.timed.cycles ≡ until

-- two machines have the same numbers, and memories of one size
pub record AreAlike (o last : Open) : Type 0 where
  pub config : last.timed.config ≡ o.timed.config
  pub size : length last.timed.arch.bytes ≡ length o.timed.arch.bytes

-- Paths of a machine and a core under the rows of a script: what the core hands over in each cycle, and the machines to which that leads.
-- Cited in `Trials.antt`, for `Trials::run`.
use Rattle.std.specs.Prelude.{◌≡◌, ◌≢◌, ◌⊎◌, ◌+◌, List, [], ◌∷◌, ◌++◌, length, map, take, true}
use Rattle.diva_isa.specs.State.{goes_on}
use Rattle.diva_isa.specs.declared.record.Record.{Record}
use Rattle.diva_core.specs.Timed.{epoch_of, room_of}
use Rattle.diva_core.specs.Cycle.{cycle_of}
use Rattle.diva_core.specs.Told.{told_of}
use Rattle.diva_core.specs.History.{Meaning}
use Rattle.diva_faults.specs.declared.rows.Row.{Row}
use Rattle.diva_faults.specs.Lists.{scripted}
use Rattle.diva_open.specs.Open.{Open}

-- what a machine comes to in a cycle by the list that it is handed
abbrev pub Cycling : Type 0
Cycling = Open → List Record → Open

-- the cycle of the machine with its checker
abbrev pub checked_cycle : Cycling
checked_cycle o list = record o { timed = cycle_of o.timed list }

-- the list that a machine gets in the coming cycle, if its core hands over this one
abbrev pub handed_to : (rows : List Row) → Open → List Record → List Record
handed_to rows o list = scripted rows (o.timed.cycles + 1) list

-- A path is a list of what the core hands over, each with the core after it. It is good from a machine and a core, and leads to others.
abbrev pub IsPath : {C : Type 0} → Cycling → Meaning C → (rows : List Row) → Open → C → List (List Record × C) → Open → C → Type 0
IsPath step gives rows o core [] last final = (last ≡ o) × (final ≡ core)
IsPath step gives rows o core (turn ∷ rest) last final =
    (goes_on o.timed.arch ≡ true)
    × (gives core (told_of o.timed) o.timed.arch turn.0 turn.1 × IsPath step gives rows (step o (handed_to rows o turn.0)) turn.1 rest last final)

-- the lists of a path, in order
abbrev pub lists_on : {C : Type 0} → List (List Record × C) → List (List Record)
lists_on path = map (λ turn. turn.0) path

-- a path leads from a machine and a core to others, one list for each cycle
pub record Leads {C : Type 0} (step : Cycling) (gives : Meaning C) (rows : List Row) (o : Open) (core : C) (last : Open) (final : C) : Type 0 where
  pub path : List (List Record × C)
  pub good : IsPath step gives rows o core path last final
  pub each : last.timed.cycles ≡ o.timed.cycles + length path

-- ---- what a fault changes

-- of one list a machine accepts other claims than of another, in a cycle in which it neither flushes nor ends
pub record Hits (step : Cycling) (o : Open) (plain struck : List Record) : Type 0 where
  pub others : take (room_of o.timed) plain ≢ take (room_of o.timed) struck
  pub goes : goes_on (step o struck).timed.arch ≡ true
  pub unflushed : epoch_of (step o struck).timed ≡ epoch_of o.timed

-- with a fault after the rows of a script, it accepts other claims than without it
abbrev pub HitsBy : Cycling → (script : List Row) → (fault : Row) → Open → List Record → Type 0
HitsBy step script fault o list = Hits step o (handed_to script o list) (handed_to (script ++ fault ∷ []) o list)

-- so it is in some cycle of a path
abbrev pub HasHit : Cycling → (script : List Row) → (fault : Row) → Open → List (List Record) → Type 0
HasHit step script fault o [] = ⊥
HasHit step script fault o (list ∷ rest) =
    HitsBy step script fault o list ⊎ HasHit step script fault (step o (handed_to (script ++ fault ∷ []) o list)) rest

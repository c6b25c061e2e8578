-- Turns of an open machine and a core, one for each cycle, and what a drive leaves of them, whatever is handed over.
-- Cited by `drive_open`.
use Rattle.std.specs.Prelude.{ℕ, ◌≡◌, ◌≤◌, ◌+◌, ◌↔◌, List, [], ◌∷◌, length, true, false}
use Rattle.diva_isa.specs.State.{goes_on}
use Rattle.diva_isa.specs.declared.record.Record.{Record}
use Rattle.diva_core.specs.Told.{told_of}
use Rattle.diva_core.specs.History.{Meaning}
use Rattle.diva_hart.specs.declared.ends.Drive.{Drive}
use Rattle.diva_hart.specs.declared.ends.Drive.TheVariants.{Budget, Ended}
use Rattle.diva_open.specs.Open.{Open, open_cycle_of}

-- A history is a list of what was handed over, each with the core after it. It is good from an open machine and a core, and leads
-- to others: the core is told and shown what it would be of a timed machine.
abbrev pub IsOpenHistory : {C : Type 0} → Meaning C → Open → C → List (List Record × C) → Open → C → Type 0
IsOpenHistory gives o core [] last final = (last ≡ o) × (final ≡ core)
IsOpenHistory gives o core (turn ∷ rest) last final =
    (goes_on o.timed.arch ≡ true)
    × (gives core (told_of o.timed) o.timed.arch turn.0 turn.1 × IsOpenHistory gives (open_cycle_of o turn.0) turn.1 rest last final)

-- turns lead from an open machine and a core to others, one for each cycle
pub record OpenTurns {C : Type 0} (gives : Meaning C) (o : Open) (core : C) (last : Open) (final : C) : Type 0 where
  pub history : List (List Record × C)
  pub good : IsOpenHistory gives o core history last final
  pub each : last.timed.cycles ≡ o.timed.cycles + length history

-- a drive for so many cycles at most leads from an open machine and a core to others, and this is its answer
pub record IsOpenDrive {C : Type 0} (gives : Meaning C) (cycles : ℕ) (o : Open) (core : C) (last : Open) (final : C) (answer : Drive) : Type 0 where
  -- machine and core are reached by turns
  pub turns : OpenTurns gives o core last final
  -- the machine has ended
  pub ended : (answer ≡ Ended) ↔ (goes_on last.timed.arch ≡ false)
  -- or all cycles were run, and it goes on
  pub budget : (answer ≡ Budget) ↔ ((last.timed.cycles ≡ o.timed.cycles + cycles) × (goes_on last.timed.arch ≡ true))
  -- there were no more
  pub within : last.timed.cycles ≤ o.timed.cycles + cycles
  -- an ended machine and its core stay as they are
  pub stays : goes_on o.timed.arch ≡ false → (last ≡ o) × (final ≡ core)

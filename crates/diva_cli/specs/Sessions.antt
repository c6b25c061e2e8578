-- What is promised of a session, whatever is handed over.
-- Cited in `DebugTexts.antt`, for `top`.
use Rattle.std.specs.Prelude.{ℕ, ◌≡◌, ◌⊎◌, List, [], Option, Some, None, Ok}
use Rattle.diva_outside.specs.declared.files.What.TheVariants.{Image, Script, Tape as TapeFile}
use Rattle.diva_image.specs.Programs.{image_in}
use Rattle.diva_isa.specs.State.{State}
use Rattle.diva_isa.specs.Step.{steps}
use Rattle.diva_isa.specs.declared.record.Record.{Record}
use Rattle.diva_core.specs.Timed.{Timed, new_timed}
use Rattle.diva_core.specs.Cycle.{run_of}
use Rattle.diva_core.specs.History.{Meaning}
use Rattle.diva_core.specs.Legs.{EachPart, OfLists}
use Rattle.diva_core.specs.Headline.{AddsRows, AreCommitted, HasPace, KeepsPace}
use Rattle.diva_core.specs.Right.{AreRight}
use Rattle.diva_hart.specs.Start.{start_of}
use Rattle.diva_faults.specs.declared.rows.Row.{Row}
use Rattle.diva_faults.specs.Reading.{script_of}
use Rattle.diva_tape.specs.Tapes.{tape_of}
use Rattle.diva_args.specs.Options.{Setup}
use Rattle.diva_args.specs.declared.job.CoreChoice.TheVariants.{Lockstep, Scalar}
use Rattle.diva_cli.specs.Changes.{Change, change}
use Rattle.diva_process.specs.Programs.{FileBytes}
use Rattle.diva_cli.specs.Wanted.{tape_name}
use Rattle.diva_cli.specs.Driven.{IsDriven}

-- ---- a session

-- the machine was never flushed
pub record IsUnflushed (m : Timed) : Type 0 where
  pub flushes : m.under.log.flushes ≡ 0
  pub silent : m.under.log.silent ≡ 0

-- a session of so many cycles at most from the state `start` led to the machine `last`, whatever the core handed over and the
-- script made of it
pub record IsSessionFrom {C : Type 0} (gives : Meaning C) (setup : Setup) (cycles : ℕ) (tape : List (List Record)) (script : List Row)
    (start : State) (core : Change C) (last : Timed) : Type 0 where
  pub driven : IsDriven gives setup.core tape script cycles (change (new_timed setup.config start) last) core
  -- the committed state is the table's after the counted instructions
  pub stepped : last.arch ≡ steps last.count start
  -- in each cycle of each part equal claims that had waited committed, or the one instruction that ran solo
  pub committed : EachPart (OfLists AreCommitted) (new_timed setup.config start) driven.parts
  -- each row that a part added is that of a cycle in which a claim differed from the due record, or idle stood at the limit
  pub rows : EachPart (OfLists (λ m lists. AddsRows m lists (run_of m lists))) (new_timed setup.config start) driven.parts
  -- until the end every W + 6 cycles of each part counted at least one instruction, W being the watchdog's limit
  pub keeps_pace : EachPart (OfLists (λ m lists. KeepsPace m (run_of m lists))) (new_timed setup.config start) driven.parts
  -- and so did every W + 6 cycles of the session, where nothing was taken back
  pub paced : HasPace last
  -- where each list was right for its machine, nothing was flushed
  pub calm : EachPart (OfLists AreRight) (new_timed setup.config start) driven.parts → IsUnflushed last
  -- so it is under lockstep and under scalar where there is no script, or one without rows
  pub unflushed : (setup.core ≡ Lockstep) ⊎ (setup.core ≡ Scalar) → script ≡ [] → IsUnflushed last

-- ---- over files

-- the rows that are laid over the core: those of the script of this name, and none where no script is named
abbrev pub AreRows : Option (List ℕ) → (bytes : List ℕ) → (script : List Row) → Type 0
AreRows None bytes script = script ≡ []
AreRows (Some name) bytes script = script_of bytes ≡ Ok script

-- the lists of the tape of this name, and none where no tape is named
abbrev pub AreLists : Option (List ℕ) → (bytes : List ℕ) → (tape : List (List Record)) → Type 0
AreLists None bytes tape = tape ≡ []
AreLists (Some name) bytes tape = tape_of bytes ≡ Ok tape

-- the state that begins with a setup's image
abbrev pub start_in : Setup → FileBytes → State
start_in setup bytes = start_of (image_in setup.room (bytes Image))

-- this holds of the tape and the script in files with these bytes
pub record OverFiles (setup : Setup) (bytes : FileBytes) (this : (tape : List (List Record)) → (script : List Row) → Type 0) : Type 0 where
  pub script : List Row
  pub rows : AreRows setup.script (bytes Script) script
  pub tape : List (List Record)
  pub lists : AreLists (tape_name setup.core) (bytes TapeFile) tape
  pub holds : this tape script

-- a session over files with these bytes
abbrev pub IsSessionOfFiles : {C : Type 0} → Meaning C → Setup → (cycles : ℕ) → FileBytes → Change C → (last : Timed) → Type 0
IsSessionOfFiles gives setup cycles bytes core last =
    OverFiles setup bytes (λ tape script. IsSessionFrom gives setup cycles tape script (start_in setup bytes) core last)

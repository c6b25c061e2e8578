-- The text that the command `tape` leaves of a run: all that was handed over, which is itself a tape.
-- Cited in `Texts.antt`, for `top`.
use Rattle.std.specs.Prelude.{◌≡◌, ◌≤◌, ◌++◌, ℕ, true, List, length, None, Result, Ok, IsOk, IfOk, IfErr}
use Rattle.diva_outside.specs.Text.{Text}
use Rattle.diva_outside.specs.declared.files.What.TheVariants.{Image, Tape as TapeFile}
use Rattle.diva_isa.specs.declared.record.Record.{Record}
use Rattle.diva_isa.specs.State.{goes_on}
use Rattle.diva_core.specs.Timed.{Timed, new_timed}
use Rattle.diva_core.specs.Cycle.{run_of}
use Rattle.diva_core.specs.History.{Meaning}
use Rattle.diva_tape.specs.TapeCalls.{played}
use Rattle.diva_tape.specs.Tapes.{tape_of}
use Rattle.diva_tape.specs.TapeText.{tape_text}
use Rattle.diva_trace.specs.Text.{text_of}
use Rattle.diva_args.specs.declared.job.RunOptions.{RunOptions}
use Rattle.diva_args.specs.declared.job.TapeOptions.{TapeOptions}
use Rattle.diva_args.specs.declared.job.CoreChoice.TheVariants.{Tape as OfTape}
use Rattle.diva_cli.specs.Changes.{Change, change}
use Rattle.diva_process.specs.declared.status.Status.{Status}
use Rattle.diva_process.specs.Programs.{FileBytes}
use Rattle.diva_cli.specs.Cuts.{BeforeLast}
use Rattle.diva_cli.specs.Runs.{IsRunOfFiles, IsWhole, EndsWith, HasRun, asked_trace, shown_dump}
use Rattle.diva_cli.specs.Sessions.{start_in}

-- a `run` of the same image with the same room and numbers, by the tape of this text and without a script
pub record IsReplay (options : TapeOptions) (bytes : FileBytes) (text : Text) (replay : RunOptions) (its_bytes : FileBytes) : Type 0 where
  pub name : List ℕ
  pub core : replay.setup.core ≡ OfTape name
  pub tape : its_bytes TapeFile ≡ text
  pub script : replay.setup.script ≡ None
  pub config : replay.setup.config ≡ options.setup.config
  pub cycles : replay.cycles ≡ options.cycles
  pub image : its_bytes Image ≡ bytes Image
  pub room : replay.setup.room ≡ options.setup.room

-- a machine is handed these lists until it ends, or for all these cycles
pub record IsHandedFor (cycles : ℕ) (m : Timed) (lists : List (List Record)) : Type 0 where
  pub most : length lists ≤ cycles
  pub whole : goes_on (run_of m lists).arch ≡ true → length lists ≡ cycles

-- ---- the text was written whole

pub record IsTapeOf {C : Type 0} (gives : Meaning C) (options : TapeOptions) (bytes : FileBytes) (lists : List (List Record))
    (last : Timed) (text : Text) (ends : Status) : Type 0 where
  pub whole : IsWhole options.setup options.cycles (start_in options.setup bytes) last
  pub ended : EndsWith last options.cycles ends
  -- what was written is a tape of just the lists that were handed over
  pub reads : tape_of text ≡ Ok lists
  -- the lists of that tape, and then empty ones, lead from the same start under the same numbers to this machine again
  pub again : (others : List (List Record)) → others ≡ played (length others) lists
      → IsHandedFor options.cycles (new_timed options.setup.config (start_in options.setup bytes)) others
      → run_of (new_timed options.setup.config (start_in options.setup bytes)) others ≡ last
  -- so running the image with that tape leaves the text of this machine; with commit lines, where they are all written
  pub replays : (replay : RunOptions) → (its_bytes : FileBytes) → IsReplay options bytes text replay its_bytes
      → (core after : C) → (ended : Result Status Text) → (shown : Text) → HasRun gives replay its_bytes (change core after) ended shown
      → (replay.trace ≡ true → IsOk ended)
      → shown ≡ asked_trace replay.trace (start_in options.setup bytes) last.count ++ text_of last (shown_dump replay.dump)

-- the text of `tape` over files with these bytes, and how the writing of it ended: a line for each cycle. Where the sink failed, it
-- did so in the last of these cycles, and the lines of those before it had been put
pub record HasTape {C : Type 0} (gives : Meaning C) (options : TapeOptions) (bytes : FileBytes) (core : Change C)
    (ended : Result Status Text) (text : Text) : Type 0 where
  pub last : Timed
  pub of_files : IsRunOfFiles gives options.setup options.cycles bytes core last
  pub lines : text ≡ tape_text of_files.holds.lists
  pub whole : IfOk ended (IsTapeOf gives options bytes of_files.holds.lists last text)
  pub cut : IfErr ended (λ put. BeforeLast of_files.holds.lists (λ earlier. put ≡ tape_text earlier))

-- What is promised of a run, and the text that the command `run` leaves of it.
-- Cited in `Texts.antt`, for `top`; by `one_liar_is_outvoted`, `own_run_is_determined` and `end_status`.
use Rattle.std.specs.Prelude.{◌≡◌, ◌⊎◌, ◌≤◌, ◌/◌, ◌*◌, ◌+◌, ◌++◌, ℕ, Bool, true, false, List, [], ◌∷◌, length, Option, Some, None, Result, Err, IfOk, IfErr}
use Rattle.diva_outside.specs.Text.{Text}
use Rattle.diva_isa.specs.State.{State, goes_on}
use Rattle.diva_isa.specs.End.{end_of}
use Rattle.diva_isa.specs.declared.end.End.{End}
use Rattle.diva_isa.specs.declared.end.End.TheVariants.{GoesOn, Halt, Trap}
use Rattle.diva_isa.specs.Step.{steps}
use Rattle.diva_isa.specs.declared.record.Record.{Record}
use Rattle.diva_core.specs.Timed.{Timed, new_timed, depth}
use Rattle.diva_core.specs.Cycle.{run_of}
use Rattle.diva_core.specs.History.{Meaning, IsHistory, lists_of}
use Rattle.diva_core.specs.Legs.{Handed}
use Rattle.diva_core.specs.Headline.{AddsRows, AreCommitted, EndsAfter}
use Rattle.diva_core.specs.Right.{AreRight}
use Rattle.diva_faults.specs.declared.rows.Row.{Row}
use Rattle.diva_faults.specs.Spoiled.{spoiled}
use Rattle.diva_args.specs.Options.{Setup, DumpRange}
use Rattle.diva_args.specs.declared.job.RunOptions.{RunOptions}
use Rattle.diva_trace.specs.declared.report.Dump.{Dump}
use Rattle.diva_trace.specs.Text.{text_of, trace_of}
use Rattle.diva_cli.specs.Changes.{Change}
use Rattle.diva_process.specs.declared.status.Status.{Status}
use Rattle.diva_process.specs.declared.status.Status.TheVariants as status
use Rattle.diva_process.specs.Programs.{FileBytes}
use Rattle.diva_cli.specs.Cuts.{BeforeLast}
use Rattle.diva_cli.specs.Driven.{ByLegs}
use Rattle.diva_cli.specs.Sessions.{IsSessionFrom, IsUnflushed, OverFiles, start_in}

-- ---- a run

-- a run is a session of one part: these lists are handed over, and nothing is taken back
pub record IsRunFrom {C : Type 0} (gives : Meaning C) (setup : Setup) (cycles : ℕ) (tape : List (List Record)) (script : List Row)
    (start : State) (core : Change C) (last : Timed) : Type 0 where
  pub session : IsSessionFrom gives setup cycles tape script start core last
  pub lists : List (List Record)
  pub one : session.driven.parts ≡ Handed lists ∷ []

-- what a session says of its parts, said of the lists of a run, which lead from the machine `first` to `last`
pub record IsReadOff (cycles : ℕ) (first : Timed) (lists : List (List Record)) (last : Timed) : Type 0 where
  pub ran : last ≡ run_of first lists
  pub each : last.cycles ≡ first.cycles + length lists
  pub most : length lists ≤ cycles
  -- in each cycle equal claims that had waited committed, or the one instruction that ran solo
  pub committed : AreCommitted first lists
  -- each row of the log is that of a cycle of the run in which a claim differed from the due record, or idle stood at the limit
  pub rows : AddsRows first lists last
  -- until the end every W + 6 cycles counted at least one instruction, W being the watchdog's limit
  pub paced : last.cycles / (first.config.limit + depth) ≤ last.count
  -- where each list was right for its machine, nothing was flushed
  pub calm : AreRight first lists → IsUnflushed last

-- so it is of each run
abbrev pub RunsAreReadOff : {C : Type 0} → Meaning C → Type 0
RunsAreReadOff {C} gives = (setup : Setup) (cycles : ℕ) (tape : List (List Record)) (script : List Row) (start : State) (core : Change C) (last : Timed)
    → (run : IsRunFrom gives setup cycles tape script start core last) → IsReadOff cycles (new_timed setup.config start) run.lists last

-- the lists are those of turns that lead from a machine and a core to others
pub record ByTurns {C : Type 0} (gives : Meaning C) (machine : Change Timed) (core : Change C) (lists : List (List Record)) : Type 0 where
  pub history : List (List Record × C)
  pub good : IsHistory gives machine.before core.before history machine.after core.after
  pub in_order : lists ≡ lists_of history

-- legs of one part are turns
abbrev pub LegsAreTurns : {C : Type 0} → Meaning C → Type 0
LegsAreTurns {C} gives = (script : List Row) (machine : Change Timed) (core : Change C) (lists : List (List Record))
    → ByLegs (spoiled script gives) machine core (Handed lists ∷ []) → ByTurns (spoiled script gives) machine core lists

-- a run over files with these bytes
abbrev pub IsRunOfFiles : {C : Type 0} → Meaning C → Setup → (cycles : ℕ) → FileBytes → Change C → (last : Timed) → Type 0
IsRunOfFiles gives setup cycles bytes core last =
    OverFiles setup bytes (λ tape script. IsRunFrom gives setup cycles tape script (start_in setup bytes) core last)

-- ---- how it ended

-- the run was not broken off: the machine ended, or all cycles that were asked for were run
pub record IsWhole (setup : Setup) (cycles : ℕ) (start : State) (last : Timed) : Type 0 where
  pub all : goes_on last.arch ≡ true → last.cycles ≡ cycles
  -- where the table ends within these cycles, every core, every script and every tape lead to just that end
  pub same : (n : ℕ) → EndsAfter n start → n * (setup.config.limit + depth) ≤ cycles
      → (last.arch ≡ steps n start) × (last.count ≡ n)

-- the status by how a run ended: it halted, it trapped, or it goes on
abbrev pub end_status : End → Status
end_status (Halt code) = status.Halted
end_status (Trap n) = status.Trapped
end_status GoesOn = status.GoesOn

-- a run ended with its status; one that goes on has run exactly the cycles that were asked for
pub record EndsWith (last : Timed) (cycles : ℕ) (ends : Status) : Type 0 where
  pub by_end : ends ≡ end_status (end_of last.arch.end)
  pub all : ends ≡ status.GoesOn → last.cycles ≡ cycles

-- ---- the command

-- the memory that is shown, if any is asked for
abbrev pub shown_dump : Option DumpRange → Option Dump
shown_dump None = None
shown_dump (Some range) = Some (record { addr = range.addr; len = range.len })

-- the commit lines of a run from a state, if they are asked for
abbrev pub asked_trace : Bool → (start : State) → (count : ℕ) → Text
asked_trace false start count = []
asked_trace true start count = trace_of start count

-- the text of a run that was not broken off: its commit lines, if they are asked for, and what the machine shows. Where the sink
-- failed, it did so behind the commit lines
pub record IsShown (options : RunOptions) (start : State) (last : Timed) (ended : Result Status Text) (text : Text) : Type 0 where
  pub whole : IsWhole options.setup options.cycles start last
  pub says : IfOk ended (EndsWith last options.cycles)
  pub lines : text ≡ asked_trace options.trace start last.count ++ text_of last (shown_dump options.dump)
  pub cut : IfErr ended (λ put. put ≡ asked_trace options.trace start last.count)

-- the sink failed among the commit lines, which are written as the machine runs: in the last cycle that was run, and those of the
-- cycles before it had been put
pub record IsBrokenOff (options : RunOptions) (start : State) (lists : List (List Record)) (last : Timed) (ended : Result Status Text)
    (text : Text) : Type 0 where
  pub traced : options.trace ≡ true
  pub lines : text ≡ trace_of start last.count
  pub cut : BeforeLast lists (λ earlier. ended ≡ Err (trace_of start (run_of (new_timed options.setup.config start) earlier).count))

-- the text of `run` over files with these bytes, and how the writing of it ended
pub record HasRun {C : Type 0} (gives : Meaning C) (options : RunOptions) (bytes : FileBytes) (core : Change C)
    (ended : Result Status Text) (text : Text) : Type 0 where
  pub last : Timed
  pub of_files : IsRunOfFiles gives options.setup options.cycles bytes core last
  pub written : IsShown options (start_in options.setup bytes) last ended text
      ⊎ IsBrokenOff options (start_in options.setup bytes) of_files.holds.lists last ended text

-- What is done with a machine and a core, and what is written of it as it goes.
-- Only private contracts of this crate cite this: a reader of its promises can pass over it.
use Rattle.std.specs.Prelude.{ℕ, ◌≡◌, ◌≤◌, ◌+◌, ◌^◌, List, [], ◌++◌, length, map, Bool, true, false, Result, Ok, OnOk, OnErr}
use Rattle.std.specs.List.{All, concat}
use Rattle.diva_outside.specs.Text.{Text}
use Rattle.diva_outside.specs.declared.sink.SinkFailed.{SinkFailed}
use Rattle.diva_isa.specs.State.{goes_on}
use Rattle.diva_isa.specs.declared.record.Record.{Record}
use Rattle.diva_core.specs.Timed.{Timed}
use Rattle.diva_core.specs.History.{Meaning, Turns, lists_of}
use Rattle.diva_core.specs.Legs.{AreLegs, Leg, Part, handed_in, part_of}
use Rattle.diva_cli.specs.Changes.{Change}
use Rattle.diva_outside.specs.Sink.{PutsTo, LentSink, TakesPast}
use Rattle.diva_cli.specs.Cuts.{BeforeLast}
use Rattle.diva_cli.specs.Watched.{seen_over}
use Rattle.diva_trace.specs.Text.{commits_text}
use Rattle.diva_cli.specs.Replies.{AreLed, at_start, cycles_of, keep, newest_after, replies_of}
use Rattle.diva_vote.specs.Questions.{Question}
use Rattle.diva_machine.specs.Asked.{asked_over}
use Rattle.diva_debug.specs.Moves.{IsShort}
use Rattle.diva_debug.specs.Rewindable.{Rewindable}
use Rattle.diva_debug.specs.declared.command.Command.{Command}

-- ---- what is done in a row of cycles, from a machine on that is handed these lists

-- it is driven for these cycles, or until it ends, and nothing is written
pub record IsQuiet {S : Type 0} (cycles : ℕ) (machine : Change Timed) (lists : List (List Record)) (sink : LentSink S)
    (result : Result (Unit {0}) SinkFailed) : Type 0 where
  pub most : length lists ≤ cycles
  pub whole : goes_on machine.after.arch ≡ true → length lists ≡ cycles
  pub never_fails : result ≡ Ok tt
  pub unput : sink.after ≡ sink.before

-- the commit lines of these cycles, if they are asked for
abbrev pub commits_if : (trace : Bool) → Timed → List (List Record) → Text
commits_if false m lists = []
commits_if true m lists = concat (map (λ seen. commits_text seen.first seen.committed) (seen_over m lists))

-- it is driven for these cycles, until it ends, or until the sink fails, and its commit lines are put if they are asked for
pub record IsRun {S : Type 0} (trace : Bool) (cycles : ℕ) (machine : Change Timed) (lists : List (List Record)) (sink : LentSink S)
    (result : Result (Unit {0}) SinkFailed) : Type 0 where
  pub most : length lists ≤ cycles
  pub whole : OnOk result (goes_on machine.after.arch ≡ true → length lists ≡ cycles)
  pub put : PutsTo sink (commits_if trace machine.before lists) result
  -- where the sink failed, it did so in the last cycle; the lines of those before it had been put
  pub cut : OnErr result ((trace ≡ true) × BeforeLast lists (λ earlier. TakesPast sink
      (commits_if true machine.before earlier) (commits_if true machine.before lists)))

-- ---- what is done in a session

-- nothing was done yet, and there are cycles for all commands
pub record CanReply (commands : List Command) (r : Rewindable) : Type 0 where
  pub new : r.machine.timed.count ≡ 0
  pub none : r.undos ≡ []
  pub keeps : r.keep ≡ keep
  pub short : All IsShort commands
  pub cycles : r.machine.timed.cycles + cycles_of (length commands) r.machine.timed.config.limit ≤ 2 ^ 60

-- the first of the commands were replied to: all of them, or those up to one whose reply could not be put
pub record IsReplied {S : Type 0} (commands : List Command) (m : Timed) (parts : List Part) (sink : LentSink S)
    (result : Result (Unit {0}) SinkFailed) : Type 0 where
  pub done : List Command
  pub left : List Command
  pub in_order : commands ≡ done ++ left
  pub whole : OnOk result (left ≡ [])
  pub led : AreLed m.arch done at_start m parts
  pub most : length (handed_in parts) ≤ cycles_of (length done) m.config.limit
  pub put : PutsTo sink (replies_of m.arch done at_start (newest_after m parts)) result
  -- where the sink failed, it did so at the last of these replies; those before it had been put
  pub cut : OnErr result (BeforeLast done (λ earlier. TakesPast sink
      (replies_of m.arch earlier at_start (newest_after m parts)) (replies_of m.arch done at_start (newest_after m parts))))

-- ---- by a core

-- a core drove a machine, in turns that the core's meaning allows: for so many cycles at most, and for just so many where the machine
-- goes on; and this holds of what was asked in them
pub record DrivesFor {D : Type 0} (gives : Meaning D) (cycles : ℕ) (machine : Change Timed) (core : Change D)
    (this : List Question → Type 0) : Type 0 where
  pub turns : Turns gives machine.before core.before machine.after core.after
  pub asked : this (asked_over machine.before (lists_of turns.history))
  pub most : machine.after.cycles ≤ machine.before.cycles + cycles
  pub whole : goes_on machine.after.arch ≡ true → machine.after.cycles ≡ machine.before.cycles + cycles

-- legs lead from a machine and a core to others, with one list for each cycle, and this holds of the parts
pub record Plays {D : Type 0} (gives : Meaning D) (machine : Change Timed) (core : Change D) (this : List Part → Type 0) : Type 0 where
  pub legs : List (Leg D)
  pub good : AreLegs gives machine.before core.before legs machine.after core.after
  pub each : machine.after.cycles ≡ machine.before.cycles + length (handed_in (map part_of legs))
  pub done : this (map part_of legs)

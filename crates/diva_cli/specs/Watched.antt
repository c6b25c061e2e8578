-- What is seen of a run turn by turn, and what is written of it.
-- Cited by `Watcher`, `watch` and `Watched::drive`.
use Rattle.std.specs.Prelude.{ℕ, ◌≡◌, ◌≤◌, List, [], ◌∷◌, length, true, Result, OnOk, OnErr}
use Rattle.std.specs.List.{All, concat}
use Rattle.diva_outside.specs.Text.{Text}
use Rattle.diva_outside.specs.declared.sink.SinkFailed.{SinkFailed}
use Rattle.diva_isa.specs.State.{goes_on}
use Rattle.diva_isa.specs.declared.record.Record.{Record}
use Rattle.diva_core.specs.Timed.{Timed}
use Rattle.diva_core.specs.Cycle.{cycle_of}
use Rattle.diva_core.specs.Headline.{committed_in}
use Rattle.diva_core.specs.History.{Meaning, lists_of}
use Rattle.diva_machine.specs.Drives.{Drives}
use Rattle.diva_machine.specs.Machine.{Machine}
use Rattle.diva_tape.specs.TapeText.{list_text}
use Rattle.diva_trace.specs.Text.{commits_text}
use Rattle.diva_cli.specs.Changes.{Change}
use Rattle.diva_outside.specs.Sink.{PutsTo, LentSink, TakesPast}
use Rattle.diva_cli.specs.Cuts.{BeforeLast}

-- what is seen of a turn: the number of the first instruction that it committed, the records that it committed, the list that was
-- handed over, and the machine after it
pub record Seen : Type 0 where
  pub first : ℕ
  pub committed : List Record
  pub list : List Record
  pub after : Timed

-- that of the turn in which a machine is handed a list
abbrev pub seen_of : Timed → (list : List Record) → Seen
seen_of m list = record { first = m.count; committed = committed_in m list; list = list; after = cycle_of m list }

-- those of the turns in which it is handed these lists
abbrev pub seen_over : Timed → (lists : List (List Record)) → List Seen
seen_over m [] = []
seen_over m (list ∷ lists) = seen_of m list ∷ seen_over (cycle_of m list) lists

-- what a machine shows after a turn in which it was handed a list, where the number of the first instruction is known
abbrev pub shown_by : Machine → (first : ℕ) → (list : List Record) → Seen
shown_by m first list = record { first = first; committed = m.last; list = list; after = m.timed }

-- ---- watchers

-- the meaning of a watcher: the watcher before a turn, what it sees, the watcher after, and the text that it puts
abbrev pub Watching : Type 0 → Type 1
Watching W = W → Seen → W → Text → Type 0

-- a watcher puts these texts of some turns, one of each, and becomes another one
abbrev pub AreTexts : {W : Type 0} → Watching W → (before : W) → List Seen → (after : W) → List Text → Type 0
AreTexts puts before [] after [] = after ≡ before
AreTexts puts before [] after (text ∷ texts) = ⊥
AreTexts puts before (seen ∷ rest) after [] = ⊥
AreTexts {W} puts before (seen ∷ rest) after (text ∷ texts) =
    (between : W) × (puts before seen between text × AreTexts puts between rest after texts)

-- a watcher saw a turn, and its text was put: all of it, or a prefix of it and the sink failed
pub record Watches {W S : Type 0} (puts : Watching W) (watcher : Change W) (seen : Seen) (sink : LentSink S)
    (result : Result (Unit {0}) SinkFailed) : Type 0 where
  pub text : Text
  pub means : puts watcher.before seen watcher.after text
  pub put : PutsTo sink text result

-- each commit line of what was committed
abbrev pub commit_lines : {W : Type 0} → Watching W
commit_lines before seen after text = text ≡ commits_text seen.first seen.committed

-- the line of a tape
abbrev pub tape_lines : {W : Type 0} → Watching W
tape_lines before seen after text = text ≡ list_text seen.list

-- ---- a run that is watched

-- a watcher saw each turn of a machine that was handed these lists: for so many cycles at most, and for just so many where the machine
-- goes on and no put failed. Of each list this is then known
pub record IsWatched {W S : Type 0} (puts : Watching W) (says : List Record → Type 0) (budget : ℕ) (machine : Change Timed)
    (watcher : Change W) (lists : List (List Record)) (sink : LentSink S) (result : Result (Unit {0}) SinkFailed) : Type 0 where
  pub most : length lists ≤ budget
  pub whole : OnOk result (goes_on machine.after.arch ≡ true → length lists ≡ budget)
  pub said : OnOk result (All says lists)
  -- there is a text for each turn, and all of them were put, or a prefix
  pub texts : List Text
  pub are : AreTexts puts watcher.before (seen_over machine.before lists) watcher.after texts
  pub put : PutsTo sink (concat texts) result
  -- if the sink failed, it did so in the last turn; the texts of those before it had been put
  pub cut : OnErr result (BeforeLast texts (λ earlier. TakesPast sink (concat earlier) (concat texts)))

-- a core drove a machine, turn by turn, and this holds of the lists that it handed over
pub record DrivesSo {C : Type 0} (gives : Meaning C) (machine : Change Machine) (core : Change C)
    (this : List (List Record) → Type 0) : Type 0 where
  pub drives : Drives gives machine.before core.before machine.after core.after
  pub done : this (lists_of drives.turns.history)

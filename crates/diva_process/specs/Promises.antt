-- What a program promises of a job, and so of its words: how its answer was written, with its status, or why there is no whole answer.
-- Cited by `Front` and by `work` of diva_cli.
use Rattle.std.specs.Prelude.{Result, Ok, Err}
use Rattle.diva_outside.specs.Files.{LentFiles}
use Rattle.diva_outside.specs.Sink.{LentSink, Takes}
use Rattle.diva_outside.specs.Text.{Text}
use Rattle.diva_process.specs.declared.stop.Failure.{Failure}
use Rattle.diva_process.specs.declared.stop.Failure.TheVariants.{Cut, Memory}
use Rattle.diva_process.specs.declared.status.Status.{Status}
use Rattle.diva_process.specs.declared.status.Status.TheVariants as status
use Rattle.diva_process.specs.Programs.{Asked, Doing}
use Rattle.diva_process.specs.Answers.{IsAnswer}
use Rattle.diva_process.specs.Statuses.{HasNoMemory, IsCut}

-- the answer was written whole, and this status goes with it
pub record WritesAnswer {J F S : Type 0} (asked : Asked J) (work : Doing J) (files : LentFiles F) (sink : LentSink S) (ends : Status) : Type 0 where
  pub text : Text
  pub answer : IsAnswer asked work files (Ok ends) text
  pub written : Takes sink text

-- the answer was written, with its status; or a prefix of it; or memory ran out, nothing that the program has in its hands was used,
-- and nothing was put to the sink
abbrev pub KeepsPromises : {J F S : Type 0} → Asked J → Doing J → LentFiles F → LentSink S → Result Status Failure → Type 0
KeepsPromises asked work files sink (Ok ends) = WritesAnswer asked work files sink ends
KeepsPromises asked work files sink (Err Cut) = IsCut asked work files sink
KeepsPromises asked work files sink (Err Memory) = HasNoMemory work files sink

-- the status that the program ends with
abbrev pub status_of : Result Status Failure → Status
status_of (Ok ends) = ends
status_of (Err Cut) = status.Cut
status_of (Err Memory) = status.NoMemory

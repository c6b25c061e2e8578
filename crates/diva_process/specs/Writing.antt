-- What is written of a job, or of the file at which its loading stopped.
-- Cited by `write_line` and `write_stop`.
use Rattle.std.specs.Prelude.{◌≡◌, List, Result, Ok, Err}
use Rattle.diva_outside.specs.Files.{FilesAccount}
use Rattle.diva_outside.specs.Sink.{HasFailed, LentSink, Takes, TakesPart, TakesPast}
use Rattle.diva_outside.specs.Text.{Text}
use Rattle.diva_outside.specs.declared.files.What.{What}
use Rattle.diva_process.specs.declared.stop.Failure.{Failure}
use Rattle.diva_process.specs.declared.stop.Failure.TheVariants.{Cut, Memory as NoMemory}
use Rattle.diva_process.specs.declared.status.Status.{Status}
use Rattle.diva_process.specs.declared.status.Status.TheVariants as status
use Rattle.diva_process.specs.declared.stop.Stop.{Stop}
use Rattle.diva_process.specs.declared.stop.Stop.TheVariants.{Memory, Unread, Refused}
use Rattle.diva_process.specs.Lines.{refused_line, unreadable_line}
use Rattle.diva_process.specs.Programs.{Doing, FileBytes, FileRules, Wanted}
use Rattle.diva_process.specs.Stops.{IsUnread, StopsAt, StopsLoading}

-- ---- why the loading of files stopped

abbrev pub Stops : FileRules → (before now : FilesAccount) → List Wanted → Stop → Type 0
Stops rules before now ws Memory = (what : What) → now.faults what ≡ before.faults what
Stops rules before now ws (Unread what) = StopsAt rules before.contents (IsUnread before now (unreadable_line what)) ws
Stops rules before now ws (Refused what kind place) =
    StopsAt rules before.contents (StopsLoading rules before now (refused_line what kind place)) ws

-- ---- lines

-- a line was written, with its status; or a prefix of it
abbrev pub WritesLine : {S : Type 0} → Text → (due : Status) → LentSink S → Result Status Failure → Type 0
WritesLine line due sink (Ok ends) = (ends ≡ due) × Takes sink line
WritesLine line due sink (Err Cut) = HasFailed sink × TakesPart sink line
WritesLine line due sink (Err NoMemory) = ⊥

-- the line of a stop was written; and none where memory ran out, where nothing was put to the sink
abbrev pub WritesStop : {S : Type 0} → Stop → LentSink S → Result Status Failure → Type 0
WritesStop Memory sink result = (result ≡ Err NoMemory) × (sink.after ≡ sink.before)
WritesStop (Unread what) sink result = WritesLine (unreadable_line what) status.Unread sink result
WritesStop (Refused what kind place) sink result = WritesLine (refused_line what kind place) status.Refused sink result

-- ---- the text of a job over files with these bytes

pub record WritesWhole {J S : Type 0} (work : Doing J) (job : J) (bytes : FileBytes) (sink : LentSink S) (ends : Status) : Type 0 where
  pub text : Text
  pub means : work.done job bytes (Ok ends) text
  pub written : Takes sink text

pub record WritesPart {J S : Type 0} (work : Doing J) (job : J) (bytes : FileBytes) (sink : LentSink S) : Type 0 where
  pub rose : HasFailed sink
  pub put : Text
  pub text : Text
  pub means : work.done job bytes (Err put) text
  pub written : TakesPast sink put text

-- it was written, with its status; or a prefix of it
abbrev pub WritesText : {J S : Type 0} → Doing J → J → FileBytes → LentSink S → Result Status Failure → Type 0
WritesText work job bytes sink (Ok ends) = WritesWhole work job bytes sink ends
WritesText work job bytes sink (Err Cut) = WritesPart work job bytes sink
WritesText work job bytes sink (Err NoMemory) = ⊥

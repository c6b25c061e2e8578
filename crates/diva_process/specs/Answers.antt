-- What a program answers, and why: its text, and how the writing of it ended, which is told by the status that goes with it
-- where it was written whole (`Ok`), else, where the sink failed, by what of it had been put already (`Err`).
-- Cited in `Process.antt`, for `run_process`.
use Rattle.std.specs.Prelude.{◌≡◌, ◌⊎◌, List, Some, None, Result, IfOk}
use Rattle.diva_outside.specs.Files.{IsUncounted, LentFiles}
use Rattle.diva_outside.specs.Lent.{given, left}
use Rattle.diva_outside.specs.Text.{Text}
use Rattle.diva_process.specs.declared.status.Status.{Status}
use Rattle.diva_process.specs.declared.status.Status.TheVariants.{Halted, Misused, Trapped, GoesOn, Refused, Wrong, Unread}
use Rattle.diva_process.specs.Programs.{Asked, Doing, FileBytes, Wanted}
use Rattle.diva_process.specs.Stops.{AreSound, IsUnread, StopsAt, StopsLoading}

-- the words are not a valid command line, and no file's fault was counted
pub record IsMisused {J F : Type 0} (asked : Asked J) (files : LentFiles F) (text : Text) : Type 0 where
  pub none : asked.job ≡ None
  pub line : text ≡ asked.program.usage
  pub uncounted : IsUncounted files

-- the loading of the job's files stopped at one; of it, and of those after it, this holds
pub record HasStopped {J F : Type 0} (asked : Asked J) (files : LentFiles F) (this : Wanted → List Wanted → Type 0) : Type 0 where
  pub job : J
  pub named : asked.job ≡ Some job
  pub first : StopsAt asked.program.rules (given files).contents this (asked.program.wanted job)

-- the first file that can't be used can't be read
abbrev pub HasUnread : {J F : Type 0} → Asked J → LentFiles F → Text → Type 0
HasUnread asked files text = HasStopped asked files (IsUnread (given files) (left files) text)

-- the first file that can't be used is refused
abbrev pub HasRefused : {J F : Type 0} → Asked J → LentFiles F → Text → Type 0
HasRefused asked files text = HasStopped asked files (StopsLoading asked.program.rules (given files) (left files) text)

-- the statuses of jobs whose text was written whole
abbrev pub IsDone : Status → Type 0
IsDone ends = (ends ≡ Halted) ⊎ ((ends ≡ Trapped) ⊎ (ends ≡ GoesOn))

-- the statuses of a job that judges a text as it reads it: the text is wrong, has a fault, or can't be read to its end
abbrev pub IsJudged : Status → Type 0
IsJudged ends = (ends ≡ Wrong) ⊎ ((ends ≡ Refused) ⊎ (ends ≡ Unread))

-- one of these, and one with which the job may end
pub record EndsSo {J : Type 0} (work : Doing J) (job : J) (ends : Status) : Type 0 where
  pub done : IsDone ends ⊎ IsJudged ends
  pub can : work.can_end job ends

-- all files are sound, and no load failed; the text is that of the job
pub record HasDone {J F : Type 0} (asked : Asked J) (work : Doing J) (files : LentFiles F) (ended : Result Status Text) (text : Text) : Type 0 where
  pub job : J
  pub named : asked.job ≡ Some job
  pub bytes : FileBytes
  pub sound : AreSound asked.program.rules (given files).contents (asked.program.wanted job) bytes
  pub uncounted : IsUncounted files
  pub means : work.done job bytes ended text
  pub ends : IfOk ended (EndsSo work job)

-- ---- one of these is the answer; nothing that the program has in its hands was used but where a job is done
pub data IsAnswer {J F : Type 0} (asked : Asked J) (work : Doing J) (files : LentFiles F) (ended : Result Status Text) (text : Text) : Type 0 where
  misused : IsMisused asked files text → work.unused → IfOk ended (λ s. s ≡ Misused)
      → IsAnswer asked work files ended text
  unread : HasUnread asked files text → work.unused → IfOk ended (λ s. s ≡ Unread)
      → IsAnswer asked work files ended text
  refused : HasRefused asked files text → work.unused → IfOk ended (λ s. s ≡ Refused)
      → IsAnswer asked work files ended text
  done : HasDone asked work files ended text
      → IsAnswer asked work files ended text

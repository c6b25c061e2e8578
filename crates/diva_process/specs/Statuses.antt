-- What each status of a program says.
-- Cited by `Status::number` and by `top` of diva_cli; in `Process.antt`, for `run_process`.
use Rattle.std.specs.Prelude.{◌≡◌, ◌⊎◌, ◌≤◌, ℕ, List, [], ◌∷◌, length, Option, Some, None, IsSome, Ok, Err}
use Rattle.diva_outside.specs.Files.{Contents, IsMissing, IsKnown, IsUncounted, LentFiles}
use Rattle.diva_outside.specs.Lent.{given}
use Rattle.diva_outside.specs.Sink.{HasFailed, LentSink, Takes, TakesPast}
use Rattle.diva_outside.specs.Text.{Text}
use Rattle.diva_process.specs.declared.status.Status.{Status}
use Rattle.diva_process.specs.declared.status.Status.TheVariants.{Halted, Misused, Trapped, GoesOn, Refused, Wrong, Unread, Cut, NoMemory}
use Rattle.diva_process.specs.Programs.{Asked, Doing, FileRules, Program, Wanted}
use Rattle.diva_process.specs.Stops.{IsRefused}
use Rattle.diva_process.specs.Answers.{HasDone, HasStopped, IsAnswer}

-- the number by which a process tells its status
abbrev pub number_of : Status → ℕ
number_of Halted = 0
number_of Misused = 2
number_of Trapped = 3
number_of GoesOn = 4
number_of Refused = 5
number_of Wrong = 6
number_of Unread = 8
number_of Cut = 9
number_of NoMemory = 10

-- the number tells a status of which this holds
pub record IsNumberOf (this : Status → Type 0) (number : ℕ) : Type 0 where
  pub ends : Status
  pub numbered : number ≡ number_of ends
  pub holds : this ends

-- `Halted`, `Trapped` and `GoesOn`: all files are sound, and the job's whole text was written, with the status that goes with it; no load and
-- no put failed
pub record HasWorked {J F S : Type 0} (asked : Asked J) (work : Doing J) (files : LentFiles F) (sink : LentSink S) (ends : Status) : Type 0 where
  pub text : Text
  pub done : HasDone asked work files (Ok ends) text
  pub written : Takes sink text

-- `Misused`, `Refused` and `Unread`: no job was done, nothing that the program has in its hands was used, and just the one line was written
pub record HasLine {J S : Type 0} (cause : Text → Type 0) (work : Doing J) (sink : LentSink S) : Type 0 where
  pub text : Text
  pub caused : cause text
  pub unused : work.unused
  pub written : Takes sink text

-- `Cut`: the sink's count of faults rose, and a prefix of the answer's text was written, with all that had been put already
pub record IsCut {J F S : Type 0} (asked : Asked J) (work : Doing J) (files : LentFiles F) (sink : LentSink S) : Type 0 where
  pub rose : HasFailed sink
  pub put : Text
  pub text : Text
  pub answer : IsAnswer asked work files (Err put) text
  pub written : TakesPast sink put text

-- `NoMemory`: memory ran out, and no load failed; nothing that the program has in its hands was used, and the sink is as it was, so
-- nothing was put to it
pub record HasNoMemory {J F S : Type 0} (work : Doing J) (files : LentFiles F) (sink : LentSink S) : Type 0 where
  pub uncounted : IsUncounted files
  pub unused : work.unused
  pub unput : sink.after ≡ sink.before

-- the words ask for no job, or for one that wants no file
abbrev pub LoadsNothing : {J : Type 0} → Program J → Option J → Type 0
LoadsNothing program None = Unit {0}
LoadsNothing program (Some job) = program.wanted job ≡ []

-- ---- files that are known, the first of which that can't be used is refused or is not there

-- the statuses that may stand in for one that is due: each of them has a cause of its own
abbrev pub IsHindered : Status → Type 0
IsHindered ends = (ends ≡ Unread) ⊎ ((ends ≡ Cut) ⊎ (ends ≡ NoMemory))

-- the contents are known, and the first file that can't be used is refused by this line
pub record MustRefuse {J F : Type 0} (asked : Asked J) (files : LentFiles F) (text : Text) : Type 0 where
  pub known : IsSome (given files).contents
  pub refused : HasStopped asked files (λ w later. IsRefused asked.program.rules (given files).contents text w)

-- it is known that there is no file of the name of the first one that can't be used
abbrev pub HasMissing : {J F : Type 0} → Asked J → LentFiles F → Type 0
HasMissing asked files = HasStopped asked files (λ w later. IsMissing (given files).contents w.name)

-- ---- completeness

-- the file's contents are known, no more than a file may have and with no fault
pub record IsKnownSound (rules : FileRules) (contents : Contents) (w : Wanted) : Type 0 where
  pub bytes : List ℕ
  pub known : IsKnown contents w.name bytes
  pub short : length bytes ≤ rules.limit
  pub faultless : rules.fault_of w bytes ≡ None

abbrev pub AreKnownSound : FileRules → Contents → List Wanted → Type 0
AreKnownSound rules contents [] = Unit {0}
AreKnownSound rules contents (w ∷ ws) = IsKnownSound rules contents w × AreKnownSound rules contents ws

-- the words ask for a job all of whose files are known and sound
pub record CanWork {J F : Type 0} (asked : Asked J) (files : LentFiles F) : Type 0 where
  pub job : J
  pub named : asked.job ≡ Some job
  pub known : AreKnownSound asked.program.rules (given files).contents (asked.program.wanted job)

-- the whole text of the job was written, and the status is one with which the job may end
pub record HasEnded {J F S : Type 0} (asked : Asked J) (work : Doing J) (files : LentFiles F) (sink : LentSink S) (ends : Status) : Type 0 where
  pub job : J
  pub named : asked.job ≡ Some job
  pub can : work.can_end job ends
  pub worked : HasWorked asked work files sink ends

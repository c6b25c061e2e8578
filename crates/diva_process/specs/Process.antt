-- What a program promises of its words: what it ended with, and why.
-- Cited by `run_process`.
use Rattle.std.specs.Prelude.{◌≡◌, ◌⊎◌, None}
use Rattle.diva_outside.specs.Causes.{Rose}
use Rattle.diva_outside.specs.Files.{LentFiles}
use Rattle.diva_outside.specs.Lent.{given, left}
use Rattle.diva_outside.specs.Sink.{HasFailed, LentSink, Takes}
use Rattle.diva_outside.specs.Text.{Text}
use Rattle.diva_outside.specs.declared.files.What.{What}
use Rattle.diva_process.specs.declared.status.Status.{Status}
use Rattle.diva_process.specs.declared.status.Status.TheVariants.{Misused, Refused, Wrong, Unread, Cut, NoMemory}
use Rattle.diva_process.specs.Programs.{Asked, Doing}
use Rattle.diva_process.specs.Answers.{HasRefused, HasUnread, IsDone, IsMisused}
use Rattle.diva_process.specs.Statuses.{CanWork, HasEnded, HasLine, HasMissing, HasNoMemory, HasWorked, IsCut, IsHindered, LoadsNothing, MustRefuse}

pub record IsProcess {J F S : Type 0} (asked : Asked J) (work : Doing J) (files : LentFiles F) (sink : LentSink S) (ends : Status) : Type 0 where
  -- the job is done: all its files are sound, its whole text was written, and no load and no put failed
  pub worked : IsDone ends → HasWorked asked work files sink ends
  -- no job is done: the words, the first file's fault, or the files' count of faults says why; no fault was counted for a file after
  -- the one at which the loading stopped
  pub misused : ends ≡ Misused → HasLine (IsMisused asked files) work sink
  -- or the job is done, and judges a text as it reads it, which has a fault or can't be read to its end
  pub refused : ends ≡ Refused → HasLine (HasRefused asked files) work sink ⊎ HasEnded asked work files sink ends
  pub unread : ends ≡ Unread → HasLine (HasUnread asked files) work sink ⊎ HasEnded asked work files sink ends
  -- or is wrong
  pub wrong : ends ≡ Wrong → HasEnded asked work files sink ends
  -- the sink's count of faults rose, and what the program has in its hands was not used again
  pub cut : ends ≡ Cut → IsCut asked work files sink
  -- memory ran out, and no load failed
  pub memory : ends ≡ NoMemory → HasNoMemory work files sink
  -- if the words ask for no file, the files are as they were: none was loaded
  pub unloaded : LoadsNothing asked.program asked.job → files.after ≡ files.before
  -- words that are not a valid command line are answered by the usage line
  pub usage : asked.job ≡ None → (ends ≡ Misused) ⊎ ((ends ≡ Cut) ⊎ (ends ≡ NoMemory))
  -- of known files, the first that can't be used is refused by its line, or is not there
  pub refuses : (text : Text) → MustRefuse asked files text → ((ends ≡ Refused) × Takes sink text) ⊎ IsHindered ends
  pub misses : HasMissing asked files → IsHindered ends
  -- a job whose files are known and sound is done, if neither they nor the sink fail
  pub complete : CanWork asked files → ((what : What) → Rose ((given files).faults what) ((left files).faults what) → ⊥)
      → (HasFailed sink → ⊥) → HasEnded asked work files sink ends ⊎ (ends ≡ NoMemory)

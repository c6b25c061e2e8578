-- Files that never fail, and a sink that keeps nothing; and what a program promises over them.
-- Cited by `top_sure`.
use Rattle.std.specs.Prelude.{◌≡◌, ◌≢◌, ◌⊎◌, List, ℕ, Some, None}
use Rattle.diva_outside.specs.Files.{Contents, LentFiles}
use Rattle.diva_outside.specs.Lent.{lent}
use Rattle.diva_outside.specs.Named.{named_bytes, or_empty}
use Rattle.diva_outside.specs.Sink.{LentSink}
use Rattle.diva_outside.specs.Text.{Text}
use Rattle.diva_process.specs.declared.status.Status.{Status}
use Rattle.diva_process.specs.declared.status.Status.TheVariants.{Misused, Refused, Unread, Cut, NoMemory}
use Rattle.diva_process.specs.Answers.{IsDone}
use Rattle.diva_process.specs.Programs.{Asked, Doing}
use Rattle.diva_process.specs.Statuses.{CanWork, HasEnded, HasWorked, MustRefuse}

-- each name has the bytes of the first file of that name, and none where no file has it
abbrev pub sure_contents : List (List ℕ × List ℕ) → Contents
sure_contents files = Some (λ name. Some (or_empty (named_bytes files name)))

-- no load of theirs ever fails
abbrev pub sure_files : List (List ℕ × List ℕ) → LentFiles (Unit {0})
sure_files files = lent (λ _. record { contents = sure_contents files; faults = λ _. 0 }) tt tt

-- nothing is known of its contents, and it has no fault
abbrev pub unseen : LentSink (Unit {0})
unseen = lent (λ _. record { contents = None; faults = 0 }) tt tt

-- what a program promises of its words over such files and such a sink: all but that somebody sees the text
pub record IsSure {J F : Type 0} (asked : Asked J) (work : Doing J) (files : LentFiles F) (ends : Status) : Type 0 where
  pub read : ends ≢ Unread
  pub written : ends ≢ Cut
  -- if the job was done, the core is as its runs left it; else it was not asked
  pub worked : IsDone ends → HasWorked asked work files unseen ends
  pub unused : (ends ≡ Misused) ⊎ ((ends ≡ Refused) ⊎ (ends ≡ NoMemory)) → work.unused
  -- the words and the files say which status it is, unless memory runs out
  pub misused : ends ≡ Misused → asked.job ≡ None
  pub usage : asked.job ≡ None → (ends ≡ Misused) ⊎ (ends ≡ NoMemory)
  pub refuses : (text : Text) → MustRefuse asked files text → (ends ≡ Refused) ⊎ (ends ≡ NoMemory)
  pub complete : CanWork asked files → HasEnded asked work files unseen ends ⊎ (ends ≡ NoMemory)

-- The program `diva`: its words, the files of its jobs, and what each job came to.
-- Cited by `top`, `top_sure`, `work` and `only_files_are_refused`.
use Rattle.std.specs.Prelude.{◌≡◌, ◌≢◌, Result}
use Rattle.diva_outside.specs.Files.{LentFiles}
use Rattle.diva_outside.specs.Sink.{LentSink}
use Rattle.diva_outside.specs.Text.{Text}
use Rattle.diva_core.specs.History.{Meaning}
use Rattle.diva_args.specs.Line.{command_of}
use Rattle.diva_args.specs.declared.job.Job.{Job}
use Rattle.diva_process.specs.declared.status.Status.{Status}
use Rattle.diva_process.specs.declared.status.Status.TheVariants.{Refused, Wrong, Unread}
use Rattle.diva_process.specs.Answers.{HasRefused, HasUnread}
use Rattle.diva_process.specs.Programs.{Asked, Doing, FileBytes, Program, doing}
use Rattle.diva_process.specs.Statuses.{HasLine}
use Rattle.diva_cli.specs.Changes.{Asking, Change, IsUnasked, LanesAsked, change, core_of}
use Rattle.diva_cli.specs.Lanes.{own_asked}
use Rattle.diva_cli.specs.Lines.{usage_line}
use Rattle.diva_cli.specs.Texts.{AsksLanes, CanEnd, HasText}
use Rattle.diva_cli.specs.Wanted.{file_rules, wanted}

abbrev pub diva : Program Job
diva = record { job_of = command_of; usage = usage_line; wanted = wanted; rules = file_rules }

-- the text of a job, for which lanes were asked as it wants them
pub record HasAnswered {C : Type 0} (gives : Meaning C) (heard : LanesAsked) (core : Change C) (job : Job) (bytes : FileBytes)
    (ended : Result Status Text) (text : Text) : Type 0 where
  pub means : HasText gives job bytes core ended text
  pub lanes : AsksLanes gives job bytes core ended text means heard

-- what a job came to, by the core and the lanes that it asked
abbrev pub work_of : {C : Type 0} → Meaning C → Asking C → Doing Job
work_of gives asks = record { done = HasAnswered gives asks.lanes (core_of asks); can_end = CanEnd; unused = IsUnasked asks }

-- the same by the core alone; lanes are the program's own
abbrev pub own_done : {C : Type 0} → Meaning C → (before after : C) → Job → FileBytes → Result Status Text → Text → Type 0
own_done gives before after job bytes ended text = HasAnswered gives own_asked (change before after) job bytes ended text

abbrev pub own_work : {C : Type 0} → Meaning C → (before after : C) → Doing Job
own_work gives before after = doing (own_done gives) CanEnd before after

-- ---- no job of `diva` judges a text that it reads as it goes: what is refused or can't be read is a file, and no job is done then
pub record TellsOfFiles {F S : Type 0} (asked : Asked Job) (work : Doing Job) (files : LentFiles F) (sink : LentSink S) (ends : Status) : Type 0 where
  pub refused : ends ≡ Refused → HasLine (HasRefused asked files) work sink
  pub unread : ends ≡ Unread → HasLine (HasUnread asked files) work sink
  pub right : ends ≢ Wrong

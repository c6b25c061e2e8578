-- The text of `judge`: what a log says of each instruction of an image, judged line by line.
-- Cited in `Lab.antt`, for `lab_top`.
use Rattle.std.specs.Prelude.{◌≡◌, ◌⊎◌, ℕ, List, [], Result, Ok, Err, IfOk, IfErr}
use Rattle.diva_outside.specs.Files.{IsMissing}
use Rattle.diva_outside.specs.Lent.{given, lent}
use Rattle.diva_outside.specs.Text.{Text}
use Rattle.diva_outside.specs.declared.sink.SinkFailed.{SinkFailed}
use Rattle.diva_source.specs.Source.{HasFailed, LentSource, Opens}
use Rattle.diva_source.specs.declared.source.SourceFailed.{SourceFailed}
use Rattle.diva_isa.specs.State.{State}
use Rattle.diva_lab_args.specs.declared.judge.JudgeOptions.{JudgeOptions}
use Rattle.diva_judge.specs.Judging.{IsAnswer, IsCutAmid, IsCutLast, SaysWhat}
use Rattle.diva_judge.specs.Texts.{unreadable_text}
use Rattle.diva_judge.specs.declared.terms.Terms.{Terms}
use Rattle.diva_judge.specs.declared.verdict.Verdict.{Verdict}
use Rattle.diva_judge.specs.declared.verdict.Verdict.TheVariants as verdict
use Rattle.diva_process.specs.declared.status.Status.{Status}
use Rattle.diva_process.specs.declared.status.Status.TheVariants as status
use Rattle.diva_process.specs.Programs.{FileBytes}
use Rattle.diva_cli.specs.Sessions.{start_in}

-- how the words ask for the log to be judged
abbrev pub terms_of : JudgeOptions → Terms
terms_of options = record { stop = options.stop; answers = options.answers }

-- the status that goes with a verdict
abbrev pub status_by : Verdict → Status
status_by verdict.Halted = status.Halted
status_by verdict.Trapped = status.Trapped
status_by verdict.Short = status.GoesOn
status_by verdict.Wrong = status.Wrong
status_by verdict.Refused = status.Refused
status_by verdict.Unread = status.Unread

-- ---- the log can't be opened: a fault of the source was counted, or it is known that there is no such text. One line says so
pub record HasNoLog {D : Type 0} (name : List ℕ) (source : LentSource D) (ended : Result Status Text) (text : Text) : Type 0 where
  pub cause : HasFailed source ⊎ IsMissing (given source).contents name
  pub line : text ≡ unreadable_text
  pub ends : IfOk ended (λ ends. ends ≡ status.Unread)
  pub cut : IfErr ended (λ put. put ≡ [])

-- ---- it was opened, and judged: these lines were read of it

-- the text was written whole, with the status that goes with the verdict
pub record IsWhole {D : Type 0} (terms : Terms) (start : State) (log : LentSource D) (lines : List Text) (ends : Status) (text : Text) : Type 0 where
  pub verdict : Verdict
  pub means : ends ≡ status_by verdict
  pub answer : IsAnswer terms start log lines verdict text
  -- what the verdict says
  pub says : SaysWhat {E = SinkFailed} start lines (Ok verdict)

-- or the sink failed in it
abbrev pub IsPart : {D : Type 0} → Terms → (start : State) → (log : LentSource D) → List Text → (put text : Text) → Type 0
IsPart terms start log lines put text = IsCutAmid terms start log lines put text ⊎ IsCutLast terms start log lines put text

abbrev pub IsWritten : {D : Type 0} → Terms → (start : State) → (log : LentSource D) → List Text → Result Status Text → Text → Type 0
IsWritten terms start log lines (Ok ends) text = IsWhole terms start log lines ends text
IsWritten terms start log lines (Err put) text = IsPart terms start log lines put text

pub record HasLog {D : Type 0} (options : JudgeOptions) (bytes : FileBytes) (source : LentSource D) (ended : Result Status Text) (text : Text) : Type 0 where
  pub began : D
  pub opened : Opens {E = SourceFailed} (lent source.account source.before began) options.log (Ok tt)
  pub lines : List Text
  pub written : IsWritten (terms_of options) (start_in options.setup bytes) (lent source.account began source.after) lines ended text

-- the text of `judge` over an image with these bytes, and how the writing of it ended
abbrev pub HasJudgement : {D : Type 0} → JudgeOptions → FileBytes → LentSource D → Result Status Text → Text → Type 0
HasJudgement options bytes source ended text = HasNoLog options.log source ended text ⊎ HasLog options bytes source ended text

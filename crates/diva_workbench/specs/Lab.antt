-- The workbench: its words, which are those of `diva` and some of its own, the files of its jobs, and what each job came to.
-- Cited by `lab_top`.
use Rattle.std.specs.Prelude.{◌≡◌, ◌⊎◌, ℕ, List, [], None, Result, codes}
use Rattle.diva_outside.specs.Lent.{lent}
use Rattle.diva_outside.specs.Text.{Text}
use Rattle.diva_source.specs.Source.{LentSource, SourceAccount}
use Rattle.diva_rating.specs.Rated.{HasRated}
use Rattle.diva_core.specs.History.{Meaning}
use Rattle.diva_lab_args.specs.Lab.{lab_of}
use Rattle.diva_lab_args.specs.declared.judge.JudgeOptions.{JudgeOptions}
use Rattle.diva_lab_args.specs.declared.draw.DrawOptions.{DrawOptions}
use Rattle.diva_lab_args.specs.declared.inject.InjectOptions.{InjectOptions}
use Rattle.diva_lab_args.specs.declared.lab.LabJob.{LabJob}
use Rattle.diva_lab_args.specs.declared.lab.LabJob.TheVariants.{Diva, Draw, Judge, Inject, Rate}
use Rattle.diva_process.specs.declared.status.Status.{Status}
use Rattle.diva_process.specs.Answers.{IsDone, IsJudged}
use Rattle.diva_process.specs.Programs.{Doing, FileBytes, Program, Wanted, doing}
use Rattle.diva_cli.specs.Changes.{Asking, Change, IsUnasked, LanesAsked, asking, change, core_of}
use Rattle.diva_workbench.specs.DrawTexts.{HasDrawing}
use Rattle.diva_workbench.specs.Injects.{HasInjected}
use Rattle.diva_workbench.specs.Judges.{HasJudgement}
use Rattle.diva_workbench.specs.declared.lab.Hands.{Hands}
use Rattle.diva_cli.specs.Lanes.{own_asked}
use Rattle.diva_cli.specs.Program.{HasAnswered}
use Rattle.diva_cli.specs.Texts.{AsksInRun, CanEnd}
use Rattle.diva_cli.specs.Wanted.{file_rules, machine_files, wanted}

unfoldable pub lab_usage_line : List ℕ
lab_usage_line = codes "usage: diva_lab log|draw IMAGE, judge IMAGE LOG, inject IMAGE COUNT SEED, rate FILE.., with options, or the words of diva\n"

-- ---- a line for each command of its own; any other job is one of `diva`

abbrev pub lab_wanted : LabJob → List Wanted
lab_wanted (Diva job) = wanted job
lab_wanted (Draw options) = machine_files options.run.setup
lab_wanted (Judge options) = machine_files options.setup
lab_wanted (Inject options) = machine_files options.setup
lab_wanted (Rate names) = []

-- the drawing of a run, for which lanes were asked as for any run
pub record HasDrawn {C : Type 0} (gives : Meaning C) (heard : LanesAsked) (core : Change C) (options : DrawOptions) (bytes : FileBytes)
    (ended : Result Status Text) (text : Text) : Type 0 where
  pub means : HasDrawing gives options bytes core ended text
  pub lanes : AsksInRun options.run.setup options.run.liar bytes means.of_files.holds.lists heard

-- the judgement of a log, for which neither the core nor a lane was asked
pub record HasJudgedLog {C D : Type 0} (heard : LanesAsked) (core : Change C) (options : JudgeOptions) (bytes : FileBytes) (source : LentSource D)
    (ended : Result Status Text) (text : Text) : Type 0 where
  pub means : HasJudgement options bytes source ended text
  pub unasked : core.after ≡ core.before
  pub unvoted : heard None []

-- the runs of an image under faults, for which neither the core, which was copied, nor a lane was asked
pub record HasTried {C : Type 0} (gives : Meaning C) (heard : LanesAsked) (core : Change C) (options : InjectOptions) (bytes : FileBytes)
    (ended : Result Status Text) (text : Text) : Type 0 where
  pub means : HasInjected gives options bytes core.before ended text
  pub unasked : core.after ≡ core.before
  pub unvoted : heard None []

-- the rates of faults, for which neither the core nor a lane was asked
pub record HasSummed {C D : Type 0} (heard : LanesAsked) (core : Change C) (names : List Text) (source : LentSource D) (ended : Result Status Text)
    (text : Text) : Type 0 where
  pub means : HasRated names source ended text
  pub unasked : core.after ≡ core.before
  pub unvoted : heard None []

-- nothing was opened and nothing was read of the source
abbrev pub IsUnread : {D : Type 0} → LentSource D → Type 0
IsUnread source = source.after ≡ source.before

abbrev pub LabAnswered : {C D : Type 0} → Meaning C → LanesAsked → Change C → LentSource D → LabJob → FileBytes → Result Status Text → Text → Type 0
LabAnswered gives lanes core source (Diva job) bytes ended text = HasAnswered gives lanes core job bytes ended text × IsUnread source
LabAnswered gives lanes core source (Draw options) bytes ended text = HasDrawn gives lanes core options bytes ended text × IsUnread source
LabAnswered gives lanes core source (Judge options) bytes ended text = HasJudgedLog lanes core options bytes source ended text
LabAnswered gives lanes core source (Inject options) bytes ended text = HasTried gives lanes core options bytes ended text × IsUnread source
LabAnswered gives lanes core source (Rate names) bytes ended text = HasSummed lanes core names source ended text

abbrev pub LabEnds : LabJob → Status → Type 0
LabEnds (Diva job) ends = CanEnd job ends
LabEnds (Draw options) ends = IsDone ends
LabEnds (Judge options) ends = IsDone ends ⊎ IsJudged ends
LabEnds (Inject options) ends = IsDone ends
LabEnds (Rate names) ends = IsDone ends ⊎ IsJudged ends

-- ---- the program

abbrev pub lab : Program LabJob
lab = record { job_of = lab_of; usage = lab_usage_line; wanted = lab_wanted; rules = file_rules }

-- what a job came to, by the core and the lanes that it asked, and by the source that it read
abbrev pub lab_work_of : {C D : Type 0} → Meaning C → Asking C → LentSource D → Doing LabJob
lab_work_of gives asks source =
    record { done = LabAnswered gives asks.lanes (core_of asks) source; can_end = LabEnds; unused = IsUnasked asks × IsUnread source }

-- nothing was read of a source of which nothing is told
abbrev pub no_source : LentSource (Unit {0})
no_source = lent (λ _. record { contents = None; rest = None; limit = 0; faults = 0 }) tt tt

-- no lane was asked, of which nothing is told
abbrev pub no_lanes : LanesAsked
no_lanes liar asked = Unit {0}

-- neither a core nor a lane was asked, of which nothing is told
abbrev pub no_core : Meaning (Unit {0})
no_core before told s list after = Unit {0}

abbrev pub none_asked : Asking (Unit {0})
none_asked = asking tt tt no_lanes

-- the same by what the program has in its hands, a core and a source; lanes are its own
abbrev pub own_lab_done : {C D : Type 0} → Meaning C → (account : D → SourceAccount) → (before after : Hands C D) → LabJob → FileBytes
    → Result Status Text → Text → Type 0
own_lab_done gives account before after job bytes ended text =
    LabAnswered gives own_asked (change before.core after.core) (lent account before.source after.source) job bytes ended text

abbrev pub own_lab_work : {C D : Type 0} → Meaning C → (account : D → SourceAccount) → (before after : Hands C D) → Doing LabJob
own_lab_work gives account before after = doing (own_lab_done gives account) LabEnds before after

-- What a command of the workbench answers, and what it does with lanes of its own.
use Rattle.std.proofs.Common.{◌≡◌, ◌⊎◌, ℕ, List, [], Option, None, Result, Ok, Err, inl, inr, refl, sym, subst}
use Rattle.diva_outside.specs.Files.{IsUncounted, LentFiles}
use Rattle.diva_outside.specs.Lent.{given, left, lent}
use Rattle.diva_outside.specs.Sink.{LentSink}
use Rattle.diva_source.specs.Source.{LentSource, SourceAccount}
use Rattle.diva_core.specs.History.{Meaning}
use Rattle.diva_vote.specs.Questions.{Question}
use Rattle.diva_args.specs.Options.{Setup}
use Rattle.diva_lab_args.specs.declared.judge.JudgeOptions.{JudgeOptions}
use Rattle.diva_lab_args.specs.declared.draw.DrawOptions.{DrawOptions}
use Rattle.diva_lab_args.specs.declared.inject.InjectOptions.{InjectOptions}
use Rattle.diva_judge.specs.declared.verdict.Verdict.{Verdict}
use Rattle.diva_judge.specs.declared.verdict.Verdict.TheVariants as verdict
use Rattle.diva_lab_args.specs.declared.lab.LabJob.{LabJob}
use Rattle.diva_lab_args.specs.declared.lab.LabJob.TheVariants.{Diva, Draw, Judge, Inject, Rate}
use Rattle.diva_args.specs.declared.job.Job.{Job}
use Rattle.diva_args.specs.declared.job.LanePlace.{LanePlace}
use Rattle.diva_process.specs.declared.status.Status.{Status}
use Rattle.diva_process.specs.declared.stop.Failure.{Failure}
use Rattle.diva_process.specs.declared.stop.Stop.{Stop}
use Rattle.diva_process.specs.Answers.{EndsSo, IsDone, IsJudged}
use Rattle.diva_process.specs.Programs.{Doing, FileBytes, asked_for}
use Rattle.diva_process.specs.declared.stop.Failure.TheVariants.{Cut, Memory}
use Rattle.diva_outside.specs.Text.{Text}
use Rattle.diva_rating.specs.Rated.{HasRated, rating_of}
use Rattle.diva_rating.proofs.Writing.{rated_ends}
use Rattle.diva_process.specs.Promises.{KeepsPromises}
use Rattle.diva_process.specs.Writing.{Stops, WritesStop, WritesText}
use Rattle.diva_cli.specs.declared.loading.Ready.{Ready}
use Rattle.diva_cli.specs.Changes.{Asking, IsUnasked, LanesAsked, asking, core_of}
use Rattle.diva_workbench.specs.Judges.{HasJudgement, status_by}
use Rattle.diva_workbench.specs.declared.lab.Hands.{Hands}
use Rattle.diva_workbench.specs.Lab.{HasDrawn, IsUnread, LabAnswered, lab, lab_work_of, no_core, no_lanes, no_source, none_asked, own_lab_work}
use Rattle.diva_cli.specs.Lanes.{are_asked, own_asked, own_lanes, own_says}
use Rattle.diva_cli.specs.declared.lanes.Lanes.{Lanes}
use Rattle.diva_vote.specs.declared.lanes.EitherLane.{EitherLane}
use Rattle.diva_cli.specs.Ready.{HoldsReady, IsReady}
use Rattle.diva_cli.specs.Program.{diva, work_of}
use Rattle.diva_cli.specs.Wanted.{file_rules, machine_files}
use Rattle.diva_cli.proofs.Ending.{ends_done}
use Rattle.diva_cli.proofs.Polling.{own_asked_by}
use Rattle.diva_cli.proofs.Working.{answered_less}
use Rattle.diva_process.proofs.Answering as process

-- with which statuses a drawing can end
draw_ends : {C : Type 0} (gives : Meaning C) (asks : Asking C) (options : DrawOptions) (bytes : FileBytes) (status : Status) (text : List ℕ)
    → HasDrawn gives asks.lanes (core_of asks) options bytes (Ok status) text → EndsSo (lab_work_of gives asks no_source) (Draw options) status
draw_ends gives asks options bytes status text h =
    let done : IsDone status = elim h.means.written [
      | inl w ↦ ends_done h.means.last options.run.cycles status w.says
      | inr p ↦ elim p.cut [
        | inl none ↦ absurd (let e = none.1 in cc)
        | inr b ↦ absurd (let e = b.holds in cc)
      ]
    ] in
    record { done = inl done; can = done }

module _ {C F S : Type 0} (gives : Meaning C) (files : LentFiles F) (core : C) (lanes : LanesAsked) (sink : LentSink S) (options : DrawOptions) where
  -- the files of a machine were loaded, and its drawing was written
  pub drawn_answers : (setup : Setup) (ready : Ready) (after : C) (result : Result Status Failure)
      → setup ≡ options.run.setup
      → HoldsReady (given files).contents setup ready
      → IsUncounted files
      → ((bytes : FileBytes) → IsReady options.run.setup bytes ready → WritesText (lab_work_of gives (asking core after lanes) no_source) (Draw options) bytes sink result)
      → KeepsPromises (asked_for lab (Draw options)) (lab_work_of gives (asking core after lanes) no_source) files sink result
  drawn_answers setup ready after result same held none writes =
      let h : HoldsReady (given files).contents options.run.setup ready = subst (λ (s : Setup). HoldsReady (given files).contents s ready) same held in
      process.done_answers lab (lab_work_of gives (asking core after lanes) no_source) files sink (Draw options) h.bytes result h.sound none
      (λ status text d. draw_ends gives (asking core after lanes) options h.bytes status text d.0) (writes h.bytes h.is)

  -- the loading stopped, and a line was written of it
  pub undrawn_answers : (setup : Setup) (stop : Stop) (result : Result Status Failure)
      → lanes None []
      → setup ≡ options.run.setup
      → Stops file_rules (given files) (left files) (machine_files setup) stop
      → WritesStop stop sink result
      → KeepsPromises (asked_for lab (Draw options)) (lab_work_of gives (asking core core lanes) no_source) files sink result
  undrawn_answers setup stop result l same stopped wrote =
      process.stop_answers lab (lab_work_of gives (asking core core lanes) no_source) files sink (Draw options) stop result (record { core = refl; lanes = l }, refl)
      (subst (λ (s : Setup). Stops file_rules (given files) (left files) (machine_files s) stop) same stopped) wrote

-- ---- the workbench's own lanes

module _ {C D F S : Type 0} (gives : Meaning C) (account : D → SourceAccount) (before after : C) (first final : D) (lanes last : Lanes EitherLane)
    (own : lanes ≡ own_lanes) (files : LentFiles F) (sink : LentSink S) where
  abbrev asks : Asking C
  asks = asking before after (are_asked own_says lanes last)

  less : (liar : Option LanePlace) (asked : List Question) → are_asked own_says lanes last liar asked → own_asked liar asked
  less liar asked are = own_asked_by lanes last liar asked own are

  abbrev source : LentSource D
  source = lent account first final

  answered : (job : LabJob) (bytes : FileBytes) (ended : Result Status (List ℕ)) (text : List ℕ)
      → LabAnswered gives (are_asked own_says lanes last) (core_of asks) source job bytes ended text
      → LabAnswered gives own_asked (core_of asks) source job bytes ended text
  answered (Diva job) bytes ended text h =
      (answered_less gives before after (are_asked own_says lanes last) own_asked less job bytes ended text h.0, h.1)
  answered (Draw options) bytes ended text h = (record { means = h.0.means; lanes = less options.run.liar _ h.0.lanes }, h.1)
  answered (Judge options) bytes ended text h = record { means = h.means; unasked = h.unasked; unvoted = less None [] h.unvoted }
  answered (Inject options) bytes ended text h = (record { means = h.0.means; unasked = h.0.unasked; unvoted = less None [] h.0.unvoted }, h.1)
  answered (Rate names) bytes ended text h = record { means = h.means; unasked = h.unasked; unvoted = less None [] h.unvoted }

  abbrev had : Hands C D
  had = record { core = before; source = first }

  abbrev has : Hands C D
  has = record { core = after; source = final }

  -- nothing that it has in its hands was used
  unused : IsUnasked asks × IsUnread source → has ≡ had
  unused u i = record { core = u.0.core i; source = u.1 i }

  pub own_lab_answers : (job : LabJob) (result : Result Status Failure)
      → KeepsPromises (asked_for lab job) (lab_work_of gives asks source) files sink result
      → KeepsPromises (asked_for lab job) (own_lab_work gives account had has) files sink result
  own_lab_answers job result =
      process.promises_so lab lab job job (lab_work_of gives asks source) (own_lab_work gives account had has) files sink refl refl
      unused (answered job) (λ status c. c) result

-- what `diva` answers of a job the workbench answers
pub lab_answers : {C D F S : Type 0} (gives : Meaning C) (asks : Asking C) (source : LentSource D) → IsUnread source
    → (files : LentFiles F) (sink : LentSink S) (job : Job) (result : Result Status Failure)
    → KeepsPromises (asked_for diva job) (work_of gives asks) files sink result → KeepsPromises (asked_for lab (Diva job)) (lab_work_of gives asks source) files sink result
lab_answers gives asks source unread files sink job result =
    process.promises_so diva lab job (Diva job) (work_of gives asks) (lab_work_of gives asks source) files sink refl refl
    (λ u. (u, unread)) (λ bytes ended text h. (h, unread)) (λ status c. c) result

-- what is promised of a drawing holds beside any source of which nothing was read
pub drawing_answers : {C D F S : Type 0} (gives : Meaning C) (asks : Asking C) (source : LentSource D) → IsUnread source
    → (files : LentFiles F) (sink : LentSink S) (options : DrawOptions) (result : Result Status Failure)
    → KeepsPromises (asked_for lab (Draw options)) (lab_work_of gives asks no_source) files sink result
    → KeepsPromises (asked_for lab (Draw options)) (lab_work_of gives asks source) files sink result
drawing_answers gives asks source unread files sink options result =
    process.promises_so lab lab (Draw options) (Draw options) (lab_work_of gives asks no_source) (lab_work_of gives asks source) files sink refl refl
    (λ u. (u.0, unread)) (λ bytes ended text h. (h.0, unread)) (λ status c. c) result

-- what is promised of a judgement holds beside any core and any lanes of which none was asked
pub judgement_answers : {C D F S : Type 0} (gives : Meaning C) (core : C) (lanes : LanesAsked) → lanes None [] → (source : LentSource D)
    → (files : LentFiles F) (sink : LentSink S) (options : JudgeOptions) (result : Result Status Failure)
    → KeepsPromises (asked_for lab (Judge options)) (lab_work_of no_core none_asked source) files sink result
    → KeepsPromises (asked_for lab (Judge options)) (lab_work_of gives (asking core core lanes) source) files sink result
judgement_answers gives core lanes unasked source files sink options result =
    process.promises_so lab lab (Judge options) (Judge options) (lab_work_of no_core none_asked source) (lab_work_of gives (asking core core lanes) source) files sink refl refl
    (λ u. (record { core = refl; lanes = unasked }, u.1)) (λ bytes ended text h. record { means = h.means; unasked = refl; unvoted = unasked }) (λ status c. c) result

-- what is promised of runs under faults holds beside any lanes of which none was asked, and any source of which nothing was read
pub trials_answer : {C D F S : Type 0} (gives : Meaning C) (core : C) (lanes : LanesAsked) → lanes None [] → (source : LentSource D) → IsUnread source
    → (files : LentFiles F) (sink : LentSink S) (options : InjectOptions) (result : Result Status Failure)
    → KeepsPromises (asked_for lab (Inject options)) (lab_work_of gives (asking core core no_lanes) no_source) files sink result
    → KeepsPromises (asked_for lab (Inject options)) (lab_work_of gives (asking core core lanes) source) files sink result
trials_answer gives core lanes unasked source unread files sink options result =
    process.promises_so lab lab (Inject options) (Inject options) (lab_work_of gives (asking core core no_lanes) no_source) (lab_work_of gives (asking core core lanes) source) files sink refl refl
    (λ u. (record { core = refl; lanes = unasked }, unread))
    (λ bytes ended text h. (record { means = h.0.means; unasked = refl; unvoted = unasked }, unread)) (λ status c. c) result

-- what was written of files whose lines were rated is what the workbench answers, of which neither a core nor a lane was asked
pub rates_answer : {C D F S : Type 0} (gives : Meaning C) (core : C) (lanes : LanesAsked) → lanes None [] → (source : LentSource D)
    → (files : LentFiles F) → IsUncounted files → (sink : LentSink S) (names : List Text) (result : Result Status Failure)
    → ((bytes : FileBytes) → WritesText (rating_of source) names bytes sink result)
    → KeepsPromises (asked_for lab (Rate names)) (lab_work_of gives (asking core core lanes) source) files sink result
rates_answer {C} {D} {F} {S} gives core lanes unasked source files none sink names result w = go result (w (λ what. []))
  where
    work : Doing LabJob
    work = lab_work_of gives (asking core core lanes) source

    tells : (ended : Result Status Text) (text : Text) → HasRated names source ended text → work.done (Rate names) (λ what. []) ended text
    tells ended text h = record { means = h; unasked = refl; unvoted = unasked }

    done_so : (r : Result Status Failure) → ((status : Status) (text : Text) → work.done (Rate names) (λ what. []) (Ok status) text → EndsSo work (Rate names) status)
        → WritesText work (Rate names) (λ what. []) sink r → KeepsPromises (asked_for lab (Rate names)) work files sink r
    done_so r can v = process.done_answers lab work files sink (Rate names) (λ what. []) r tt none can v

    can : (status : Status) (text : Text) → work.done (Rate names) (λ what. []) (Ok status) text → EndsSo work (Rate names) status
    can status text d = let ends = rated_ends names source status text d.means in record { done = ends; can = ends }

    go : (r : Result Status Failure) → WritesText (rating_of source) names (λ what. []) sink r → KeepsPromises (asked_for lab (Rate names)) work files sink r
    go (Ok status) v = done_so (Ok status) can (record { text = v.text; means = tells (Ok status) v.text v.means; written = v.written })
    go (Err Cut) v = done_so (Err Cut) can (record { rose = v.rose; put = v.put; text = v.text; means = tells (Err v.put) v.text v.means; written = v.written })
    go (Err Memory) v = absurd v

-- with which statuses a judgement can end
status_done : (verdict : Verdict) → IsDone (status_by verdict) ⊎ IsJudged (status_by verdict)
status_done verdict.Halted = inl (inl refl)
status_done verdict.Trapped = inl (inr (inl refl))
status_done verdict.Short = inl (inr (inr refl))
status_done verdict.Wrong = inr (inl refl)
status_done verdict.Refused = inr (inr (inl refl))
status_done verdict.Unread = inr (inr (inr refl))

module _ {D F S : Type 0} (files : LentFiles F) (source : LentSource D) (sink : LentSink S) (options : JudgeOptions) where
  judge_ends : (bytes : FileBytes) (status : Status) (text : List ℕ)
      → HasJudgement options bytes source (Ok status) text → IsDone status ⊎ IsJudged status
  judge_ends bytes status text (inl none) = subst (λ (s : Status). IsDone s ⊎ IsJudged s) (sym none.ends) (inr (inr (inr refl)))
  judge_ends bytes status text (inr log) = subst (λ (s : Status). IsDone s ⊎ IsJudged s) (sym log.written.means) (status_done log.written.verdict)

  -- the image was loaded, and its log was judged
  pub judged_answers : (setup : Setup) (ready : Ready) (result : Result Status Failure)
      → setup ≡ options.setup
      → HoldsReady (given files).contents setup ready
      → IsUncounted files
      → ((bytes : FileBytes) → IsReady options.setup bytes ready → WritesText (lab_work_of no_core none_asked source) (Judge options) bytes sink result)
      → KeepsPromises (asked_for lab (Judge options)) (lab_work_of no_core none_asked source) files sink result
  judged_answers setup ready result same held none writes =
      let h : HoldsReady (given files).contents options.setup ready = subst (λ (s : Setup). HoldsReady (given files).contents s ready) same held in
      process.done_answers lab (lab_work_of no_core none_asked source) files sink (Judge options) h.bytes result h.sound none
      (λ status text d. let ends = judge_ends h.bytes status text d.means in record { done = ends; can = ends }) (writes h.bytes h.is)

  -- the loading stopped, and a line was written of it; the source was not read
  pub unjudged_answers : (setup : Setup) (stop : Stop) (result : Result Status Failure)
      → IsUnread source
      → setup ≡ options.setup
      → Stops file_rules (given files) (left files) (machine_files setup) stop
      → WritesStop stop sink result
      → KeepsPromises (asked_for lab (Judge options)) (lab_work_of no_core none_asked source) files sink result
  unjudged_answers setup stop result unread same stopped wrote =
      process.stop_answers lab (lab_work_of no_core none_asked source) files sink (Judge options) stop result (record { core = refl; lanes = tt }, unread)
      (subst (λ (s : Setup). Stops file_rules (given files) (left files) (machine_files s) stop) same stopped) wrote

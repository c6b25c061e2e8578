-- What a command answers, from what was loaded for it and what was written of it.
use Rattle.std.proofs.Common.{◌≡◌, ◌∙◌, ℕ, List, [], Option, None, Result, refl, sym, ap, subst}
use Rattle.diva_outside.specs.Files.{IsUncounted, LentFiles}
use Rattle.diva_outside.specs.Lent.{given, left}
use Rattle.diva_outside.specs.Sink.{LentSink}
use Rattle.diva_core.specs.History.{Meaning}
use Rattle.diva_vote.specs.Questions.{Question}
use Rattle.diva_args.specs.Options.{Setup}
use Rattle.diva_args.specs.declared.job.Job.{Job}
use Rattle.diva_args.specs.declared.job.Job.TheVariants.{Run, Tape, Duo, Debug, Asm, Dis, Migrate, Soak, Campaign}
use Rattle.diva_args.specs.declared.job.LanePlace.{LanePlace}
use Rattle.diva_process.specs.declared.status.Status.{Status}
use Rattle.diva_process.specs.declared.stop.Failure.{Failure}
use Rattle.diva_process.specs.declared.stop.Stop.{Stop}
use Rattle.diva_process.specs.Programs.{FileBytes, Wanted, asked_for}
use Rattle.diva_process.specs.Promises.{KeepsPromises}
use Rattle.diva_process.specs.Stops.{AreSound}
use Rattle.diva_process.specs.Writing.{Stops, WritesStop, WritesText}
use Rattle.diva_cli.specs.declared.loading.Ready.{Ready}
use Rattle.diva_cli.specs.Changes.{LanesAsked, asking, core_of}
use Rattle.diva_cli.specs.Ready.{HoldsReady, IsReady}
use Rattle.diva_cli.specs.Lanes.{are_asked, own_asked, own_lanes, own_says}
use Rattle.diva_cli.specs.declared.lanes.Lanes.{Lanes}
use Rattle.diva_vote.specs.declared.lanes.EitherLane.{EitherLane}
use Rattle.diva_cli.specs.Program.{HasAnswered, diva, own_work, work_of}
use Rattle.diva_cli.specs.Texts.{AsksLanes, HasText}
use Rattle.diva_cli.specs.Wanted.{file_rules, machine_files, wanted}
use Rattle.diva_cli.proofs.Ending.{ends_so}
use Rattle.diva_cli.proofs.Polling.{own_asked_by}
use Rattle.diva_process.proofs.Answering as process

module _ {C F S : Type 0} (gives : Meaning C) (files : LentFiles F) (core : C) (lanes : LanesAsked) (sink : LentSink S) where
  -- the files are sound, and the job's text was written
  pub done_answers : (job : Job) (bytes : FileBytes) (after : C) (result : Result Status Failure)
      → AreSound file_rules (given files).contents (wanted job) bytes
      → IsUncounted files
      → WritesText (work_of gives (asking core after lanes)) job bytes sink result
      → KeepsPromises (asked_for diva job) (work_of gives (asking core after lanes)) files sink result
  done_answers job bytes after result sound none w =
      process.done_answers diva (work_of gives (asking core after lanes)) files sink job bytes result sound none
      (λ status text. ends_so gives (asking core after lanes) job bytes status text) w

  -- the loading stopped, and a line was written of it
  pub stop_answers : (job : Job) (stop : Stop) (result : Result Status Failure)
      → lanes None []
      → Stops file_rules (given files) (left files) (wanted job) stop
      → WritesStop stop sink result
      → KeepsPromises (asked_for diva job) (work_of gives (asking core core lanes)) files sink result
  stop_answers job stop result l s w =
      process.stop_answers diva (work_of gives (asking core core lanes)) files sink job stop result (record { core = refl; lanes = l }) s w

  -- ---- a job whose files are those of a machine

  -- they were loaded, and the job's text was written
  pub ready_answers : (job : Job) (setup asked : Setup) (ready : Ready) (after : C) (result : Result Status Failure)
      → setup ≡ asked → wanted job ≡ machine_files asked
      → HoldsReady (given files).contents setup ready
      → IsUncounted files
      → ((bytes : FileBytes) → IsReady asked bytes ready → WritesText (work_of gives (asking core after lanes)) job bytes sink result)
      → KeepsPromises (asked_for diva job) (work_of gives (asking core after lanes)) files sink result
  ready_answers job setup asked ready after result same wants held none writes =
      let h : HoldsReady (given files).contents asked ready = subst (λ (s : Setup). HoldsReady (given files).contents s ready) same held in
      done_answers job h.bytes after result (subst (λ (ws : List Wanted). AreSound file_rules (given files).contents ws h.bytes) (sym wants) h.sound) none (writes h.bytes h.is)

  -- the loading stopped, and a line was written of it
  pub unready_answers : (job : Job) (setup asked : Setup) (stop : Stop) (result : Result Status Failure)
      → lanes None []
      → setup ≡ asked → wanted job ≡ machine_files asked
      → Stops file_rules (given files) (left files) (machine_files setup) stop
      → WritesStop stop sink result
      → KeepsPromises (asked_for diva job) (work_of gives (asking core core lanes)) files sink result
  unready_answers job setup asked stop result l same wants stopped wrote =
      stop_answers job stop result l
      (subst (λ (ws : List Wanted). Stops file_rules (given files) (left files) ws stop) (ap (λ (s : Setup). machine_files s) same ∙ sym wants) stopped) wrote

-- ---- what is said of the lanes can be said with less

module _ {C : Type 0} (gives : Meaning C) (before after : C) (lanes others : LanesAsked)
    (less : (liar : Option LanePlace) (asked : List Question) → lanes liar asked → others liar asked) where
  asks_less : (job : Job) (bytes : FileBytes) (ended : Result Status (List ℕ)) (text : List ℕ) (means : HasText gives job bytes (core_of (asking before after lanes)) ended text)
      → AsksLanes gives job bytes (core_of (asking before after lanes)) ended text means lanes
      → AsksLanes gives job bytes (core_of (asking before after others)) ended text means others
  asks_less (Run options) bytes ended text means l = less options.liar _ l
  asks_less (Tape options) bytes ended text means l = less None [] l
  asks_less (Duo options) bytes ended text means l = less None [] l
  asks_less (Debug options) bytes ended text means l = less None [] l
  asks_less (Asm name) bytes ended text means l = less None [] l
  asks_less (Dis name) bytes ended text means l = less None [] l
  asks_less (Migrate options) bytes ended text means l = less None [] l
  asks_less (Soak options) bytes ended text means l = less None [] l
  asks_less (Campaign options) bytes ended text means l = less None [] l

  pub answered_less : (job : Job) (bytes : FileBytes) (ended : Result Status (List ℕ)) (text : List ℕ)
      → HasAnswered gives lanes (core_of (asking before after lanes)) job bytes ended text
      → HasAnswered gives others (core_of (asking before after others)) job bytes ended text
  answered_less job bytes ended text h = record { means = h.means; lanes = asks_less job bytes ended text h.means h.lanes }

  pub promises_less : {F S : Type 0} (job : Job) (files : LentFiles F) (sink : LentSink S) (result : Result Status Failure)
      → KeepsPromises (asked_for diva job) (work_of gives (asking before after lanes)) files sink result
      → KeepsPromises (asked_for diva job) (work_of gives (asking before after others)) files sink result
  promises_less job files sink result =
      process.promises_so diva diva job job (work_of gives (asking before after lanes)) (work_of gives (asking before after others)) files sink refl refl
      (λ u. record { core = u.core; lanes = less None [] u.lanes }) (λ bytes ended text. answered_less job bytes ended text) (λ status c. c) result

-- ---- the program's own lanes

-- what is said of them follows from what is said of any
pub own_answers : {C F S : Type 0} (gives : Meaning C) (before after : C) (lanes last : Lanes EitherLane) → lanes ≡ own_lanes
    → (files : LentFiles F) (sink : LentSink S) (job : Job) (result : Result Status Failure)
    → KeepsPromises (asked_for diva job) (work_of gives (asking before after (are_asked own_says lanes last))) files sink result
    → KeepsPromises (asked_for diva job) (own_work gives before after) files sink result
own_answers gives before after lanes last own files sink job result =
    process.promises_so diva diva job job (work_of gives (asking before after (are_asked own_says lanes last))) (own_work gives before after) files sink refl refl (λ u. u.core)
    (λ bytes ended text. answered_less gives before after (are_asked own_says lanes last) own_asked (λ liar asked are. own_asked_by lanes last liar asked own are) job bytes ended text)
    (λ status c. c) result

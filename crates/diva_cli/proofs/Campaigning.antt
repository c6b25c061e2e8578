-- Runs under lockstep with a script, and what is written of those of a campaign.
use Rattle.std.proofs.Common.{◌≡◌, ℕ, zero, suc, ◌+◌, ◌*◌, ◌≤◌, true, false, List, [], ◌∷◌, length, Result, Ok, Err, IfOk, refl, ap, sym, ◌∙◌, subst, arith, inl, inr}
use Rattle.std.proofs.lemmas.Bool.{cases_Bool, true≢false}
use Rattle.diva_outside.specs.Text.{Text}
use Rattle.diva_outside.specs.declared.sink.SinkFailed.{SinkFailed}
use Rattle.diva_outside.proofs.Sinks.{past_nothing}
use Rattle.diva_isa.specs.End.{end_of}
use Rattle.diva_isa.specs.State.{State, goes_on}
use Rattle.diva_isa.specs.Step.{steps}
use Rattle.diva_isa.specs.declared.record.Record.{Record}
use Rattle.diva_core.specs.Timed.{Timed, default_config, depth, new_timed}
use Rattle.diva_core.specs.Cycle.{cycle_of, run_of}
use Rattle.diva_core.specs.Headline.{EndsAfter}
use Rattle.diva_core.specs.History.{FollowRule, Meaning, lists_of}
use Rattle.diva_core.specs.Machine.{IsMachine}
use Rattle.diva_core.proofs.Ending.{same_end}
use Rattle.diva_core.proofs.Keeping.{stays}
use Rattle.diva_core.proofs.Outcomes.{cycle-cycles, cycle-off}
use Rattle.diva_core.proofs.Starting.{new-machine}
use Rattle.diva_core.proofs.Turning.{IsHistory-rule, IsHistory-run, length-lists_of}
use Rattle.diva_faults.specs.Lists.{scripted}
use Rattle.diva_faults.specs.Spoiled.{spoiled}
use Rattle.diva_faults.specs.declared.rows.Row.{Row}
use Rattle.diva_tape.specs.Lists.{IsLockstepCall, lockstep_list}
use Rattle.diva_args.specs.declared.campaign.CampaignOptions.{CampaignOptions}
use Rattle.diva_args.specs.declared.job.Job.TheVariants.{Campaign}
use Rattle.diva_process.specs.declared.status.Status.{Status}
use Rattle.diva_process.specs.declared.stop.Failure.TheVariants.{Cut}
use Rattle.diva_cli.specs.declared.campaign.CampaignRuns.{CampaignRuns}
use Rattle.diva_cli.specs.CampaignTexts.{AreAllSame, HasCampaign, IsCampaignRun, campaign_setup, campaign_start, campaign_tally, first_run, ruled, run_under}
use Rattle.diva_vote.specs.Questions.{Question}
use Rattle.diva_outside.specs.Sink.{PutsTo, LentSink}
use Rattle.diva_cli.specs.Changes.{asking, change}
use Rattle.diva_cli.specs.Driven.{scripted_rule}
use Rattle.diva_cli.specs.Parts.{AreCampaignRuns, no_lanes}
use Rattle.diva_process.specs.Writing.{WritesText}
use Rattle.diva_cli.specs.Runs.{EndsWith, IsWhole, end_status}
use Rattle.diva_cli.specs.Tasks.{DrivesFor}
use Rattle.diva_process.specs.Programs.{FileBytes}
use Rattle.diva_trace.specs.Text.{campaign_text}
use Rattle.diva_cli.proofs.Counting.{all_same, same_by_state}
use Rattle.diva_cli.proofs.Running.{ends_with}
use Rattle.diva_cli.proofs.Sessions.{run_from_start}
use Rattle.diva_cli.proofs.Soaking.{sizes_fit}
use Rattle.diva_cli.specs.Program.{work_of}

-- ---- under a rule

-- a machine that has ended stays as it is
ended_stays : (rule : Timed → List Record) (n : ℕ) (m : Timed) → goes_on m.arch ≡ false → ruled rule n m ≡ m
ended_stays rule zero m off = refl
ended_stays rule (suc n) m off = ap (ruled rule n) (cycle-off m (rule m) off) ∙ ended_stays rule n m off

-- lists that follow a rule until all cycles were run, or the machine ended, lead to where the rule leads
follows_ruled : (rule : Timed → List Record) (lists : List (List Record)) (n : ℕ) (m : Timed)
    → FollowRule rule m lists → length lists ≤ n → (goes_on (run_of m lists).arch ≡ true → length lists ≡ n)
    → run_of m lists ≡ ruled rule n m
follows_ruled rule [] n m follows few whole =
    elim (cases_Bool (goes_on m.arch)) [
      | inl on ↦ ap (λ k. ruled rule k m) (whole on)
      | inr off ↦ sym (ended_stays rule n m off)
    ]
follows_ruled rule (list ∷ rest) zero m follows few whole = absurd (omega arith)
follows_ruled rule (list ∷ rest) (suc n) m follows few whole =
    follows_ruled rule rest n (cycle_of m list) follows.1 (omega arith) (λ on. (let w = whole on in omega arith))
    ∙ ap (λ (l : List Record). ruled rule n (cycle_of m l)) follows.0

-- the lists that a rule gives until all cycles were run, or the machine ended
record AreRuled (rule : Timed → List Record) (n : ℕ) (m : Timed) : Type 0 where
  lists : List (List Record)
  ran : ruled rule n m ≡ run_of m lists
  each : (ruled rule n m).cycles ≡ m.cycles + length lists
  few : length lists ≤ n
  whole : goes_on (ruled rule n m).arch ≡ true → length lists ≡ n
  follows : FollowRule rule m lists

ruled_lists : (rule : Timed → List Record) (n : ℕ) (m : Timed) → IsMachine m → AreRuled rule n m
ruled_lists rule zero m inv = record { lists = []; ran = refl; each = omega arith; few = omega arith; whole = λ on. refl; follows = tt }
ruled_lists rule (suc n) m inv =
    elim (cases_Bool (goes_on m.arch)) [
      | inl on ↦ let more = ruled_lists rule n (cycle_of m (rule m)) (stays m (rule m) inv) in
          record {
            lists = rule m ∷ more.lists;
            ran = more.ran;
            each = (let e = more.each in let c = cycle-cycles m (rule m) inv on in omega arith);
            few = (let f = more.few in omega arith);
            whole = λ later. (let w = more.whole later in omega arith);
            follows = (refl, more.follows);
          }
      | inr off ↦ let same : ruled rule (suc n) m ≡ m = ended_stays rule (suc n) m off in
          record {
            lists = [];
            ran = same;
            each = (let e = ap (λ (k : Timed). k.cycles) same in omega arith);
            few = omega arith;
            whole = λ on. absurd (true≢false (sym on ∙ ap (λ (k : Timed). goes_on k.arch) same ∙ off));
            follows = tt;
          }
    ]

-- ---- a drive of a core that is lockstep under a script

pub drove_ruled :
    {D : Type 0} (rows : List Row) (m : Timed) (core : D) (last : Timed) (final : D) (budget : ℕ) (this : List Question → Type 0)
    → DrivesFor (spoiled rows IsLockstepCall) budget (change m last) (change core final) this
    → last ≡ ruled (scripted_rule rows lockstep_list) budget m
drove_ruled {D} rows m core last final budget this d =
    let t = d.turns in
    let lists : List (List Record) = lists_of t.history in
    let led : last ≡ run_of m lists = IsHistory-run (spoiled rows IsLockstepCall) m core t.history last final t.good in
    let follows : FollowRule (scripted_rule rows lockstep_list) m lists =
    IsHistory-rule (spoiled rows IsLockstepCall) (scripted_rule rows lockstep_list)
    (λ n before list after h. h.laid ∙ ap (scripted rows (n.cycles + 1)) h.given) m core t.history last final t.good in
    let many = length-lists_of t.history in
    led ∙ follows_ruled (scripted_rule rows lockstep_list) lists budget m follows (let e = t.each in let w = d.most in omega arith)
    (λ on. (let e = t.each in let w = d.whole (ap (λ (k : Timed). goes_on k.arch) led ∙ on) in omega arith))

-- ---- what holds of each run

module _ {C : Type 0} (gives : Meaning C) (options : CampaignOptions) (start : State) (core : C) (none : start.instret ≡ 0) where
  ruled_by : (script : List Row) → AreRuled (scripted_rule script lockstep_list) options.cycles (new_timed default_config start)
  ruled_by script = ruled_lists (scripted_rule script lockstep_list) options.cycles (new_timed default_config start) (new-machine default_config start sizes_fit none)

  whole_run : (script : List Row) → IsWhole (campaign_setup options) options.cycles start (run_under script options.cycles start)
  whole_run script =
      let led = ruled_by script in
      record {
        all = λ on. (let e = led.each in let w = led.whole on in omega arith);
        same = λ n ends long. subst (λ (m : Timed). (m.arch ≡ steps n start) × (m.count ≡ n)) (sym led.ran)
            (same_end default_config start led.lists n options.cycles sizes_fit none (λ on. led.whole (ap (λ (m : Timed). goes_on m.arch) led.ran ∙ on)) ends long);
      }

  pub each_run : (script : List Row) → IsCampaignRun gives options start (change core core) script
  each_run script =
      let led = ruled_by script in
      record {
        run = run_from_start gives (campaign_setup options) options.cycles [] script start core (run_under script options.cycles start) core sizes_fit none
            led.lists led.ran (let e = led.each in omega arith) led.few (record { follows = (led.follows, tt); same = refl });
        whole = whole_run script;
      }

  pub no_change : (n : ℕ) → EndsAfter n start → n * (default_config.limit + depth) ≤ options.cycles → AreAllSame options.last (campaign_tally options.last options.cycles start)
  no_change n ends long =
      let first = (whole_run []).same n ends long in
      all_same (first_run options.cycles start) (λ row. run_under (row ∷ []) options.cycles start) options.last
      (λ row. (let other = (whole_run (row ∷ [])).same n ends long in
      same_by_state (first_run options.cycles start) (run_under (row ∷ []) options.cycles start) (other.0 ∙ sym first.0) (other.1 ∙ sym first.1)))

-- ---- what is written of them

module _ {C S : Type 0} (gives : Meaning C) (options : CampaignOptions) (bytes : FileBytes) (core : C) (sink : LentSink S) (runs : CampaignRuns)
    (are : AreCampaignRuns options bytes runs) where
  abbrev start : State
  start = campaign_start bytes

  abbrev text : Text
  text = campaign_text runs.tally runs.first.timed

  means : (ended : Result Status Text) → IfOk ended (λ status. status ≡ end_status (end_of runs.first.timed.arch.end)) → HasCampaign gives options bytes (change core core) ended text
  means ended status = record {
    lines = ap (λ tally. campaign_text tally runs.first.timed) are.tally ∙ ap (campaign_text (campaign_tally options.last options.cycles start)) are.first;
    status = says ended status;
    runs = each_run gives options start core refl;
    same = no_change gives options start core refl;
    unasked = refl;
  }
    where
      first_whole : IsWhole (campaign_setup options) options.cycles start (first_run options.cycles start)
      first_whole = whole_run gives options start core refl []

      says : (e : Result Status Text) → IfOk e (λ status. status ≡ end_status (end_of runs.first.timed.arch.end)) → IfOk e (λ status. EndsWith (first_run options.cycles start) options.cycles status)
      says (Ok status) is = ends_with (campaign_setup options) options.cycles start (first_run options.cycles start) status first_whole (is ∙ ap (λ (m : Timed). end_status (end_of m.arch.end)) are.first)
      says (Err put) is = tt

  pub wrote_campaign : (status : Status) → status ≡ end_status (end_of runs.first.timed.arch.end) → PutsTo {E = SinkFailed} sink text (Ok tt)
      → WritesText (work_of gives (asking core core no_lanes)) (Campaign options) bytes sink (Ok status)
  wrote_campaign status is put = record { text = text; means = record { means = means (Ok status) is; lanes = refl }; written = record { appended = put.ok; uncounted = put.uncounted } }

  pub cut_campaign : (e : SinkFailed) → PutsTo sink text (Err e) → WritesText (work_of gives (asking core core no_lanes)) (Campaign options) bytes sink (Err Cut)
  cut_campaign e put = record { rose = put.failed; put = []; text = text; means = record { means = means (Err []) tt; lanes = refl }; written = past_nothing sink text put.part }

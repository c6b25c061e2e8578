-- Runs under faults as runs of `run`, and what is written of them.
use Rattle.std.proofs.Common.{◌≡◌, ◌≤◌, ◌+◌, ◌*◌, ◌&&◌, ◌==◌, ℕ, suc, List, [], ◌∷◌, ◌++◌, length, true, Result, Ok, Err, inl, refl, sym, ap, subst, ◌∙◌, append-nil, arith}
use Rattle.std.specs.Prelude.{IfOk, IfErr}
use Rattle.std.specs.List.{All}
use Rattle.std.specs.Str.{bytes_eq}
use Rattle.std.proofs.lemmas.Bool.Decides.{nat_tests}
use Rattle.std.proofs.lemmas.Slice.Eq.{bytes_eq-Decides}
use Rattle.std.proofs.lemmas.List.Elements.{All-cons, All-nil}
use Rattle.diva_outside.specs.Lent.{given, left, lent}
use Rattle.diva_outside.specs.Files.{IsUncounted, LentFiles}
use Rattle.diva_outside.specs.Sink.{LentSink, SinkAccount}
use Rattle.diva_outside.specs.Text.{Text}
use Rattle.diva_outside.specs.declared.sink.SinkFailed.{SinkFailed}
use Rattle.diva_isa.specs.State.{State, goes_on}
use Rattle.diva_isa.specs.Step.{steps}
use Rattle.diva_isa.specs.declared.record.Record.{Record}
use Rattle.diva_core.specs.Cycle.{run_of}
use Rattle.diva_core.specs.Headline.{EndsAfter}
use Rattle.diva_core.specs.History.{IsHistory, Meaning, Turns}
use Rattle.diva_core.specs.Legs.{Part, handed_in, run_parts}
use Rattle.diva_core.specs.Machine.{IsConfig}
use Rattle.diva_core.specs.Timed.{Config, Timed, depth, new_timed}
use Rattle.diva_core.proofs.Ending.{same_end}
use Rattle.diva_core.proofs.Turning.{length-lists_of}
use Rattle.diva_faults.specs.declared.rows.Row.{Row}
use Rattle.diva_faults.specs.Spoiled.{spoiled}
use Rattle.diva_inject.specs.declared.outcome.Outcome.{Outcome}
use Rattle.diva_open.specs.Laws.{opened}
use Rattle.diva_open.specs.Open.{Open, new_open}
use Rattle.diva_tape.specs.Lists.{IsEchoCall, IsFloodCall, IsLockstepCall, echo_list, flood_list, lockstep_list, silent_list}
use Rattle.diva_tape.specs.declared.echo.Echo.{Echo}
use Rattle.diva_tape.specs.declared.flood.Flood.{Flood}
use Rattle.diva_tape.specs.declared.lockstep.Lockstep.{Lockstep}
use Rattle.diva_tape.specs.declared.silent.Silent.{Silent}
use Rattle.diva_tape.proofs.Following.{new_leads}
use Rattle.diva_inject.specs.Plans.{fault_at}
use Rattle.diva_trial.specs.Begun.{AreTrials}
use Rattle.diva_trial.specs.Lines.{AreOutcomes, IsOutcome, PutsTrials, before_last, numbers_in, trials_text}
use Rattle.diva_trial.specs.Paths.{IsPath, checked_cycle, handed_to}
use Rattle.diva_trial.specs.declared.lines.Faults.{Faults}
use Rattle.diva_trial.specs.declared.trials.Trials.{Trials}
use Rattle.diva_trial.specs.Trials.{HasTrial, IsFree, IsTrial, RunsTo, is_same}
use Rattle.diva_args.specs.Options.{Setup}
use Rattle.diva_hart.specs.Start.{start_of}
use Rattle.diva_image.specs.ImageLayout.{layout}
use Rattle.diva_image.specs.Layout.{Layout}
use Rattle.diva_process.specs.Answers.{EndsSo, IsDone}
use Rattle.diva_process.specs.Programs.{Doing, FileBytes, asked_for}
use Rattle.diva_process.specs.Promises.{KeepsPromises}
use Rattle.diva_process.specs.Stops.{AreSound}
use Rattle.diva_process.specs.Writing.{Stops, WritesStop, WritesText}
use Rattle.diva_process.specs.declared.stop.Failure.{Failure}
use Rattle.diva_process.specs.declared.stop.Failure.TheVariants.{Cut, Memory}
use Rattle.diva_process.specs.declared.stop.Stop.{Stop}
use Rattle.diva_process.proofs.Answering as process
use Rattle.diva_process.specs.declared.status.Status.{Status}
use Rattle.diva_process.specs.declared.status.Status.TheVariants.{Halted}
use Rattle.diva_cli.specs.Changes.{asking, change}
use Rattle.diva_cli.specs.Driven.{AreHanded}
use Rattle.diva_cli.specs.Ready.{IsLoaded, IsOnePart, PlaysBy, core_for}
use Rattle.diva_cli.specs.Sessions.{start_in}
use Rattle.diva_cli.specs.Tasks.{Plays}
use Rattle.diva_cli.specs.Wanted.{file_rules, machine_files}
use Rattle.diva_cli.specs.declared.driving.CoreInUse.{CoreInUse}
use Rattle.diva_cli.specs.declared.loading.Loaded.{Loaded}
use Rattle.diva_cli.specs.declared.driving.CoreInUse.TheVariants as used
use Rattle.diva_cli.proofs.Handing.{plays_other, plays_own, plays_rule, plays_turns}
use Rattle.diva_cli.proofs.Sessions.{handed_for, run_from_start}
use Rattle.diva_lab_args.specs.declared.inject.InjectOptions.{InjectOptions}
use Rattle.diva_lab_args.specs.declared.lab.LabJob.{LabJob}
use Rattle.diva_lab_args.specs.declared.lab.LabJob.TheVariants.{Inject}
use Rattle.diva_workbench.specs.Injects.{IsInjected, IsRunWith, OfCore, fault_in, numbers_by}
use Rattle.diva_workbench.specs.Injecting.{HasPut, InjectsUnder, faults_by}
use Rattle.diva_workbench.specs.Lab.{HasTried, lab, lab_work_of, no_lanes, no_source}

-- ---- a path of a machine with its checker is a history of the core under the script

abbrev pub history_on : {C : Type 0} → (rows : List Row) → (o : Open) → List (List Record × C) → List (List Record × C)
history_on rows o [] = []
history_on rows o (turn ∷ rest) = (handed_to rows o turn.0, turn.1) ∷ history_on rows (checked_cycle o (handed_to rows o turn.0)) rest

history_length : {C : Type 0} (rows : List Row) (o : Open) (path : List (List Record × C)) → length (history_on rows o path) ≡ length path
history_length rows o [] = refl
history_length rows o (turn ∷ rest) = ap suc (history_length rows (checked_cycle o (handed_to rows o turn.0)) rest)

history_good : {C : Type 0} (gives : Meaning C) (rows : List Row) (o : Open) (core : C) (path : List (List Record × C)) (last : Open) (final : C)
    → IsPath checked_cycle gives rows o core path last final → IsHistory (spoiled rows gives) o.timed core (history_on rows o path) last.timed final
history_good gives rows o core [] last final good = (ap (λ (k : Open). k.timed) good.0, good.1)
history_good gives rows o core (turn ∷ rest) last final good =
    (good.0, (record { inner = turn.0; given = good.1.0; laid = refl }, history_good gives rows (checked_cycle o (handed_to rows o turn.0)) turn.1 rest last final good.1.1))

-- these lists were handed over in a whole run
abbrev pub AreAll : (cycles : ℕ) → (last : Timed) → List (List Record) → Type 0
AreAll cycles last lists = (length lists ≤ cycles) × (goes_on last.arch ≡ true → length lists ≡ cycles)

module _ {C : Type 0} (its : Meaning C) (setup : Setup) (cycles : ℕ) (start : State) (first : C) (rows : List Row) (last : Timed) (final : C)
    (runs : RunsTo checked_cycle its rows cycles (new_open setup.config start) first (opened last) final) where
  turns : Turns (spoiled rows its) (new_timed setup.config start) first last final
  turns =
      record {
        history = history_on rows (new_open setup.config start) runs.leads.path;
        good = history_good its rows (new_open setup.config start) first runs.leads.path (opened last) final runs.leads.good;
        each = (let e = runs.leads.each in let h = history_length rows (new_open setup.config start) runs.leads.path in omega arith);
      }

  pub plays : Plays (spoiled rows its) (change (new_timed setup.config start) last) (change first final) (IsOnePart (AreAll cycles last))
  plays =
      let l = length-lists_of turns.history in
      let e = turns.each in
      plays_turns (spoiled rows its) (new_timed setup.config start) first last final (AreAll cycles last) turns
      ((let w = runs.within in omega arith), λ on. (let w = runs.whole on in omega arith))

-- ---- a run by the core in use is one of `run`

-- a core in use drove a new machine in a whole run
pub record HasPlayed {C : Type 0} (gives : Meaning C) (setup : Setup) (cycles : ℕ) (start : State) (core : C) (in_use : CoreInUse) (rows : List Row) (last : Timed) : Type 0 where
  pub after : C
  pub plays : PlaysBy gives in_use rows (change (new_timed setup.config start) last) (change core after) (IsOnePart (AreAll cycles last))

module _ {C : Type 0} (gives : Meaning C) (setup : Setup) (cycles : ℕ) (tape : List (List Record)) (start : State) (core : C) (rows : List Row) (last : Timed)
    (fits : IsConfig setup.config) (zero : start.instret ≡ 0) (played : HasPlayed gives setup cycles start core (core_for setup.core tape) rows last) where
  abbrev new : Timed
  new = new_timed setup.config start

  abbrev p : PlaysBy gives (core_for setup.core tape) rows (change new last) (change core played.after) (IsOnePart (AreAll cycles last))
  p = played.plays

  abbrev lists : List (List Record)
  lists = p.done.lists

  ran : last ≡ run_of new lists
  ran = p.ran ∙ ap (run_parts new) p.done.one

  each : last.cycles ≡ length lists
  each =
      let all : length (handed_in p.parts) ≡ length lists = ap (λ (parts : List Part). length (handed_in parts)) p.done.one ∙ ap length (append-nil lists) in
      (let e = p.each in omega arith)

  pub run_with : IsRunWith gives setup cycles tape start core rows last
  run_with =
      record {
        final = played.after;
        run = run_from_start gives setup cycles tape rows start core last played.after fits zero lists ran each p.done.done.0
            (subst (AreHanded gives setup.core tape rows (change new last) (change core played.after)) p.done.one
            (handed_for gives setup.core tape rows new core p.parts last played.after (new_leads setup.config start fits zero) tt p.handed));
        whole = record {
          all = λ on. each ∙ p.done.done.1 on;
          same = λ n ends long. subst (λ (m : Timed). (m.arch ≡ steps n start) × (m.count ≡ n)) (sym ran)
              (same_end setup.config start lists n cycles fits zero (λ on. p.done.done.1 (ap (λ (m : Timed). goes_on m.arch) ran ∙ on)) ends long);
        };
      }

-- ---- the runs of the core in use

-- what it does in each run is what it is said to do, and what holds of it holds of the core in use
pub record IsUsed {C : Type 0} (gives : Meaning C) (setup : Setup) (cycles : ℕ) (start : State) (core : C) (in_use : CoreInUse) (D : Type 0) (its : Meaning D) (first : D) : Type 1 where
  pub played : (rows : List Row) (last : Timed) (final : D) → RunsTo checked_cycle its rows cycles (new_open setup.config start) first (opened last) final
      → HasPlayed gives setup cycles start core in_use rows last
  pub of : (this : (E : Type 0) → Meaning E → E → Type 0) → this D its first → OfCore gives in_use core this

-- this follows for the core in use, if it does for each core that it may be
pub for_core :
    {C : Type 0} (gives : Meaning C) (setup : Setup) (cycles : ℕ) (start : State) (core : C) (in_use : CoreInUse)
    (this : (E : Type 0) → Meaning E → E → Type 0) (that : Type 0)
    → ((D : Type 0) (its : Meaning D) (first : D) → IsUsed gives setup cycles start core in_use D its first → this D its first → that)
    → OfCore gives in_use core this → that
for_core gives setup cycles start core used.Own this that so h =
    so _ gives core (record {
      played = λ rows last final runs. record { after = final; plays = plays_own gives rows (new_timed setup.config start) last core final _ (plays gives setup cycles start core rows last final runs) };
      of = λ those is. is;
    }) h
for_core gives setup cycles start core used.Lockstep this that so h =
    so Lockstep IsLockstepCall (record {}) (record {
      played = λ rows last final runs. record {
        after = core;
        plays = plays_rule gives IsLockstepCall rows (new_timed setup.config start) last core (record {}) final _
            (plays IsLockstepCall setup cycles start (record {}) rows last final runs) used.Lockstep lockstep_list (λ h. h) (λ n before list after h. h);
      };
      of = λ those is. is;
    }) h
for_core gives setup cycles start core (used.Scalar scalar) this that so h =
    so _ _ scalar (record {
      played = λ rows last final runs. record {
        after = core;
        plays = plays_other gives _ rows (new_timed setup.config start) last core scalar final _
            (plays _ setup cycles start scalar rows last final runs) (used.Scalar scalar) (λ h. h);
      };
      of = λ those is. is;
    }) h
for_core gives setup cycles start core used.Silent this that so h =
    so Silent _ (record {}) (record {
      played = λ rows last final runs. record {
        after = core;
        plays = plays_rule gives _ rows (new_timed setup.config start) last core (record {}) final _
            (plays _ setup cycles start (record {}) rows last final runs) used.Silent silent_list (λ h. h) (λ n before list after h. h);
      };
      of = λ those is. is;
    }) h
for_core gives setup cycles start core used.Flood this that so h =
    so Flood IsFloodCall (record {}) (record {
      played = λ rows last final runs. record {
        after = core;
        plays = plays_rule gives IsFloodCall rows (new_timed setup.config start) last core (record {}) final _
            (plays IsFloodCall setup cycles start (record {}) rows last final runs) used.Flood flood_list (λ h. h) (λ n before list after h. h);
      };
      of = λ those is. is;
    }) h
for_core gives setup cycles start core used.Echo this that so h =
    so Echo IsEchoCall (record {}) (record {
      played = λ rows last final runs. record {
        after = core;
        plays = plays_rule gives IsEchoCall rows (new_timed setup.config start) last core (record {}) final _
            (plays IsEchoCall setup cycles start (record {}) rows last final runs) used.Echo echo_list (λ h. h) (λ n before list after h. h);
      };
      of = λ those is. is;
    }) h
for_core gives setup cycles start core (used.Noise noise) this that so h =
    so _ _ noise (record {
      played = λ rows last final runs. record {
        after = core;
        plays = plays_other gives _ rows (new_timed setup.config start) last core noise final _
            (plays _ setup cycles start noise rows last final runs) (used.Noise noise) (λ h. h);
      };
      of = λ those is. is;
    }) h
for_core gives setup cycles start core (used.Tape tape) this that so h =
    so _ _ tape (record {
      played = λ rows last final runs. record {
        after = core;
        plays = plays_other gives _ rows (new_timed setup.config start) last core tape final _
            (plays _ setup cycles start tape rows last final runs) (used.Tape tape) (λ h. h);
      };
      of = λ those is. is;
    }) h

-- ---- what became of the runs under faults

bytes_eq-self : (l : List ℕ) → bytes_eq l l ≡ true
bytes_eq-self l = (bytes_eq-Decides l l).1 refl

is_same_by : (a b : Timed) → a.arch ≡ b.arch → a.count ≡ b.count → is_same a b ≡ true
is_same_by a b arch count = rw (arch, count) (same_self b)
  where
    eq_self : (n : ℕ) → (n == n) ≡ true
    eq_self n = grind (arith, nat_tests)

    same_self : (m : Timed) →
        ((m.arch.end == m.arch.end)
        && ((m.count == m.count)
        && (bytes_eq m.arch.output m.arch.output
        && (bytes_eq m.arch.regs m.arch.regs
        && ((m.arch.pc == m.arch.pc)
        && ((m.arch.base == m.arch.base) && bytes_eq m.arch.bytes m.arch.bytes)))))) ≡ true
    same_self m =
        rw (eq_self m.arch.end, eq_self m.count, bytes_eq-self m.arch.output, bytes_eq-self m.arch.regs, eq_self m.arch.pc, eq_self m.arch.base, bytes_eq-self m.arch.bytes) refl

module _ {C D : Type 0} (gives : Meaning C) (options : InjectOptions) (tape : List (List Record)) (script : List Row) (start : State) (core : C)
    (its : Meaning D) (first : D) (fits : IsConfig options.setup.config) (zero : start.instret ≡ 0)
    (u : IsUsed gives options.setup options.cycles start core (core_for options.setup.core tape) D its first) (free : Timed) where
  abbrev HasIts : (number : ℕ) → Outcome → Type 0
  HasIts number outcome = HasTrial its options.setup.config start first script options.cycles free number (fault_in options free number) outcome

  run_of_rows : (rows : List Row) (last : Timed) (final : D) → RunsTo checked_cycle its rows options.cycles (new_open options.setup.config start) first (opened last) final
      → IsRunWith gives options.setup options.cycles tape start core rows last
  run_of_rows rows last final runs = run_with gives options.setup options.cycles tape start core rows last fits zero (u.played rows last final runs)

  injected : (number : ℕ) (outcome : Outcome) → HasIts number outcome → IsInjected gives options tape script start core free number outcome
  injected number outcome h =
      record {
        last = h.last;
        left = h.o;
        trial = u.of (λ E it at. IsTrial it options.setup.config start at script options.cycles free number (fault_in options free number) h.last h.o outcome) h.trial;
        run = run_of_rows (script ++ fault_in options free number ∷ []) h.last h.trial.final h.trial.runs;
      }

  all_injected : (numbers : List ℕ) (outcomes : List Outcome) → AreOutcomes HasIts numbers outcomes
      → AreOutcomes (IsInjected gives options tape script start core free) numbers outcomes
  all_injected [] [] are = tt
  all_injected (n ∷ numbers) (o ∷ outcomes) are = (injected n o are.0, all_injected numbers outcomes are.1)
  all_injected [] (o ∷ outcomes) are = absurd are
  all_injected (n ∷ numbers) [] are = absurd are

  module _ (r : IsRunWith gives options.setup options.cycles tape start core script free) (n : ℕ) (ends : EndsAfter n start)
      (long : n * (options.setup.config.limit + depth) ≤ options.cycles) where
    same_one : (number : ℕ) (outcome : Outcome) → HasIts number outcome → outcome.same ≡ true
    same_one number outcome h =
        let due = r.whole.same n ends long in
        let got = (run_of_rows (script ++ fault_in options free number ∷ []) h.last h.trial.final h.trial.runs).whole.same n ends long in
        ap (λ (o : Outcome). o.same) h.trial.says ∙ is_same_by h.last free (got.0 ∙ sym due.0) (got.1 ∙ sym due.1)

    same_all : (numbers : List ℕ) (outcomes : List Outcome) → AreOutcomes HasIts numbers outcomes → All (λ (outcome : Outcome). outcome.same ≡ true) outcomes
    same_all [] [] are = All-nil (λ (outcome : Outcome). outcome.same ≡ true)
    same_all (k ∷ numbers) (o ∷ outcomes) are = All-cons (λ (outcome : Outcome). outcome.same ≡ true) o outcomes (same_one k o are.0) (same_all numbers outcomes are.1)
    same_all [] (o ∷ outcomes) are = absurd are
    same_all (k ∷ numbers) [] are = absurd are

-- ---- what is written of them

-- the lines that were put of trials are those of the options
pub has_put :
    {D S : Type 0} (its : Meaning D) (options : InjectOptions) (trials : Trials D) (faults : Faults) (sink : LentSink S) (result : Result (Unit {0}) SinkFailed) (start : State)
    (core : D)
    → faults ≡ faults_by options trials.free.timed
    → AreTrials its options.setup.config start core trials
    → trials.until ≡ options.cycles
    → PutsTrials (IsOutcome its options.setup.config start core trials faults.plan) (numbers_in faults) sink result
    → HasPut options trials.script.now start sink result D its core
has_put its options trials faults sink result start core same are until puts =
    let config : Config = options.setup.config in
    let free : Timed = trials.free.timed in
    record {
      free = free;
      is = subst (λ (n : ℕ). IsFree its config start core trials.script.now n free) until are.free;
      puts = subst (λ (n : ℕ). PutsTrials (λ number outcome. HasTrial its config start core trials.script.now n free number (fault_in options free number) outcome) (numbers_by options) sink result) until
          (subst (λ (f : Faults). PutsTrials (λ number outcome. HasTrial its config start core trials.script.now trials.until free number (fault_at f.plan number) outcome) (numbers_in f) sink result) same puts);
    }

-- the text was written, or a part of it; or memory ran out, and nothing was put
abbrev pub WritesOrNot : {S : Type 0} → Doing LabJob → LabJob → FileBytes → LentSink S → Result Status Failure → Type 0
WritesOrNot work job bytes sink (Ok ends) = WritesText work job bytes sink (Ok ends)
WritesOrNot work job bytes sink (Err Cut) = WritesText work job bytes sink (Err Cut)
WritesOrNot work job bytes sink (Err Memory) = sink.after ≡ sink.before

module _ {C S : Type 0} (gives : Meaning C) (options : InjectOptions) (bytes : FileBytes) (loaded : Loaded) (core : C) (account : S → SinkAccount) (s0 s1 : S)
    (fits : IsConfig options.setup.config) (is : IsLoaded options.setup bytes loaded) where
  abbrev start : State
  start = start_in options.setup bytes

  abbrev tape : List (List Record)
  tape = is.core.tape

  abbrev script : List Row
  script = loaded.script

  abbrev sink : LentSink S
  sink = lent account s0 s1

  abbrev work : Doing LabJob
  work = lab_work_of gives (asking core core no_lanes) no_source

  module _ {D : Type 0} (its : Meaning D) (first : D) (u : IsUsed gives options.setup options.cycles start core (core_for options.setup.core tape) D its first) where
    has_lines : (result : Result (Unit {0}) SinkFailed) (h : HasPut options script start sink result D its first) (ended : Result Status Text)
        → IfOk ended (λ ends. (ends ≡ Halted) × (h.puts.later ≡ [])) → IfErr ended (λ put. put ≡ before_last h.puts.outcomes)
        → HasTried gives no_lanes (change core core) options bytes ended (trials_text h.puts.outcomes)
    has_lines result h ended all cut =
        let run = run_of_rows gives options tape script start core its first fits refl u h.free script h.free h.is.final h.is.runs in
        record {
          means = record {
            script = script;
            rows = is.rows;
            tape = tape;
            lists = is.core.lists;
            holds = record {
              free = h.free;
              run = run;
              done = h.puts.done;
              later = h.puts.later;
              in_order = h.puts.in_order;
              outcomes = h.puts.outcomes;
              are = all_injected gives options tape script start core its first fits refl u h.free h.puts.done h.puts.outcomes h.puts.are;
              lines = refl;
              all = all;
              cut = cut;
              same = λ n ends long. same_all gives options tape script start core its first fits refl u h.free run n ends long h.puts.done h.puts.outcomes h.puts.are;
            };
          };
          unasked = refl;
          unvoted = tt;
        }

    writes : (result : Result Status Failure) → InjectsUnder options script start sink result D its first → WritesOrNot work (Inject options) bytes sink result
    writes (Ok ends) h =
        record {
          text = trials_text h.1.puts.outcomes;
          means = (has_lines (Ok tt) h.1 (Ok ends) (h.0, h.1.puts.all) tt, refl);
          written = record { appended = h.1.puts.put.ok; uncounted = h.1.puts.put.uncounted };
        }
    writes (Err Cut) h =
        record {
          rose = h.puts.put.failed;
          put = before_last h.puts.outcomes;
          text = trials_text h.puts.outcomes;
          means = (has_lines (Err (record {})) h (Err (before_last h.puts.outcomes)) tt refl, refl);
          written = h.puts.cut;
        }
    writes (Err Memory) h = h

  pub injects : (result : Result Status Failure)
      → OfCore gives loaded.core core (InjectsUnder options script (start_of (layout loaded.image)) sink result)
      → WritesOrNot work (Inject options) bytes sink result
  injects result h =
      for_core gives options.setup options.cycles start core (core_for options.setup.core tape) (InjectsUnder options script start sink result)
      (WritesOrNot work (Inject options) bytes sink result)
      (λ D its first u i. writes its first u result i)
      (subst (λ (k : CoreInUse). OfCore gives k core (InjectsUnder options script start sink result)) is.core.is
      (subst (λ (l : Layout). OfCore gives loaded.core core (InjectsUnder options script (start_of l) sink result)) is.image h))

-- ---- what the command answers

module _ {C F S : Type 0} (gives : Meaning C) (files : LentFiles F) (core : C) (sink : LentSink S) (options : InjectOptions) where
  abbrev work_with : Doing LabJob
  work_with = lab_work_of gives (asking core core no_lanes) no_source

  pub tried_answers : (bytes : FileBytes) (result : Result Status Failure)
      → AreSound file_rules (given files).contents (machine_files options.setup) bytes
      → IsUncounted files
      → WritesOrNot work_with (Inject options) bytes sink result
      → KeepsPromises (asked_for lab (Inject options)) work_with files sink result
  tried_answers bytes (Ok ends) sound none w = process.done_answers lab work_with files sink (Inject options) bytes (Ok ends) sound none can w
    where
      can : (status : Status) (text : Text) → work_with.done (Inject options) bytes (Ok status) text → EndsSo work_with (Inject options) status
      can status text d = let halted : IsDone status = inl d.0.means.holds.all.0 in record { done = inl halted; can = halted }
  tried_answers bytes (Err Cut) sound none w = process.done_answers lab work_with files sink (Inject options) bytes (Err Cut) sound none can w
    where
      can : (status : Status) (text : Text) → work_with.done (Inject options) bytes (Ok status) text → EndsSo work_with (Inject options) status
      can status text d = let halted : IsDone status = inl d.0.means.holds.all.0 in record { done = inl halted; can = halted }
  tried_answers bytes (Err Memory) sound none w = record { uncounted = none; unused = (record { core = refl; lanes = tt }, refl); unput = w }

  -- the loading stopped, and a line was written of it
  pub untried_answers : (stop : Stop) (result : Result Status Failure)
      → Stops file_rules (given files) (left files) (machine_files options.setup) stop
      → WritesStop stop sink result
      → KeepsPromises (asked_for lab (Inject options)) work_with files sink result
  untried_answers stop result stopped wrote =
      process.stop_answers lab work_with files sink (Inject options) stop result (record { core = refl; lanes = tt }, refl) stopped wrote

-- A run over files, and what is written of it.
use Rattle.std.proofs.Common.{◌≡◌, ℕ, ◌+◌, ◌-◌, ◌≤◌, ◌==◌, ◌%◌, ◌^◌, nat_lt, cond, Bool, true, false, List, [], ◌∷◌, ◌++◌, length, Option, Result, Ok, Err, IsOk, OnOk, OnErr, refl, inl, inr, sym, ◌∙◌, ap, append-nil, subst, arith}
use Rattle.std.proofs.lemmas.Bool.{true≢false}
use Rattle.diva_isa.specs.End.{end_of}
use Rattle.diva_isa.specs.declared.end.End.TheVariants.{GoesOn, Halt, Trap}
use Rattle.diva_isa.specs.State.{State, goes_on}
use Rattle.diva_isa.specs.Step.{steps}
use Rattle.diva_isa.specs.declared.record.Record.{Record}
use Rattle.diva_args.specs.declared.job.LanePlace.{LanePlace}
use Rattle.diva_core.specs.Timed.{Timed, Config, new_timed}
use Rattle.diva_core.specs.Cycle.{cycle_of, run_of}
use Rattle.diva_core.specs.History.{Meaning}
use Rattle.diva_core.specs.Headline.{dues}
use Rattle.diva_core.specs.Legs.{Part, handed_in, run_parts}
use Rattle.diva_core.specs.Machine.{IsMachine, IsConfig}
use Rattle.diva_core.proofs.Starting.{new-machine}
use Rattle.diva_core.proofs.Keeping.{stays}
use Rattle.diva_core.proofs.Outcomes.{rises}
use Rattle.diva_core.proofs.Progressing.{run-rises}
use Rattle.diva_hart.proofs.Dues.{dues-add, length-dues}
use Rattle.diva_core.proofs.Ending.{same_end}
use Rattle.diva_outside.specs.Lent.{lent}
use Rattle.diva_outside.specs.Sink.{TakesPast, PutsTo, LentSink, SinkAccount}
use Rattle.diva_outside.specs.declared.sink.SinkFailed.{SinkFailed}
use Rattle.diva_outside.proofs.Sinks.{puts_nothing, puts_past, puts_then}
use Rattle.diva_args.specs.Options.{Setup, DumpRange}
use Rattle.diva_args.specs.declared.job.RunOptions.{RunOptions}
use Rattle.diva_args.specs.declared.job.Job.TheVariants.{Run}
use Rattle.diva_trace.specs.Text.{commits_text, text_of, trace_of}
use Rattle.diva_trace.proofs.Numbered.{commits_text-append, commits_text-none}
use Rattle.diva_cli.specs.declared.loading.Ready.{Ready}
use Rattle.diva_machine.specs.Asked.{asked_over}
use Rattle.diva_cli.specs.Changes.{Change, LanesAsked, asking, change}
use Rattle.diva_cli.specs.Texts.{AsksInRun}
use Rattle.diva_process.specs.declared.status.Status.{Status}
use Rattle.diva_process.specs.declared.status.Status.TheVariants as status
use Rattle.diva_process.specs.Programs.{FileBytes}
use Rattle.diva_cli.specs.Cuts.{BeforeLast}
use Rattle.diva_cli.specs.Driven.{AreHanded}
use Rattle.diva_cli.specs.Runs.{IsRunOfFiles, IsWhole, EndsWith, HasRun, end_status, asked_trace, shown_dump}
use Rattle.diva_cli.specs.Sessions.{start_in}
use Rattle.diva_cli.specs.Tasks.{IsQuiet, IsRun, commits_if}
use Rattle.diva_cli.specs.Ready.{IsOnePart, IsReady, PlaysBy}
use Rattle.diva_cli.specs.Watched.{IsWatched, Seen, commit_lines}
use Rattle.diva_process.specs.Writing.{WritesWhole, WritesPart}
use Rattle.diva_cli.proofs.Seeing.{concat_of, cut_of}
use Rattle.diva_cli.proofs.Sessions.{each_new, handed_new, ran_new, run_from_start}
use Rattle.diva_cli.specs.Program.{work_of}

-- ---- a run over files

module _ {C : Type 0} (gives : Meaning C) (setup : Setup) (cycles : ℕ) (bytes : FileBytes) (ready : Ready) (core : C) (last : Timed) (after : C)
    (fits : IsConfig setup.config) (is : IsReady setup bytes ready) (this : List (List Record) → Type 0)
    (p : PlaysBy gives ready.core ready.script (change ready.machine.timed last) (change core after) (IsOnePart this)) where
  abbrev first : Timed
  first = new_timed setup.config (start_in setup bytes)

  abbrev its_lists : List (List Record)
  its_lists = p.done.lists

  pub run_from_new : last ≡ run_of first its_lists
  run_from_new = ran_new gives setup bytes ready core last after fits is (IsOnePart this) p ∙ ap (run_parts first) p.done.one

  pub run_each : last.cycles ≡ length its_lists
  run_each =
      each_new gives setup bytes ready core last after fits is (IsOnePart this) p
      ∙ ap (λ (parts : List Part). length (handed_in parts)) p.done.one ∙ ap length (append-nil its_lists)

  abbrev pub run_of_files : length its_lists ≤ cycles → IsRunOfFiles gives setup cycles bytes (change core after) last
  run_of_files most =
      record {
        script = ready.script;
        rows = is.rows;
        tape = is.core.tape;
        lists = is.core.lists;
        holds = run_from_start gives setup cycles is.core.tape ready.script (start_in setup bytes) core last after fits refl its_lists run_from_new run_each most
            (subst (AreHanded gives setup.core is.core.tape ready.script (change first last) (change core after)) p.done.one
            (handed_new gives setup bytes ready core last after fits is (IsOnePart this) p));
      }

  pub run_whole : (goes_on last.arch ≡ true → length its_lists ≡ cycles) → IsWhole setup cycles (start_in setup bytes) last
  run_whole all =
      record {
        all = λ on. run_each ∙ all on;
        same = λ n ends long. subst (λ (m : Timed). (m.arch ≡ steps n (start_in setup bytes)) × (m.count ≡ n)) (sym run_from_new)
            (same_end setup.config (start_in setup bytes) its_lists n cycles fits refl (λ on. all (ap (λ (m : Timed). goes_on m.arch) run_from_new ∙ on)) ends long);
      }

-- ---- how it ended

-- what goes on has not ended
unfinished : (none low : Bool) (n code : ℕ) → end_status (cond none GoesOn (cond low (Trap n) (Halt code))) ≡ status.GoesOn → none ≡ true
unfinished true low n code h = refl
unfinished false true n code h = cc
unfinished false false n code h = cc

pub ends_with : (setup : Setup) (cycles : ℕ) (start : State) (last : Timed) (status : Status) → IsWhole setup cycles start last
    → status ≡ end_status (end_of last.arch.end) → EndsWith last cycles status
ends_with setup cycles start last status whole is =
    let end = last.arch.end in
    record { by_end = is; all = λ on. whole.all (unfinished (end == 0) (nat_lt end 256) (end - 1) (end % 2 ^ 8) (sym is ∙ on)) }

-- ---- what is written of it, with commit lines or without

-- the commit lines of cycles one behind the other
trace-cycles : (lists : List (List Record)) (m : Timed) → IsMachine m → commits_if true m lists ≡ commits_text m.count (dues ((run_of m lists).count - m.count) m.arch)
trace-cycles [] m inv =
    let none : m.count - m.count ≡ 0 = omega arith in
    sym (ap (λ k. commits_text m.count (dues k m.arch)) none ∙ commits_text-none m.count)
trace-cycles (list ∷ rest) m inv =
    let n : Timed = cycle_of m list in
    let k : ℕ = n.count - m.count in
    let j : ℕ = (run_of n rest).count - n.count in
    let r = rises m list inv in
    let up = r.counted in
    let later = (run-rises n rest (stays m list inv)).counted in
    let sum : k + j ≡ (run_of n rest).count - m.count = omega arith in
    let at : m.count + length (dues k m.arch) ≡ n.count = (let l = length-dues k m.arch in omega arith) in
    ap (λ (t : List ℕ). commits_text m.count (dues k m.arch) ++ t) (trace-cycles rest n (stays m list inv))
    ∙ sym (ap (λ i. commits_text m.count (dues i m.arch)) (sym sum)
    ∙ ap (commits_text m.count) (dues-add k j m.arch)
    ∙ commits_text-append m.count (dues k m.arch) (dues j (steps k m.arch))
    ∙ ap (λ i. commits_text m.count (dues k m.arch) ++ commits_text i (dues j (steps k m.arch))) at
    ∙ ap (λ (s : State). commits_text m.count (dues k m.arch) ++ commits_text n.count (dues j s)) (sym r.stepped))

-- those of a run from a state
trace-run : (z : Config) (s : State) (lists : List (List Record)) (last : Timed) (trace : Bool) → IsConfig z → s.instret ≡ 0 → last ≡ run_of (new_timed z s) lists → commits_if trace (new_timed z s) lists ≡ asked_trace trace s last.count
trace-run z s lists last false ok none ran = refl
trace-run z s lists last true ok none ran =
    trace-cycles lists (new_timed z s) (new-machine z s ok none)
    ∙ ap (λ k. commits_text 0 (dues k s)) (let e = ap (λ (m : Timed). m.count) ran in omega arith)

-- a machine was driven that nobody watched
pub runs_quiet : {S : Type 0} (cycles : ℕ) (m last : Timed) (lists : List (List Record)) (sink : LentSink S) (result : Result (Unit {0}) SinkFailed)
    → IsQuiet cycles (change m last) lists sink result → IsRun false cycles (change m last) lists sink result
runs_quiet cycles m last lists sink result q =
    rw q.never_fails (record {
      most = q.most;
      whole = q.whole;
      put = subst (λ s. PutsTo {E = SinkFailed} (lent sink.account sink.before s) [] (Ok tt)) (sym q.unput) (puts_nothing sink.account sink.before);
      cut = tt;
    })

-- or its commit lines were written
abbrev lines_of : Seen → List ℕ
lines_of seen = commits_text seen.first seen.committed

on_err : {A E : Type 0} {P Q : Type 0} (r : Result A E) → (P → Q) → OnErr r P → OnErr r Q
on_err (Ok a) f h = tt
on_err (Err e) f h = f h

pub runs_written : {W S : Type 0} (cycles : ℕ) (m last : Timed) (w : Change W) (says : List Record → Type 0) (lists : List (List Record)) (sink : LentSink S) (result : Result (Unit {0}) SinkFailed)
    → IsWatched commit_lines says cycles (change m last) w lists sink result → IsRun true cycles (change m last) lists sink result
runs_written {W} cycles m last w says lists sink result d =
    record {
      most = d.most;
      whole = d.whole;
      put = subst (λ (x : List ℕ). PutsTo sink x result) (concat_of {W = W} commit_lines lines_of (λ before seen after text is. is) w.before w.after m lists d.texts d.are) d.put;
      cut = on_err result (λ b. (refl, cut_of {W = W} commit_lines lines_of (λ before seen after text is. is) w.before w.after m lists d.texts _ d.are b)) d.cut;
    }

-- ---- the text of a run, where its commit lines were all put if they are asked for

pub shown_whole : {C : Type 0} (gives : Meaning C) (options : RunOptions) (bytes : FileBytes) (core after : C) (ended : Result Status (List ℕ)) (text : List ℕ)
    (h : HasRun gives options bytes (change core after) ended text) → (options.trace ≡ true → IsOk ended)
    → IsWhole options.setup options.cycles (start_in options.setup bytes) h.last
    × (text ≡ asked_trace options.trace (start_in options.setup bytes) h.last.count ++ text_of h.last (shown_dump options.dump))
shown_whole gives options bytes core after ended text h asked =
    elim h.written [
      | inl s ↦ (s.whole, s.lines)
      | inr b ↦ absurd (true≢false (sym (subst IsOk b.cut.holds (asked b.traced))))
    ]

module _ {C S : Type 0} (gives : Meaning C) (options : RunOptions) (bytes : FileBytes) (ready : Ready) (core : C) (last : Timed) (after : C)
    (trace : Bool) (cycles : ℕ) (liar : Option LanePlace) (dump : Option DumpRange) (account : S → SinkAccount) (s0 s1 s2 : S) (result : Result (Unit {0}) SinkFailed)
    (t : trace ≡ options.trace) (y : cycles ≡ options.cycles) (v : liar ≡ options.liar) (d : dump ≡ options.dump) (fits : IsConfig options.setup.config)
    (is : IsReady options.setup bytes ready) (lanes : LanesAsked)
    (p : PlaysBy gives ready.core ready.script (change ready.machine.timed last) (change core after)
    (IsOnePart (λ lists. IsRun trace cycles (change ready.machine.timed last) lists (lent account s0 s1) result
    × lanes liar (asked_over ready.machine.timed lists)))) where
  abbrev lists : List (List Record)
  lists = p.done.lists

  abbrev run_text : List ℕ
  run_text = asked_trace options.trace (start_in options.setup bytes) last.count ++ text_of last (shown_dump options.dump)

  abbrev w : IsRun trace cycles (change ready.machine.timed last) lists (lent account s0 s1) result
  w = p.done.done.0

  ran : last ≡ run_of (new_timed options.setup.config (start_in options.setup bytes)) lists
  ran = run_from_new gives options.setup options.cycles bytes ready core last after fits is _ p

  puts_trace : PutsTo (lent account s0 s1) (asked_trace options.trace (start_in options.setup bytes) last.count) result
  puts_trace =
      subst (λ (b : Bool). PutsTo (lent account s0 s1) (asked_trace b (start_in options.setup bytes) last.count) result) t
      (subst (λ (x : List ℕ). PutsTo (lent account s0 s1) x result)
      (ap (λ (m : Timed). commits_if trace m lists) is.begun ∙ trace-run options.setup.config (start_in options.setup bytes) lists last trace fits refl ran) w.put)

  abbrev of_files : IsRunOfFiles gives options.setup options.cycles bytes (change core after) last
  of_files = run_of_files gives options.setup options.cycles bytes ready core last after fits is _ p (let m = w.most in omega arith)

  whole_if : (goes_on last.arch ≡ true → length lists ≡ cycles) → IsWhole options.setup options.cycles (start_in options.setup bytes) last
  whole_if all = run_whole gives options.setup options.cycles bytes ready core last after fits is _ p (λ on. all on ∙ y)

  whole_ok : result ≡ Ok tt → IsWhole options.setup options.cycles (start_in options.setup bytes) last
  whole_ok ok = whole_if (subst (λ (r : Result (Unit {0}) SinkFailed). OnOk r (goes_on last.arch ≡ true → length lists ≡ cycles)) ok w.whole)

  asks : AsksInRun options.setup options.liar bytes lists lanes
  asks =
      subst (λ (m : Timed). lanes options.liar (asked_over m lists)) is.begun
      (subst (λ (l : Option LanePlace). lanes l (asked_over ready.machine.timed lists)) v p.done.done.1)

  both : result ≡ Ok tt → (r : Result (Unit {0}) SinkFailed) → PutsTo (lent account s1 s2) (text_of last (shown_dump dump)) r → PutsTo (lent account s0 s2) run_text r
  both ok r puts =
      puts_then account _ _ s0 s1 s2 r (subst (λ (x : Result (Unit {0}) SinkFailed). PutsTo (lent account s0 s1) (asked_trace options.trace (start_in options.setup bytes) last.count) x) ok puts_trace)
      (subst (λ (x : Option DumpRange). PutsTo (lent account s1 s2) (text_of last (shown_dump x)) r) d puts)

  -- what was put before the text that shows the machine
  past : result ≡ Ok tt → (e : SinkFailed) → PutsTo (lent account s1 s2) (text_of last (shown_dump dump)) (Err e)
      → TakesPast (lent account s0 s2) (asked_trace options.trace (start_in options.setup bytes) last.count) run_text
  past ok e puts =
      puts_past account _ _ s0 s1 s2 e (subst (λ (x : Result (Unit {0}) SinkFailed). PutsTo (lent account s0 s1) (asked_trace options.trace (start_in options.setup bytes) last.count) x) ok puts_trace)
      (subst (λ (x : Option DumpRange). PutsTo (lent account s1 s2) (text_of last (shown_dump x)) (Err e)) d puts)

  pub wrote_run : result ≡ Ok tt → (status : Status) → status ≡ end_status (end_of last.arch.end) → PutsTo {E = SinkFailed} (lent account s1 s2) (text_of last (shown_dump dump)) (Ok tt)
      → WritesWhole (work_of gives (asking core after lanes)) (Run options) bytes (lent account s0 s2) status
  wrote_run ok status says puts =
      record {
        text = run_text;
        means = record {
          means = record {
            last = last;
            of_files = of_files;
            written = inl (record { whole = whole_ok ok; says = ends_with options.setup options.cycles (start_in options.setup bytes) last status (whole_ok ok) says; lines = refl; cut = tt });
          };
          lanes = asks;
        };
        written = (let q = both ok (Ok tt) puts in record { appended = q.ok; uncounted = q.uncounted });
      }

  pub cut_run : result ≡ Ok tt → (e : SinkFailed) → PutsTo (lent account s1 s2) (text_of last (shown_dump dump)) (Err e)
      → WritesPart (work_of gives (asking core after lanes)) (Run options) bytes (lent account s0 s2)
  cut_run ok e puts =
      let q = both ok (Err e) puts in
      record {
        rose = q.failed;
        put = asked_trace options.trace (start_in options.setup bytes) last.count;
        text = run_text;
        means = record { means = record { last = last; of_files = of_files; written = inl (record { whole = whole_ok ok; says = tt; lines = refl; cut = refl }) }; lanes = asks };
        written = past ok e puts;
      }

  abbrev start : Timed
  start = new_timed options.setup.config (start_in options.setup bytes)

  -- where the sink failed among the commit lines
  abbrev CutLines : Timed → Type 0
  CutLines m = (trace ≡ true) × BeforeLast lists (λ earlier. TakesPast (lent account s0 s1) (commits_if true m earlier) (commits_if true m lists))

  cut_lines : (e : SinkFailed) → result ≡ Err e → CutLines start
  cut_lines e err =
      subst CutLines is.begun (subst (λ (r : Result (Unit {0}) SinkFailed). OnErr r (CutLines ready.machine.timed)) err w.cut)

  lines_to : (lists : List (List Record)) (m : Timed) → m ≡ run_of start lists → commits_if true start lists ≡ trace_of (start_in options.setup bytes) m.count
  lines_to lists m ran = trace-run options.setup.config (start_in options.setup bytes) lists m true fits refl ran

  pub cut_trace : (e : SinkFailed) → result ≡ Err e → WritesPart (work_of gives (asking core after lanes)) (Run options) bytes (lent account s0 s1)
  cut_trace e err =
      let q = subst (λ (x : Result (Unit {0}) SinkFailed). PutsTo (lent account s0 s1) (asked_trace options.trace (start_in options.setup bytes) last.count) x) err puts_trace in
      let c = cut_lines e err in
      let b = c.1 in
      let put : List ℕ = trace_of (start_in options.setup bytes) (run_of start b.earlier).count in
      record {
        rose = q.failed;
        put = put;
        text = trace_of (start_in options.setup bytes) last.count;
        means = record {
          means = record {
            last = last;
            of_files = of_files;
            written = inr (record {
              traced = sym t ∙ c.0;
              lines = refl;
              cut = record { earlier = b.earlier; last = b.last; in_order = b.in_order; holds = refl };
            });
          };
          lanes = asks;
        };
        written = subst (λ (x : List ℕ). TakesPast (lent account s0 s1) x (trace_of (start_in options.setup bytes) last.count)) (lines_to b.earlier (run_of start b.earlier) refl)
            (subst (λ (x : List ℕ). TakesPast (lent account s0 s1) (commits_if true start b.earlier) x) (lines_to lists last ran) b.holds);
      }

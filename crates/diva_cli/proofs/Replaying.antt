-- A tape of all that was handed over drives the machine to the same end.
use Rattle.std.proofs.Common.{◌≡◌, ℕ, zero, suc, ◌+◌, ◌≤◌, Bool, true, false, List, [], ◌∷◌, ◌++◌, length, map, Option, Some, Result, Ok, Err, IsOk, OnOk, OnErr, refl, sym, ◌∙◌, ap, append-nil, subst, arith, None}
use Rattle.std.specs.List.{All, concat}
use Rattle.diva_isa.specs.End.{end_of}
use Rattle.diva_isa.specs.State.{State, goes_on}
use Rattle.diva_isa.specs.declared.record.Record.{Record}
use Rattle.diva_core.specs.Timed.{Timed, Config, new_timed}
use Rattle.diva_core.specs.Cycle.{cycle_of, run_of}
use Rattle.diva_core.specs.History.{Meaning}
use Rattle.diva_core.specs.Legs.{Handed}
use Rattle.diva_core.specs.Machine.{IsConfig}
use Rattle.diva_core.proofs.Reaching.{run-off}
use Rattle.diva_faults.specs.declared.rows.Row.{Row}
use Rattle.diva_faults.proofs.Spoiling.{scripted-none}
use Rattle.diva_image.specs.Programs.{image_in}
use Rattle.diva_hart.specs.Start.{start_of}
use Rattle.diva_tape.specs.Tapes.{tape_of}
use Rattle.diva_tape.specs.TapeText.{IsList, list_text, tape_text}
use Rattle.diva_tape.specs.TapeCalls.{next_list, later_lists, played}
use Rattle.diva_tape.proofs.Playing.{played-next}
use Rattle.diva_tape.proofs.ReadingBack.{tape_read_back}
use Rattle.diva_outside.specs.declared.files.What.TheVariants.{Image, Script, Tape as TapeFile}
use Rattle.diva_outside.specs.declared.sink.SinkFailed.{SinkFailed}
use Rattle.diva_args.specs.declared.job.RunOptions.{RunOptions}
use Rattle.diva_args.specs.declared.job.TapeOptions.{TapeOptions}
use Rattle.diva_args.specs.declared.job.CoreChoice.{CoreChoice}
use Rattle.diva_args.specs.declared.job.Job.TheVariants.{Tape}
use Rattle.diva_trace.specs.Text.{text_of}
use Rattle.diva_cli.specs.declared.loading.Ready.{Ready}
use Rattle.diva_cli.specs.Changes.{Change, LanesAsked, asking, change}
use Rattle.diva_outside.specs.Sink.{PutsTo, LentSink, TakesPast}
use Rattle.diva_process.specs.declared.status.Status.{Status}
use Rattle.diva_process.specs.Programs.{FileBytes}
use Rattle.diva_cli.specs.Wanted.{tape_name}
use Rattle.diva_cli.specs.Cuts.{BeforeLast}
use Rattle.diva_cli.specs.Driven.{AreHanded, ByCalls, scripted_lists}
use Rattle.diva_cli.specs.Runs.{IsReadOff, IsRunOfFiles, IsWhole, HasRun, end_status, asked_trace, shown_dump}
use Rattle.diva_cli.specs.Sessions.{AreRows, AreLists, start_in}
use Rattle.diva_cli.specs.TapeTexts.{IsHandedFor, IsReplay}
use Rattle.diva_cli.specs.Ready.{IsOnePart, IsReady, PlaysBy}
use Rattle.diva_cli.specs.Watched.{IsWatched, Seen, Watching, seen_over, tape_lines}
use Rattle.diva_cli.proofs.Seeing.{concat_of, cut_of}
use Rattle.diva_process.specs.Writing.{WritesWhole, WritesPart}
use Rattle.diva_cli.proofs.Running.{ends_with, run_each, run_from_new, run_of_files, run_whole, shown_whole}
use Rattle.diva_cli.proofs.Sessions.{read_off}
use Rattle.diva_cli.specs.Program.{work_of}

-- ---- lists of a tape, and then empty ones

by_end : {P : Type 0} (on : Bool) → (on ≡ true → P) → (on ≡ false → P) → P
by_end true here there = here refl
by_end false here there = there refl

-- two runs from one machine, the one of lists and the other of these lists and then empty ones, each to its end or for the budget's cycles
same_run : (m : Timed) (lists others : List (List Record)) (budget : ℕ)
    → others ≡ played (length others) lists
    → length lists ≤ budget
    → length others ≤ budget
    → (goes_on (run_of m lists).arch ≡ true → length lists ≡ budget)
    → (goes_on (run_of m others).arch ≡ true → length others ≡ budget)
    → run_of m others ≡ run_of m lists
same_run m [] [] budget are few_lists few all_lists all = refl
same_run m [] (other ∷ others) budget are few_lists few all_lists all =
    by_end (goes_on m.arch)
    (λ on. absurd (let e = all_lists on in omega arith))
    (λ off. run-off (other ∷ others) m off)
same_run m (list ∷ lists) [] budget are few_lists few all_lists all =
    by_end (goes_on m.arch)
    (λ on. absurd (let e = all on in omega arith))
    (λ off. sym (run-off (list ∷ lists) m off))
same_run m (list ∷ lists) (other ∷ others) zero are few_lists few all_lists all = absurd (omega arith)
same_run m (list ∷ lists) (other ∷ others) (suc budget) are few_lists few all_lists all =
    let both : other ∷ others ≡ list ∷ played (length others) lists = are ∙ sym (played-next (length others) (list ∷ lists)) in
    let head : other ≡ list = ap next_list both in
    ap (λ (l : List Record). run_of (cycle_of m l) others) head
    ∙ same_run (cycle_of m list) lists others budget (ap later_lists both) (omega arith) (omega arith)
    (λ on. (let e = all_lists on in omega arith))
    (λ on. (let e = all (ap (λ (l : List Record). goes_on (run_of (cycle_of m l) others).arch) head ∙ on) in omega arith))

lists-unscripted : (cycle : ℕ) (lists : List (List Record)) → scripted_lists [] cycle lists ≡ lists
lists-unscripted cycle [] = refl
lists-unscripted cycle (list ∷ lists) =
    ap (λ (l : List Record). l ∷ scripted_lists [] (cycle + 1) lists) (scripted-none cycle list)
    ∙ ap (λ (l : List (List Record)). list ∷ l) (lists-unscripted (cycle + 1) lists)

-- ---- a run by the tape of another run

only_one : {A E : Type 0} (r : Result A E) (x y : A) → r ≡ Ok x → r ≡ Ok y → x ≡ y
only_one r x y a b = cc

module _ (options : TapeOptions) (bytes : FileBytes) (lists : List (List Record)) (last : Timed)
    (ran : last ≡ run_of (new_timed options.setup.config (start_in options.setup bytes)) lists)
    (each : last.cycles ≡ length lists)
    (most : length lists ≤ options.cycles)
    (whole : IsWhole options.setup options.cycles (start_in options.setup bytes) last) where
  abbrev first : Timed
  first = new_timed options.setup.config (start_in options.setup bytes)

  pub same_machine : (others : List (List Record)) → others ≡ played (length others) lists → IsHandedFor options.cycles first others → run_of first others ≡ last
  same_machine others are handed =
      same_run first lists others options.cycles are most handed.most
      (λ on. (let e = whole.all (ap (λ (m : Timed). goes_on m.arch) ran ∙ on) in let f = each in omega arith))
      handed.whole
      ∙ sym ran

  module _ {C : Type 0} (gives : Meaning C) (text : List ℕ) (reads : tape_of text ≡ Ok lists)
      (replay : RunOptions) (its_bytes : FileBytes) (is : IsReplay options bytes text replay its_bytes)
      (core after : C) (ended : Result Status (List ℕ)) (shown : List ℕ) (run : HasRun gives replay its_bytes (change core after) ended shown)
      (asked : replay.trace ≡ true → IsOk ended) where
    abbrev whole_run : IsWhole replay.setup replay.cycles (start_in replay.setup its_bytes) run.last
        × (shown ≡ asked_trace replay.trace (start_in replay.setup its_bytes) run.last.count ++ text_of run.last (shown_dump replay.dump))
    whole_run = shown_whole gives replay its_bytes core after ended shown run asked

    none : run.of_files.script ≡ []
    none = subst (λ (name : Option (List ℕ)). AreRows name (its_bytes Script) run.of_files.script) is.script run.of_files.rows

    of_tape : AreLists (Some is.name) (its_bytes TapeFile) run.of_files.tape
    of_tape = subst (λ (c : CoreChoice). AreLists (tape_name c) (its_bytes TapeFile) run.of_files.tape) is.core run.of_files.lists

    same_lists : run.of_files.tape ≡ lists
    same_lists = only_one (tape_of text) run.of_files.tape lists (ap tape_of (sym is.tape) ∙ of_tape) reads

    same_start : start_in replay.setup its_bytes ≡ start_in options.setup bytes
    same_start =
        ap (λ (b : List ℕ). start_of (image_in replay.setup.room b)) is.image
        ∙ ap (λ (r : ℕ). start_of (image_in r (bytes Image))) is.room

    same_first : new_timed replay.setup.config (start_in replay.setup its_bytes) ≡ first
    same_first = ap (λ (z : Config). new_timed z (start_in replay.setup its_bytes)) is.config ∙ ap (new_timed options.setup.config) same_start

    abbrev others : List (List Record)
    others = run.of_files.holds.lists

    abbrev begun : Timed
    begun = new_timed replay.setup.config (start_in replay.setup its_bytes)

    off : IsReadOff replay.cycles begun others run.last
    off = read_off gives replay.setup replay.cycles run.of_files.tape run.of_files.script (start_in replay.setup its_bytes) (change core after) run.last run.of_files.holds

    ran_others : run.last ≡ run_of first others
    ran_others = off.ran ∙ ap (λ (m : Timed). run_of m others) same_first

    by_tape : ByCalls played run.of_files.tape run.of_files.script begun (change core after) (Handed others ∷ [])
    by_tape =
        subst (λ (c : CoreChoice). AreHanded gives c run.of_files.tape run.of_files.script (change begun run.last) (change core after) (Handed others ∷ [])) is.core
        (subst (AreHanded gives replay.setup.core run.of_files.tape run.of_files.script (change begun run.last) (change core after)) run.of_files.holds.one run.of_files.holds.session.driven.handed)

    are_played : others ≡ played (length others) lists
    are_played =
        subst (λ (l : List (List Record)). l ≡ scripted_lists run.of_files.script (begun.cycles + 1) (played (length l) run.of_files.tape)) (append-nil others) by_tape.in_order
        ∙ ap (λ (rows : List Row). scripted_lists rows (begun.cycles + 1) (played (length others) run.of_files.tape)) none
        ∙ lists-unscripted (begun.cycles + 1) (played (length others) run.of_files.tape)
        ∙ ap (played (length others)) same_lists

    handed : IsHandedFor options.cycles first others
    handed =
        record {
          most = (let m = off.most in let g = is.cycles in omega arith);
          whole = λ on. (let e = whole_run.0.all (ap (λ (m : Timed). goes_on m.arch) ran_others ∙ on) in let f = off.each in let g = is.cycles in omega arith);
        }

    pub same_text : shown ≡ asked_trace replay.trace (start_in options.setup bytes) last.count ++ text_of last (shown_dump replay.dump)
    same_text =
        whole_run.1
        ∙ ap (λ (s : State). asked_trace replay.trace s run.last.count ++ text_of run.last (shown_dump replay.dump)) same_start
        ∙ ap (λ (m : Timed). asked_trace replay.trace (start_in options.setup bytes) m.count ++ text_of m (shown_dump replay.dump))
        (ran_others ∙ same_machine others are_played handed)

-- ---- what is written of a run by `tape`

abbrev line_of : Seen → List ℕ
line_of seen = list_text seen.list

lines_are : (m : Timed) (lists : List (List Record)) → concat (map line_of (seen_over m lists)) ≡ tape_text lists
lines_are m [] = refl
lines_are m (list ∷ lists) = ap (λ (t : List ℕ). list_text list ++ t) (lines_are (cycle_of m list) lists)

module _ {W S : Type 0} (w : Change W) (says : List Record → Type 0) (cycles : ℕ) (m last : Timed) (lists : List (List Record)) (sink : LentSink S) (result : Result (Unit {0}) SinkFailed)
    (d : IsWatched tape_lines says cycles (change m last) w lists sink result) where
  abbrev lines : Watching W
  lines = tape_lines

  lines_put : PutsTo sink (tape_text lists) result
  lines_put = subst (λ (x : List ℕ). PutsTo sink x result) (concat_of lines line_of (λ before seen after text is. is) w.before w.after m lists d.texts d.are ∙ lines_are m lists) d.put

  lines_cut : (e : SinkFailed) → result ≡ Err e → BeforeLast lists (λ earlier. TakesPast sink (tape_text earlier) (tape_text lists))
  lines_cut e err =
      let c : BeforeLast d.texts (λ earlier. TakesPast sink (concat earlier) (concat d.texts)) = subst (λ (r : Result (Unit {0}) SinkFailed). OnErr r (BeforeLast d.texts (λ earlier. TakesPast sink (concat earlier) (concat d.texts)))) err d.cut in
      let b = cut_of lines line_of (λ before seen after text is. is) w.before w.after m lists d.texts _ d.are c in
      record {
        earlier = b.earlier;
        last = b.last;
        in_order = b.in_order;
        holds = subst (λ (x : List ℕ). TakesPast sink x (tape_text lists)) (lines_are m b.earlier)
            (subst (λ (x : List ℕ). TakesPast sink (concat (map line_of (seen_over m b.earlier))) x) (lines_are m lists) b.holds);
      }

module _ {C W S : Type 0} (gives : Meaning C) (options : TapeOptions) (bytes : FileBytes) (ready : Ready) (core : C) (last : Timed) (after : C)
    (w : Change W) (cycles : ℕ) (sink : LentSink S) (result : Result (Unit {0}) SinkFailed)
    (y : cycles ≡ options.cycles) (fits : IsConfig options.setup.config)
    (is : IsReady options.setup bytes ready) (lanes : LanesAsked) (unasked : lanes None []) (that : List (List Record) → Type 0)
    (p : PlaysBy gives ready.core ready.script (change ready.machine.timed last) (change core after)
    (IsOnePart (λ lists. IsWatched tape_lines IsList cycles (change ready.machine.timed last) w lists sink result × that lists))) where
  abbrev lists : List (List Record)
  lists = p.done.lists

  abbrev done : IsWatched tape_lines IsList cycles (change ready.machine.timed last) w lists sink result
  done = p.done.done.0

  few : length lists ≤ options.cycles
  few = let m = done.most in omega arith

  abbrev of_files : IsRunOfFiles gives options.setup options.cycles bytes (change core after) last
  of_files = run_of_files gives options.setup options.cycles bytes ready core last after fits is _ p few

  puts : PutsTo sink (tape_text lists) result
  puts = lines_put w IsList cycles ready.machine.timed last lists sink result done

  pub wrote_tape : (status : Status) → status ≡ end_status (end_of last.arch.end) → result ≡ Ok tt → WritesWhole (work_of gives (asking core after lanes)) (Tape options) bytes sink status
  wrote_tape status says ok =
      let all : goes_on last.arch ≡ true → length lists ≡ cycles = subst (λ (r : Result (Unit {0}) SinkFailed). OnOk r (goes_on last.arch ≡ true → length lists ≡ cycles)) ok done.whole in
      let are : All IsList lists = subst (λ (r : Result (Unit {0}) SinkFailed). OnOk r (All IsList lists)) ok done.said in
      let whole = run_whole gives options.setup options.cycles bytes ready core last after fits is _ p (λ on. all on ∙ y) in
      let reads = tape_read_back lists are in
      let ran_new : last ≡ run_of (new_timed options.setup.config (start_in options.setup bytes)) lists = run_from_new gives options.setup options.cycles bytes ready core last after fits is _ p in
      let each : last.cycles ≡ length lists = run_each gives options.setup options.cycles bytes ready core last after fits is _ p in
      record {
        text = tape_text lists;
        means = record {
          means = record {
            last = last;
            of_files = of_files;
            lines = refl;
            whole = record {
              whole = whole;
              ended = ends_with options.setup options.cycles (start_in options.setup bytes) last status whole says;
              reads = reads;
              again = same_machine options bytes lists last ran_new each few whole;
              replays = λ replay its_bytes r core' after' status' shown run asked.
                  same_text options bytes lists last ran_new each few whole gives (tape_text lists) reads replay its_bytes r core' after' status' shown run asked;
            };
            cut = tt;
          };
          lanes = unasked;
        };
        written = (let q = subst (λ (r : Result (Unit {0}) SinkFailed). PutsTo sink (tape_text lists) r) ok puts in record { appended = q.ok; uncounted = q.uncounted });
      }

  pub cut_tape : (e : SinkFailed) → result ≡ Err e → WritesPart (work_of gives (asking core after lanes)) (Tape options) bytes sink
  cut_tape e err =
      let q = subst (λ (r : Result (Unit {0}) SinkFailed). PutsTo sink (tape_text lists) r) err puts in
      let b = lines_cut w IsList cycles ready.machine.timed last lists sink result done e err in
      record {
        rose = q.failed;
        put = tape_text b.earlier;
        text = tape_text lists;
        means = record {
          means = record {
            last = last;
            of_files = of_files;
            lines = refl;
            whole = tt;
            cut = record { earlier = b.earlier; last = b.last; in_order = b.in_order; holds = refl };
          };
          lanes = unasked;
        };
        written = b.holds;
      }

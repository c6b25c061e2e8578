-- What is written of a run that is drawn.
use Rattle.diva_cli.specs.Texts.{AsksInRun}
use Rattle.diva_machine.specs.Asked.{asked_over}
use Rattle.std.proofs.Common.{◌≡◌, ◌⊎◌, ℕ, List, [], ◌∷◌, ◌++◌, length, Option, Some, None, Result, Ok, Err, OnOk, OnErr, true, refl, inl, inr, ap, sym, ◌∙◌, append_assoc, append-nil, arith, subst}
use Rattle.std.specs.List.{concat}
use Rattle.diva_isa.specs.End.{end_of}
use Rattle.diva_isa.specs.State.{State, goes_on}
use Rattle.diva_isa.specs.declared.record.Record.{Record}
use Rattle.diva_core.specs.Timed.{Timed, new_timed}
use Rattle.diva_core.specs.Cycle.{cycle_of}
use Rattle.diva_core.specs.History.{Meaning}
use Rattle.diva_core.specs.Machine.{IsConfig}
use Rattle.std.specs.Io.KnownBytes.{Appends}
use Rattle.diva_outside.specs.Lent.{lent}
use Rattle.diva_outside.specs.Sink.{TakesPast, PutsTo, SinkAccount}
use Rattle.diva_outside.specs.declared.sink.SinkFailed.{SinkFailed}
use Rattle.diva_outside.proofs.Sinks.{past_nothing, puts_past, puts_then}
use Rattle.diva_lab_args.specs.declared.draw.DrawOptions.{DrawOptions}
use Rattle.diva_lab_args.specs.declared.draw.Format.{Format}
use Rattle.diva_args.specs.declared.job.LanePlace.{LanePlace}
use Rattle.diva_lab_args.specs.declared.lab.LabJob.TheVariants.{Draw}
use Rattle.diva_drawing.specs.Rows.{Pen}
use Rattle.diva_drawing.specs.Snapshot.{AreSnapshots, IsSnapshot, Snapshot}
use Rattle.diva_workbench.specs.declared.drawing.Drawer.{Drawer}
use Rattle.diva_cli.specs.declared.loading.Ready.{Ready}
use Rattle.diva_cli.specs.Changes.{LanesAsked, asking, change}
use Rattle.diva_cli.specs.Cuts.{BeforeLast}
use Rattle.diva_workbench.specs.Lab.{lab_work_of, no_source}
use Rattle.diva_workbench.specs.DrawTexts.{HasDrawing, IsDrawnPart, IsDrawnWhole, begin_text, cycle_text, cycles_drawn, drawn_text, end_text, front_text, pen_after, pen_at, pen_behind}
use Rattle.diva_cli.specs.Ready.{IsReady}
use Rattle.diva_process.specs.declared.status.Status.{Status}
use Rattle.diva_process.specs.Writing.{WritesPart, WritesWhole}
use Rattle.diva_cli.specs.Runs.{IsRunOfFiles, IsWhole, end_status}
use Rattle.diva_cli.specs.Sessions.{start_in}
use Rattle.diva_cli.specs.Ready.{IsOnePart, PlaysBy}
use Rattle.diva_workbench.specs.Draws.{Draws}
use Rattle.diva_process.specs.Programs.{FileBytes}
use Rattle.diva_cli.specs.Watched.{AreTexts, IsWatched, seen_over}
use Rattle.std.specs.Prelude.{⊤}
use Rattle.diva_cli.proofs.Handing.{unplayed}
use Rattle.diva_cli.proofs.Running.{ends_with, run_of_files, run_whole}

-- ---- what was seen in some turns, and drawn

-- these are the snapshots, the pen is the one behind them, and the text is that of the turns
pub record AreDrawn (w : Drawer) (m : Timed) (lists : List (List Record)) (after : Drawer) (texts : List (List ℕ)) : Type 0 where
  pub seen : List Snapshot
  pub are : AreSnapshots m lists seen
  pub behind : after.pen ≡ pen_behind w.pen seen
  pub format : after.format ≡ w.format
  pub drawn : concat texts ≡ cycles_drawn w.format w.pen lists seen

-- one turn before some
module _ (w between after : Drawer) (m : Timed) (list : List Record) (lists : List (List Record)) (text : List ℕ) (texts : List (List ℕ))
    (here : IsSnapshot (cycle_of m list) between.pen.seen) (pen : between.pen ≡ pen_after w.pen between.pen.seen) (format : between.format ≡ w.format)
    (drawn : text ≡ cycle_text w.format w.pen between.pen.seen list) where
  -- what is drawn behind it, told from the pen before it
  next_drawn : (some : List (List Record)) (seen : List Snapshot) (t : List ℕ) → t ≡ cycles_drawn between.format between.pen some seen
      → text ++ t ≡ cycles_drawn w.format w.pen (list ∷ some) (between.pen.seen ∷ seen)
  next_drawn some seen t is =
      ap (λ (x : List ℕ). x ++ t) drawn
      ∙ ap (λ (x : List ℕ). cycle_text w.format w.pen between.pen.seen list ++ x)
      (is ∙ ap (λ (f : Format). cycles_drawn f between.pen some seen) format ∙ ap (λ (p : Pen). cycles_drawn w.format p some seen) pen)

  drawn_before : AreDrawn between (cycle_of m list) lists after texts → AreDrawn w m (list ∷ lists) after (text ∷ texts)
  drawn_before d =
      record {
        seen = between.pen.seen ∷ d.seen;
        are = (here, d.are);
        behind = d.behind ∙ ap (λ (p : Pen). pen_behind p d.seen) pen;
        format = d.format ∙ format;
        drawn = next_drawn lists d.seen (concat texts) d.drawn;
      }

pub are_drawn : (w : Drawer) (m : Timed) (lists : List (List Record)) (after : Drawer) (texts : List (List ℕ))
    → AreTexts Draws w (seen_over m lists) after texts → AreDrawn w m lists after texts
are_drawn w m [] after [] are = record { seen = []; are = tt; behind = ap (λ (d : Drawer). d.pen) are; format = ap (λ (d : Drawer). d.format) are; drawn = refl }
are_drawn w m [] after (t ∷ texts) are = absurd are
are_drawn w m (list ∷ lists) after [] are = absurd are
are_drawn w m (list ∷ lists) after (t ∷ texts) are =
    let d = are.1.0 in
    drawn_before w are.0 after m list lists t texts d.saw d.pen d.format d.drawn (are_drawn are.0 (cycle_of m list) lists after texts are.1.1)

-- the same, with the turns before the last
pub record FrontDrawn (w : Drawer) (m : Timed) (lists : List (List Record)) (after : Drawer) (earlier : List (List ℕ)) (text : List ℕ) : Type 0 where
  pub all : AreDrawn w m lists after (earlier ++ text ∷ [])
  pub front : List (List Record)
  pub last : List Record
  pub in_order : lists ≡ front ++ last ∷ []
  pub drawn : concat earlier ≡ cycles_drawn w.format w.pen front all.seen

-- one turn before some, of which the last is known
abbrev front_before : (w between after : Drawer) (m : Timed) (list : List Record) (lists : List (List Record)) (t : List ℕ) (earlier : List (List ℕ)) (text : List ℕ)
    → IsSnapshot (cycle_of m list) between.pen.seen → between.pen ≡ pen_after w.pen between.pen.seen → between.format ≡ w.format
    → t ≡ cycle_text w.format w.pen between.pen.seen list
    → FrontDrawn between (cycle_of m list) lists after earlier text → FrontDrawn w m (list ∷ lists) after (t ∷ earlier) text
front_before w between after m list lists t earlier text here pen format drawn f =
    record {
      all = record {
        seen = between.pen.seen ∷ f.all.seen;
        are = (here, f.all.are);
        behind = f.all.behind ∙ ap (λ (p : Pen). pen_behind p f.all.seen) pen;
        format = f.all.format ∙ format;
        drawn = next_drawn w between after m list lists t [] here pen format drawn lists f.all.seen (concat (earlier ++ text ∷ [])) f.all.drawn;
      };
      front = list ∷ f.front;
      last = f.last;
      in_order = ap (λ (ls : List (List Record)). list ∷ ls) f.in_order;
      drawn = next_drawn w between after m list lists t [] here pen format drawn f.front f.all.seen (concat earlier) f.drawn;
    }

pub front_drawn : (w : Drawer) (m : Timed) (lists : List (List Record)) (after : Drawer) (earlier : List (List ℕ)) (text : List ℕ)
    → AreTexts Draws w (seen_over m lists) after (earlier ++ text ∷ []) → FrontDrawn w m lists after earlier text
front_drawn w m [] after [] text are = absurd are
front_drawn w m [] after (t ∷ earlier) text are = absurd are
front_drawn w m (list ∷ lists) after [] text are = only lists are.1.1
  where
    only : (rest : List (List Record)) → AreTexts Draws are.0 (seen_over (cycle_of m list) rest) after [] → FrontDrawn w m (list ∷ rest) after [] text
    only [] a =
        let d = are.1.0 in
        record {
          all = drawn_before w are.0 after m list [] text [] d.saw d.pen d.format d.drawn (are_drawn are.0 (cycle_of m list) [] after [] a);
          front = [];
          last = list;
          in_order = refl;
          drawn = refl;
        }
    only (next ∷ rest) a = absurd a
front_drawn w m (list ∷ lists) after (t ∷ earlier) text are =
    let d = are.1.0 in
    let f = front_drawn are.0 (cycle_of m list) lists after earlier text are.1.1 in
    front_before w are.0 after m list lists t earlier text d.saw d.pen d.format d.drawn f

-- ---- the whole of what is drawn

appends_then : (old mid new : Option (List ℕ)) (a b : List ℕ) → Appends old mid a → Appends mid new b → Appends old new (a ++ b)
appends_then None mid new a b first second = tt
appends_then (Some x) None new a b first second = absurd first
appends_then (Some x) (Some y) None a b first second = absurd second
appends_then (Some x) (Some y) (Some z) a b first second = second ∙ ap (λ (l : List ℕ). l ++ b) first ∙ append_assoc x a b

-- a piece was put, and then a part of a text that begins with what was put already
past_more : {S : Type 0} (account : S → SinkAccount) (a put text : List ℕ) (old mid new : S) → Appends (account old).contents (account mid).contents a
    → TakesPast (lent account mid new) put text → TakesPast (lent account old new) (a ++ put) (a ++ text)
past_more account a put text old mid new first p =
    record {
      front = p.front;
      rest = p.rest;
      whole = ap (λ (l : List ℕ). a ++ l) p.whole ∙ sym (append_assoc a (put ++ p.front) p.rest) ∙ ap (λ (l : List ℕ). l ++ p.rest) (sym (append_assoc a put p.front));
      appended = subst (λ (l : List ℕ). Appends (account old).contents (account new).contents l) (sym (append_assoc a put p.front)) (appends_then (account old).contents (account mid).contents (account new).contents a (put ++ p.front) first p.appended);
    }

-- a pen with which no row has begun
pub new_pen : (pen : Pen) → pen.rows ≡ 0 → pen ≡ pen_at pen.seen
new_pen pen none = ap (λ n. record { rows = n; seen = pen.seen }) none

-- ---- what is written of a run that is drawn

module _ {C S : Type 0} (gives : Meaning C) (options : DrawOptions) (bytes : FileBytes) (ready : Ready) (core : C) (last : Timed) (after : C)
    (drawer drawn : Drawer) (cycles : ℕ) (liar : Option LanePlace) (account : S → SinkAccount) (s0 s1 s2 : S) (result : Result (Unit {0}) SinkFailed)
    (f : drawer.format ≡ options.format) (none : drawer.pen.rows ≡ 0) (saw : IsSnapshot ready.machine.timed drawer.pen.seen)
    (y : cycles ≡ options.run.cycles) (v : liar ≡ options.run.liar) (fits : IsConfig options.run.setup.config)
    (is : IsReady options.run.setup bytes ready) (lanes : LanesAsked)
    (p : PlaysBy gives ready.core ready.script (change ready.machine.timed last) (change core after)
    (IsOnePart (λ lists. IsWatched Draws (λ list. ⊤) cycles (change ready.machine.timed last) (change drawer drawn) lists (lent account s1 s2) result
    × lanes liar (asked_over ready.machine.timed lists))))
    (first_put : PutsTo {E = SinkFailed} (lent account s0 s1) (begin_text drawer.format) (Ok tt)) where
  abbrev lists : List (List Record)
  lists = p.done.lists

  abbrev d : IsWatched Draws (λ list. ⊤) cycles (change ready.machine.timed last) (change drawer drawn) lists (lent account s1 s2) result
  d = p.done.done.0

  abbrev start : State
  start = start_in options.run.setup bytes

  abbrev new : Timed
  new = new_timed options.run.setup.config start

  abbrev first : Snapshot
  first = drawer.pen.seen

  abbrev of_files : IsRunOfFiles gives options.run.setup options.run.cycles bytes (change core after) last
  of_files = run_of_files gives options.run.setup options.run.cycles bytes ready core last after fits is _ p (let m = d.most in omega arith)

  asks : AsksInRun options.run.setup options.run.liar bytes lists lanes
  asks =
      subst (λ (m : Timed). lanes options.run.liar (asked_over m lists)) is.begun
      (subst (λ (l : Option LanePlace). lanes l (asked_over ready.machine.timed lists)) v p.done.done.1)

  begun : PutsTo {E = SinkFailed} (lent account s0 s1) (begin_text options.format) (Ok tt)
  begun = subst (λ (x : Format). PutsTo {E = SinkFailed} (lent account s0 s1) (begin_text x) (Ok tt)) f first_put

  saw_new : IsSnapshot new first
  saw_new = subst (λ (m : Timed). IsSnapshot m first) is.begun saw

  whole_if : OnOk result (goes_on last.arch ≡ true → length lists ≡ cycles) → result ≡ Ok tt → IsWhole options.run.setup options.run.cycles start last
  whole_if all ok =
      run_whole gives options.run.setup options.run.cycles bytes ready core last after fits is _ p
      (λ on. subst (λ (r : Result (Unit {0}) SinkFailed). OnOk r (goes_on last.arch ≡ true → length lists ≡ cycles)) ok all on ∙ y)

  -- what the pen draws is told from the options
  drawn_by : (some : List (List Record)) (seen : List Snapshot) → cycles_drawn drawer.format drawer.pen some seen ≡ cycles_drawn options.format (pen_at first) some seen
  drawn_by some seen = ap (λ (x : Format). cycles_drawn x drawer.pen some seen) f ∙ ap (λ (q : Pen). cycles_drawn options.format q some seen) (new_pen drawer.pen none)

  means : (seen : List Snapshot) → AreSnapshots ready.machine.timed lists seen → (ended : Result Status (List ℕ)) (text : List ℕ)
      → IsDrawnWhole options start last first lists seen ended text ⊎ IsDrawnPart options first lists seen ended text
      → HasDrawing gives options bytes (change core after) ended text
  means seen are ended text written =
      record { last = last; of_files = of_files; first = first; saw = saw_new; seen = seen; are = subst (λ (m : Timed). AreSnapshots m lists seen) is.begun are; written = written }

  -- a turn was not drawn whole
  pub cut_turns : (e : SinkFailed) → result ≡ Err e → WritesPart (lab_work_of gives (asking core after lanes) no_source) (Draw options) bytes (lent account s0 s2)
  unfolding means
  cut_turns e err =
      let q : PutsTo (lent account s0 s2) (begin_text options.format ++ concat d.texts) (Err e) =
      puts_then _ _ _ _ _ _ _ begun (subst (λ (r : Result (Unit {0}) SinkFailed). PutsTo (lent account s1 s2) (concat d.texts) r) err d.put) in
      let b : BeforeLast d.texts (λ earlier. TakesPast (lent account s1 s2) (concat earlier) (concat d.texts)) =
      subst (λ (r : Result (Unit {0}) SinkFailed). OnErr r (BeforeLast d.texts (λ earlier. TakesPast (lent account s1 s2) (concat earlier) (concat d.texts)))) err d.cut in
      let w = front_drawn drawer ready.machine.timed lists drawn b.earlier b.last (subst (AreTexts Draws drawer (seen_over ready.machine.timed lists) drawn) b.in_order d.are) in
      let seen : List Snapshot = w.all.seen in
      let all : concat d.texts ≡ cycles_drawn options.format (pen_at first) lists seen = ap concat b.in_order ∙ w.all.drawn ∙ drawn_by lists seen in
      let part : concat b.earlier ≡ cycles_drawn options.format (pen_at first) w.front seen = w.drawn ∙ drawn_by w.front seen in
      record {
        rose = q.failed;
        put = front_text options.format first w.front seen;
        text = front_text options.format first lists seen;
        means = (
          record {
            means = means seen w.all.are (Err (front_text options.format first w.front seen)) (front_text options.format first lists seen)
                (inr (record { lines = refl; cut = inr (record { earlier = w.front; last = w.last; in_order = w.in_order; holds = refl }) }));
            lanes = asks;
          },
          refl,
        );
        written = past_more account (begin_text options.format) _ _ s0 s1 s2 begun.ok
            (subst (λ (x : List ℕ). TakesPast (lent account s1 s2) x (cycles_drawn options.format (pen_at first) lists seen)) part
            (subst (λ (x : List ℕ). TakesPast (lent account s1 s2) (concat b.earlier) x) all b.holds));
      }

  -- all turns were drawn, and what stands after them was put, or a part of it
  module _ (s3 : S) (ok : result ≡ Ok tt) (r : Result (Unit {0}) SinkFailed) (end : PutsTo (lent account s2 s3) (end_text drawn.format drawn.pen.seen) r) where
    w : AreDrawn drawer ready.machine.timed lists drawn d.texts
    w = are_drawn drawer ready.machine.timed lists drawn d.texts d.are

    abbrev front : List ℕ
    front = front_text options.format first lists w.seen

    abbrev whole_text : List ℕ
    whole_text = drawn_text options.format first lists w.seen

    put_front : PutsTo {E = SinkFailed} (lent account s0 s2) front (Ok tt)
    put_front =
        puts_then _ _ _ _ _ _ _ begun
        (subst (λ (x : List ℕ). PutsTo {E = SinkFailed} (lent account s1 s2) x (Ok tt)) (w.drawn ∙ drawn_by lists w.seen)
        (subst (λ (x : Result (Unit {0}) SinkFailed). PutsTo (lent account s1 s2) (concat d.texts) x) ok d.put))

    put_end : PutsTo (lent account s2 s3) (end_text options.format (pen_behind (pen_at first) w.seen).seen) r
    put_end =
        subst (λ (x : List ℕ). PutsTo (lent account s2 s3) x r)
        (ap (λ (x : Format). end_text x drawn.pen.seen) (w.format ∙ f)
        ∙ ap (λ (q : Pen). end_text options.format q.seen) (w.behind ∙ ap (λ (q : Pen). pen_behind q w.seen) (new_pen drawer.pen none))) end

    pub wrote_drawing : r ≡ Ok tt → (status : Status) → status ≡ end_status (end_of last.arch.end)
        → WritesWhole (lab_work_of gives (asking core after lanes) no_source) (Draw options) bytes (lent account s0 s3) status
    unfolding means
    wrote_drawing fine status says =
        let whole = whole_if d.whole ok in
        let q = puts_then _ _ _ _ _ _ _ put_front (subst (λ (x : Result (Unit {0}) SinkFailed). PutsTo (lent account s2 s3) (end_text options.format (pen_behind (pen_at first) w.seen).seen) x) fine put_end) in
        record {
          text = whole_text;
          means = (record { means = means w.seen w.are (Ok status) whole_text (inl (record { whole = whole; says = ends_with options.run.setup options.run.cycles start last status whole says; lines = refl; cut = tt })); lanes = asks }, refl);
          written = record { appended = q.ok; uncounted = q.uncounted };
        }

    pub cut_end : (e : SinkFailed) → r ≡ Err e → WritesPart (lab_work_of gives (asking core after lanes) no_source) (Draw options) bytes (lent account s0 s3)
    unfolding means
    cut_end e err =
        let last_part = subst (λ (x : Result (Unit {0}) SinkFailed). PutsTo (lent account s2 s3) (end_text options.format (pen_behind (pen_at first) w.seen).seen) x) err put_end in
        record {
          rose = (puts_then _ _ _ _ _ _ _ put_front last_part).failed;
          put = front;
          text = whole_text;
          means = (record { means = means w.seen w.are (Err front) whole_text (inl (record { whole = whole_if d.whole ok; says = tt; lines = refl; cut = refl })); lanes = asks }, refl);
          written = puts_past _ _ _ _ _ _ e put_front last_part;
        }

-- what stands before the turns was not put, and none was taken
pub cut_begin :
    {C S : Type 0} (gives : Meaning C) (options : DrawOptions) (bytes : FileBytes) (ready : Ready) (core : C) (account : S → SinkAccount) (s0 s1 : S)
    (first : Snapshot) (saw : IsSnapshot ready.machine.timed first) (fits : IsConfig options.run.setup.config) (is : IsReady options.run.setup bytes ready) (lanes : LanesAsked)
    (unasked : lanes options.run.liar []) (format : Format) (f : format ≡ options.format) (e : SinkFailed)
    → PutsTo (lent account s0 s1) (begin_text format) (Err e)
    → WritesPart (lab_work_of gives (asking core core lanes) no_source) (Draw options) bytes (lent account s0 s1)
cut_begin gives options bytes ready core account s0 s1 first saw fits is lanes unasked format f e first_put =
    let put : PutsTo (lent account s0 s1) (begin_text options.format) (Err e) = subst (λ (x : Format). PutsTo (lent account s0 s1) (begin_text x) (Err e)) f first_put in
    let p : PlaysBy gives ready.core ready.script (change ready.machine.timed ready.machine.timed) (change core core) (IsOnePart (λ lists. lists ≡ [])) = unplayed gives ready.core ready.script ready.machine.timed core (λ lists. lists ≡ []) refl in
    let no_lists : p.done.lists ≡ [] = p.done.done in
    record {
      rose = put.failed;
      put = [];
      text = begin_text options.format;
      means = (
        record {
          means = record {
            last = ready.machine.timed;
            of_files = run_of_files gives options.run.setup options.run.cycles bytes ready core ready.machine.timed core fits is _ p (rw no_lists (omega arith));
            first = first;
            saw = subst (λ (m : Timed). IsSnapshot m first) is.begun saw;
            seen = [];
            are = rw no_lists tt;
            written = inr (record { lines = rw no_lists (sym (append-nil (begin_text options.format))); cut = inl (no_lists, refl) });
          };
          lanes = rw no_lists unasked;
        },
        refl,
      );
      written = past_nothing _ _ put.part;
    }

-- Turns that a watcher sees, one by one.
use Rattle.diva_cli.proofs.Polling.{asked_over-more}
use Rattle.diva_machine.specs.Asked.{asked_of, asked_over}
use Rattle.diva_vote.specs.Questions.{Question}
use Rattle.std.proofs.Common.{◌≡◌, ◌≤◌, ℕ, ◌+◌, ◌-◌, ◌*◌, ◌^◌, List, [], ◌∷◌, ◌++◌, length, map, Result, Ok, Err, OnOk, OnErr, true, false, refl, ap, sym, ◌∙◌, append-nil, arith, subst}
use Rattle.std.proofs.lemmas.Bool.{true≢false}
use Rattle.std.proofs.lemmas.List.Elements.{All-nil, All-push}
use Rattle.std.proofs.lemmas.List.Folds.{concat-append}
use Rattle.std.proofs.Math.Nat.{mul-le-mul_right}
use Rattle.std.specs.List.{All, concat}
use Rattle.diva_isa.specs.State.{goes_on}
use Rattle.diva_isa.specs.declared.record.Record.{Record}
use Rattle.diva_core.specs.Timed.{Timed}
use Rattle.diva_core.specs.Cycle.{cycle_of, run_of}
use Rattle.diva_core.specs.History.{Meaning, Turns, lists_of}
use Rattle.diva_core.specs.Machine.{IsMachine}
use Rattle.diva_core.specs.Headline.{dues, last_committed}
use Rattle.diva_core.proofs.Outcomes.{cycle-cycles}
use Rattle.diva_core.proofs.Pacing.{turns-stay}
use Rattle.diva_core.proofs.Turning.{IsHistory-run, length-lists_of}
use Rattle.diva_hart.proofs.Dues.{length-dues}
use Rattle.diva_machine.specs.Cycles.{IsTurn}
use Rattle.diva_machine.specs.Machine.{Machine}
use Rattle.diva_machine.proofs.Driving.{drives, last-more, turns_more}
use Rattle.diva_outside.specs.Lent.{lent}
use Rattle.diva_outside.specs.Sink.{TakesPast, PutsTo, LentSink, SinkAccount}
use Rattle.diva_outside.specs.declared.sink.SinkFailed.{SinkFailed}
use Rattle.diva_outside.proofs.Sinks.{puts_nothing, puts_past, puts_then}
use Rattle.diva_cli.specs.Changes.{change}
use Rattle.diva_cli.specs.Cuts.{BeforeLast}
use Rattle.diva_cli.specs.Watched.{AreTexts, DrivesSo, IsWatched, Seen, Watches, Watching, seen_of, seen_over, shown_by}

-- ---- one turn more

pub lists_more : {C : Type 0} (history : List (List Record × C)) (list : List Record) (after : C)
    → lists_of (history ++ (list, after) ∷ []) ≡ lists_of history ++ list ∷ []
lists_more [] list after = refl
lists_more (turn ∷ history) list after = ap (λ (lists : List (List Record)). turn.0 ∷ lists) (lists_more history list after)

-- none was taken
abbrev pub no_turn : {D : Type 0} (gives : Meaning D) (m : Timed) (core : D) → Turns gives m core m core
no_turn gives m core = record { history = []; good = (refl, refl); each = omega arith }

concat_more : (texts : List (List ℕ)) (text : List ℕ) → concat (texts ++ text ∷ []) ≡ concat texts ++ text
concat_more texts text = concat-append texts (text ∷ []) ∙ ap (λ (t : List ℕ). concat texts ++ t) (append-nil text)

texts_more : {W : Type 0} (puts : Watching W) (m : Timed) (lists : List (List Record)) (list : List Record) (w between after : W) (texts : List (List ℕ)) (text : List ℕ)
    → AreTexts puts w (seen_over m lists) between texts
    → puts between (seen_of (run_of m lists) list) after text
    → AreTexts puts w (seen_over m (lists ++ list ∷ [])) after (texts ++ text ∷ [])
texts_more puts m [] list w between after [] text are more =
    (after, (subst (λ z. puts z (seen_of m list) after text) are more, refl))
texts_more puts m [] list w between after (t ∷ texts) text are more = absurd are
texts_more puts m (first ∷ lists) list w between after [] text are more = absurd are
texts_more puts m (first ∷ lists) list w between after (t ∷ texts) text are more =
    (are.0, (are.1.0, texts_more puts (cycle_of m first) lists list are.0 between after texts text are.1.1 more))

-- what a machine shows after a turn is what is seen of it
seen_by : (m : Timed) (next : Machine) (first : ℕ) (list : List Record)
    → first ≡ m.count → next.last ≡ dues (next.timed.count - m.count) m.arch → next.timed ≡ cycle_of m list
    → shown_by next first list ≡ seen_of m list
seen_by m next first list fe ce ne =
    let from : ℕ → Seen = λ n. record { first = n; committed = next.last; list = list; after = next.timed } in
    let with : List Record → Seen = λ records. record { first = m.count; committed = records; list = list; after = next.timed } in
    let to : Timed → Seen = λ k. record { first = m.count; committed = dues (k.count - m.count) m.arch; list = list; after = k } in
    ap from fe ∙ ap with ce ∙ ap to ne

-- the first instruction of a turn, and as many as committed, come to its count
pub counts_on : (m : Timed) (next : Machine) (first : ℕ) → first ≡ m.count → next.last ≡ dues (next.timed.count - m.count) m.arch → m.count ≤ next.timed.count
    → first + length next.last ≡ next.timed.count
counts_on m next first fe ce up =
    let l = length-dues (next.timed.count - m.count) m.arch in
    let e = ap (λ (records : List Record). length records) ce in
    omega arith

-- the count of a machine has room in 62 bits
pub counts_fit : (m : Timed) → IsMachine m → m.cycles ≤ 2 ^ 60 → m.count ≤ 2 ^ 62
counts_fit m inv c =
    let w : m.config.width * m.cycles ≤ 4 * m.cycles = mul-le-mul_right m.cycles inv.config.width_high in
    let n = inv.count in omega arith

-- ---- turns were taken, and the text of each was put

module _ {D W S : Type 0} (gives : Meaning D) (means : Watching W) (says : List Record → Type 0) (m : Machine) (core : D) (w : W) (account : S → SinkAccount) (s0 : S) where
  abbrev put_by : S → LentSink S
  put_by s = lent account s0 s

  -- where the sink failed, it did so in the last of these turns
  abbrev pub CutIn : List (List ℕ) → S → Type 0
  CutIn texts s = BeforeLast texts (λ earlier. TakesPast (put_by s) (concat earlier) (concat texts))

  -- so far, n of them
  pub record WatchesSoFar (this : List Question → Type 0) (n : ℕ) (last : Machine) (after : D) (watcher : W) (s : S) (result : Result (Unit {0}) SinkFailed) : Type 0 where
    pub turns : Turns gives m.timed core last.timed after
    pub shows : last.last ≡ last_committed m.last m.timed (lists_of turns.history)
    pub asked : this (asked_over m.timed (lists_of turns.history))
    pub many : last.timed.cycles ≡ m.timed.cycles + n
    pub said : OnOk result (All says (lists_of turns.history))
    pub texts : List (List ℕ)
    pub are : AreTexts means w (seen_over m.timed (lists_of turns.history)) watcher texts
    pub put : PutsTo (put_by s) (concat texts) result
    pub cut : OnErr result (CutIn texts s)

  pub watches_none : (this : List Question → Type 0) → this [] → WatchesSoFar this 0 m core w s0 (Ok tt)
  watches_none this none =
      record {
        turns = no_turn gives m.timed core;
        shows = refl;
        asked = none;
        many = omega arith;
        said = All-nil says;
        texts = [];
        are = refl;
        put = puts_nothing account s0;
        cut = tt;
      }

  -- a turn more, and its text or a part of it
  module _ (this then : List Question → Type 0) (n : ℕ) (mid : Machine) (between : D) (by_then : W) (s : S) (so_far : WatchesSoFar this n mid between by_then s (Ok tt))
      (asks : (earlier : List Question) → this earlier → then (earlier ++ asked_of mid.timed)) (inv : IsMachine m.timed) (on : goes_on mid.timed.arch ≡ true)
      (list : List Record) (next : Machine) (after : D) (turn : IsTurn gives mid between list next after) (first : ℕ) (from : first ≡ mid.timed.count)
      (watcher : W) (s' : S) (result : Result (Unit {0}) SinkFailed) (it : Watches means (change by_then watcher) (shown_by next first list) (lent account s s') result) where
    abbrev lists : List (List Record)
    lists = lists_of so_far.turns.history

    ran : mid.timed ≡ run_of m.timed lists
    ran = IsHistory-run gives m.timed core so_far.turns.history mid.timed between so_far.turns.good

    one_more : lists_of (so_far.turns.history ++ (list, after) ∷ []) ≡ lists ++ list ∷ []
    one_more = lists_more so_far.turns.history list after

    asked_next : asked_over m.timed (lists_of (so_far.turns.history ++ (list, after) ∷ [])) ≡ asked_over m.timed lists ++ asked_of mid.timed
    asked_next =
        ap (asked_over m.timed) one_more
        ∙ asked_over-more m.timed lists list
        ∙ ap (λ (k : Timed). asked_over m.timed lists ++ asked_of k) (sym ran)

    more : concat (so_far.texts ++ it.text ∷ []) ≡ concat so_far.texts ++ it.text
    more = concat_more so_far.texts it.text

    seen_here : means by_then (seen_of (run_of m.timed lists) list) watcher it.text
    seen_here =
        subst (λ (k : Timed). means by_then (seen_of k list) watcher it.text) ran
        (subst (λ (x : Seen). means by_then x watcher it.text) (seen_by mid.timed next first list from turn.cycle.hart.due turn.cycle.cycled) it.means)

    told : (r : Result (Unit {0}) SinkFailed) → OnOk r (says list) → OnOk r (All says (lists_of (so_far.turns.history ++ (list, after) ∷ [])))
    told (Ok u) k = subst (All says) (sym one_more) (All-push says lists list so_far.said k)
    told (Err e) k = tt

    broke : (r : Result (Unit {0}) SinkFailed) → PutsTo (lent account s s') it.text r → OnErr r (CutIn (so_far.texts ++ it.text ∷ []) s')
    broke (Ok u) p = tt
    broke (Err e) p =
        record {
          earlier = so_far.texts;
          last = it.text;
          in_order = refl;
          holds = subst (λ (x : List ℕ). TakesPast (put_by s') (concat so_far.texts) x) (sym more) (puts_past _ _ _ _ _ _ e so_far.put p);
        }

    pub watches_turn : OnOk result (says list) → WatchesSoFar then (n + 1) next after watcher s' result
    unfolding turns_more
    watches_turn says_it =
        subst (λ (k : Timed). WatchesSoFar then (n + 1) (record next { timed = k }) after watcher s' result) (sym turn.cycle.cycled)
        (record {
          turns = turns_more gives m.timed core mid.timed between so_far.turns inv list after on (turn.asked on);
          shows = turn.cycle.hart.due ∙ ap (λ (k : Timed). dues (k.count - mid.timed.count) mid.timed.arch) turn.cycle.cycled
              ∙ sym (last-more gives m.last m.timed core so_far.turns.history mid.timed between list after so_far.turns.good);
          asked = subst then (sym asked_next) (asks (asked_over m.timed lists) so_far.asked);
          many = (let e = so_far.many in let c = cycle-cycles mid.timed list (turns-stay gives m.timed core mid.timed between inv so_far.turns) on in omega arith);
          said = told result says_it;
          texts = so_far.texts ++ it.text ∷ [];
          are = subst (λ (ls : List (List Record)). AreTexts means w (seen_over m.timed ls) watcher (so_far.texts ++ it.text ∷ [])) (sym one_more)
              (texts_more means m.timed lists list w by_then watcher so_far.texts it.text so_far.are seen_here);
          put = subst (λ (x : List ℕ). PutsTo (put_by s') x result) (sym more) (puts_then _ _ _ _ _ _ _ so_far.put it.put);
          cut = broke result it.put;
        })

  -- what is promised of them
  pub watched : (this : List Question → Type 0) (n budget : ℕ) (last : Machine) (after : D) (watcher : W) (s : S) (result : Result (Unit {0}) SinkFailed)
      → WatchesSoFar this n last after watcher s result
      → IsMachine m.timed
      → n ≤ budget
      → OnOk result (goes_on last.timed.arch ≡ true → n ≡ budget)
      → DrivesSo gives (change m last) (change core after) (λ lists. IsWatched means says budget (change m.timed last.timed) (change w watcher) lists (put_by s) result × this (asked_over m.timed lists))
  unfolding drives
  watched this n budget last after watcher s result so inv most whole =
      record {
        drives = drives gives m core last after (record { turns = so.turns; shows = so.shows }) inv;
        done = (record { most = (let l = long in omega arith); whole = go result whole; said = so.said; texts = so.texts; are = so.are; put = so.put; cut = so.cut }, so.asked);
      }
    where
      long : length (lists_of so.turns.history) ≡ n
      long = let e = so.turns.each in let l = length-lists_of so.turns.history in let k = so.many in omega arith

      go : (r : Result (Unit {0}) SinkFailed) → OnOk r (goes_on last.timed.arch ≡ true → n ≡ budget) → OnOk r (goes_on last.timed.arch ≡ true → length (lists_of so.turns.history) ≡ budget)
      go (Ok u) all = λ on. (let x = all on in let l = long in omega arith)
      go (Err e) all = tt

pub ended : (last : Timed) (n budget : ℕ) → goes_on last.arch ≡ false → goes_on last.arch ≡ true → n ≡ budget
ended last n budget off on = absurd (true≢false (sym on ∙ off))

-- ---- what was put before the last text

-- the turns before the last, and the watcher after them
pub record IsFront {W : Type 0} (puts : Watching W) (w : W) (m : Timed) (lists : List (List Record)) (texts : List (List ℕ)) : Type 0 where
  pub front : List (List Record)
  pub item : List Record
  pub in_order : lists ≡ front ++ item ∷ []
  pub between : W
  pub are : AreTexts puts w (seen_over m front) between texts

pub front_of : {W : Type 0} (puts : Watching W) (w after : W) (m : Timed) (lists : List (List Record)) (texts : List (List ℕ)) (text : List ℕ)
    → AreTexts puts w (seen_over m lists) after (texts ++ text ∷ []) → IsFront puts w m lists texts
front_of puts w after m [] [] text are = absurd are
front_of puts w after m [] (t ∷ texts) text are = absurd are
front_of puts w after m (list ∷ []) [] text are = record { front = []; item = list; in_order = refl; between = w; are = refl }
front_of puts w after m (list ∷ next ∷ more) [] text are = absurd are.1.1
front_of puts w after m (list ∷ lists) (t ∷ texts) text are =
    let f = front_of puts are.0 after (cycle_of m list) lists texts text are.1.1 in
    record {
      front = list ∷ f.front;
      item = f.item;
      in_order = ap (λ (ls : List (List Record)). list ∷ ls) f.in_order;
      between = f.between;
      are = (are.0, (are.1.0, f.are));
    }

-- ---- a watcher whose texts are told from what it sees alone

module _ {W : Type 0} (puts : Watching W) (of : Seen → List ℕ) (is : (before : W) (seen : Seen) (after : W) (text : List ℕ) → puts before seen after text → text ≡ of seen) where
  pub texts_of : (w after : W) (seen : List Seen) (texts : List (List ℕ)) → AreTexts puts w seen after texts → texts ≡ map of seen
  texts_of w after [] [] are = refl
  texts_of w after [] (t ∷ texts) are = absurd are
  texts_of w after (s ∷ seen) [] are = absurd are
  texts_of w after (s ∷ seen) (t ∷ texts) are =
      ap (λ (x : List ℕ). x ∷ texts) (is w s are.0 t are.1.0) ∙ ap (λ (rest : List (List ℕ)). of s ∷ rest) (texts_of are.0 after seen texts are.1.1)

  abbrev pub text_over : Timed → List (List Record) → List ℕ
  text_over m lists = concat (map of (seen_over m lists))

  pub concat_of : (w after : W) (m : Timed) (lists : List (List Record)) (texts : List (List ℕ)) → AreTexts puts w (seen_over m lists) after texts → concat texts ≡ text_over m lists
  concat_of w after m lists texts are = ap concat (texts_of w after (seen_over m lists) texts are)

  -- where the sink failed, told from the lists
  pub cut_of : {S : Type 0} (w after : W) (m : Timed) (lists : List (List Record)) (texts : List (List ℕ)) (sink : LentSink S)
      → AreTexts puts w (seen_over m lists) after texts
      → BeforeLast texts (λ earlier. TakesPast sink (concat earlier) (concat texts))
      → BeforeLast lists (λ earlier. TakesPast sink (text_over m earlier) (text_over m lists))
  cut_of w after m lists texts sink are b =
      let f = front_of puts w after m lists b.earlier b.last (subst (AreTexts puts w (seen_over m lists) after) b.in_order are) in
      record {
        earlier = f.front;
        last = f.item;
        in_order = f.in_order;
        holds = subst (λ (x : List ℕ). TakesPast sink x (text_over m lists)) (concat_of w f.between m f.front b.earlier f.are)
            (subst (λ (x : List ℕ). TakesPast sink (concat b.earlier) x) (concat_of w after m lists texts are) b.holds);
      }

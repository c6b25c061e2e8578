-- Replies, one command after the other.
use Rattle.std.proofs.Common.{◌≡◌, ◌≤◌, ◌<◌, ℕ, zero, suc, ◌+◌, ◌-◌, ◌*◌, Bool, true, false, List, [], ◌∷◌, ◌++◌, length, map, Option, Some, Result, Ok, Err, OnOk, OnErr, refl, ap, sym, ◌∙◌, append_assoc, append-nil, arith, subst, length-append, slice_get, take, if◌then◌else◌, ◌⊎◌, inl, inr}
use Rattle.std.specs.Prelude.{nat_le}
use Rattle.std.proofs.Math.Nat.{mul-le-mul_right}
use Rattle.std.proofs.lemmas.Bool.Decides.{nat_tests}
use Rattle.std.proofs.lemmas.List.{map-append}
use Rattle.std.proofs.lemmas.Option.{same_Some, none-some}
use Rattle.diva_isa.specs.State.{State}
use Rattle.diva_isa.specs.Step.{steps}
use Rattle.diva_isa.specs.declared.undo.Undo.{Undo}
use Rattle.diva_core.specs.Cycle.{run_of}
use Rattle.diva_core.specs.History.{Meaning, lists_of}
use Rattle.diva_core.specs.Legs.{AreLegs, Handed, IsLeg, Leg, Part, TakenBack, Turned, WentBack, core_after, handed_in, part_of, run_part, run_parts}
use Rattle.diva_core.specs.Timed.{Timed, depth}
use Rattle.diva_core.specs.declared.flushes.FlushRow.{FlushRow}
use Rattle.diva_core.proofs.Legging.{AreLegs-more, AreLegs-run, IsHistory-core, IsLeg-history, undone_all_cycles}
use Rattle.diva_core.proofs.Steps.{steps-add}
use Rattle.diva_core.proofs.Turning.{IsHistory-run, length-lists_of}
use Rattle.diva_machine.specs.Counts.{StopsAtOnce}
use Rattle.diva_machine.specs.Drives.{Drives}
use Rattle.diva_outside.specs.Sink.{TakesPast, PutsTo, SinkAccount, LentSink}
use Rattle.diva_outside.specs.declared.sink.SinkFailed.{SinkFailed}
use Rattle.diva_outside.proofs.Sinks.{puts_nothing, puts_past, puts_then}
use Rattle.diva_debug.specs.Moves.{Moves, Standing, goes_back, standing_after, steps_by}
use Rattle.diva_debug.specs.Replies.{reply_at, reply_from}
use Rattle.diva_debug.specs.Rewindable.{GoesBack, IsLed, Rewindable, session_origin, kept_of, standing_of}
use Rattle.diva_debug.specs.Undos.{origin_of}
use Rattle.diva_debug.specs.declared.command.Command.{Command}
use Rattle.diva_debug.specs.declared.command.Command.TheVariants.{Step, Until, Reg, Mem, Why, Back}
use Rattle.diva_cli.specs.Changes.{change}
use Rattle.diva_outside.specs.Lent.{lent}
use Rattle.diva_cli.specs.Cuts.{BeforeLast}
use Rattle.diva_cli.specs.Replies.{AreLed, IsMoved, LeadsBy, StandsAt, at_start, cycles_of, keep, newest_after, next_standing, replies_of}
use Rattle.diva_cli.specs.Tasks.{IsReplied, Plays}

-- ---- where commands lead

-- the standing behind commands
abbrev pub behind : (start : State) → List Command → Standing → Standing
behind start [] w = w
behind start (command ∷ commands) w = behind start commands (next_standing start command w)

behind-more : (start : State) (done : List Command) (c : Command) (w : Standing) → behind start (done ++ c ∷ []) w ≡ next_standing start c (behind start done w)
behind-more start [] c w = refl
behind-more start (d ∷ done) c w = behind-more start done c (next_standing start d w)

-- one command more
led-more : (start : State) (done : List Command) (c : Command) (w : Standing) (m : Timed) (parts : List Part) (part : Part)
    → AreLed start done w m parts
    → LeadsBy c (behind start done w) (run_parts m parts) part
    → StandsAt start (next_standing start c (behind start done w)) (run_part (run_parts m parts) part)
    → AreLed start (done ++ c ∷ []) w m (parts ++ part ∷ [])
led-more start [] c w m parts part r by stands =
    subst (λ (ps : List Part). LeadsBy c w (run_parts m ps) part → StandsAt start (next_standing start c w) (run_part (run_parts m ps) part) → AreLed start (c ∷ []) w m (ps ++ part ∷ [])) (sym r.0)
    (λ b s. (r.1, (b, (refl, s)))) by stands
led-more start (d ∷ done) c w m [] part r by stands = absurd r
led-more start (d ∷ done) c w m (first ∷ parts) part r by stands =
    (r.0, (r.1.0, led-more start done c (next_standing start d w) (run_part m first) parts part r.1.1 by stands))

newest-more : (m : Timed) (parts : List Part) (part : Part) → newest_after m (parts ++ part ∷ []) ≡ newest_after m parts ++ (run_part (run_parts m parts) part).under.log.newest ∷ []
newest-more m [] part = refl
newest-more m (first ∷ parts) part = ap (λ (rows : List (Option FlushRow)). (run_part m first).under.log.newest ∷ rows) (newest-more (run_part m first) parts part)

-- its reply stands behind the others
replies-more : (start : State) (done : List Command) (c : Command) (w : Standing) (m : Timed) (parts : List Part) (row : Option FlushRow)
    → AreLed start done w m parts
    → replies_of start (done ++ c ∷ []) w (newest_after m parts ++ row ∷ []) ≡ replies_of start done w (newest_after m parts) ++ reply_from start keep c (behind start done w) row
replies-more start [] c w m parts row r =
    subst (λ (ps : List Part). replies_of start (c ∷ []) w (newest_after m ps ++ row ∷ []) ≡ reply_from start keep c w row) (sym r.0) (append-nil (reply_from start keep c w row))
replies-more start (d ∷ done) c w m [] row r = absurd r
replies-more start (d ∷ done) c w m (first ∷ parts) row r =
    let here : List ℕ = reply_from start keep d w (run_part m first).under.log.newest in
    let next : Standing = next_standing start d w in
    ap (λ (t : List ℕ). here ++ t) (replies-more start done c next (run_part m first) parts row r.1.1)
    ∙ sym (append_assoc here (replies_of start done next (newest_after (run_part m first) parts)) (reply_from start keep c (behind start done next) row))

-- the replies to some commands, of more newest flushes
replies-front : (start : State) (done : List Command) (w : Standing) (m : Timed) (parts : List Part) (rows : List (Option FlushRow))
    → AreLed start done w m parts
    → replies_of start done w (newest_after m parts ++ rows) ≡ replies_of start done w (newest_after m parts)
replies-front start [] w m parts rows r = refl
replies-front start (d ∷ done) w m [] rows r = absurd r
replies-front start (d ∷ done) w m (first ∷ parts) rows r =
    ap (λ (t : List ℕ). reply_from start keep d w (run_part m first).under.log.newest ++ t)
    (replies-front start done (next_standing start d w) (run_part m first) parts rows r.1.1)

handed-more : (parts : List Part) (part : Part) → length (handed_in (parts ++ part ∷ [])) ≡ length (handed_in parts) + length (handed_in (part ∷ []))
handed-more [] part = omega arith
handed-more (Handed lists ∷ parts) part =
    length-append lists (handed_in (parts ++ part ∷ [])) ∙ (let e = handed-more parts part in let f = length-append lists (handed_in parts) in omega arith)
handed-more (TakenBack undos ∷ parts) part = handed-more parts part

-- ---- one command

-- a session stands where the commands have led it, with so many undos, which restore the state that began them
pub record StandsSo (start : State) (w : Standing) (r : Rewindable) : Type 0 where
  pub at : StandsAt start w r.machine.timed
  pub kept : kept_of r ≡ w.kept
  pub origin : session_origin r ≡ steps (w.place - w.kept) start
  pub within : w.kept ≤ w.place
  pub keeps : r.keep ≡ keep

-- no more undos are kept than there were, and instructions that were stepped
few_kept : (keep : ℕ) (c : Command) (w : Standing) (s : State) → (standing_after keep c w s).kept ≤ w.kept + steps_by c s
unfolding standing_after steps_by
few_kept keep (Step k) w s = omega arith
few_kept keep (Until pc) w s = omega arith
few_kept keep (Back k) w s = back_few (nat_le k w.kept)
  where
    back_few : (b : Bool) → (if b then (record { place = w.place - k; kept = w.kept - k }) else w).kept ≤ w.kept + 0
    back_few true = omega arith
    back_few false = omega arith
few_kept keep (Reg n) w s = omega arith
few_kept keep (Mem range) w s = omega arith
few_kept keep Why w s = omega arith

steps-sum : (a b n : ℕ) (s : State) → n ≡ a + b → steps b (steps a s) ≡ steps n s
steps-sum a b n s e = sym (steps-add a b s) ∙ ap (λ k. steps k s) (sym e)

same_standing : (w : Standing) (place kept : ℕ) → place ≡ w.place → kept ≡ w.kept → (record { place = place; kept = kept }) ≡ w
same_standing w place kept p k = ap (λ n. record { place = n; kept = kept }) p ∙ ap (λ n. record { place = w.place; kept = n }) k

-- what a reply says of a command that was done
pub record Done {C : Type 0} (gives : Meaning C) (c : Command) (r : Rewindable) (core : C) (last : Rewindable) (after : C) : Type 0 where
  pub stands : standing_of last ≡ standing_after r.keep c (standing_of r) r.machine.timed.arch
  pub keep : last.keep ≡ r.keep
  pub moved : goes_back c ≡ false → Moves (steps_by c r.machine.timed.arch) r.machine.timed last.machine.timed
  pub origin : goes_back c ≡ false → session_origin last ≡ steps (kept_of r + steps_by c r.machine.timed.arch - kept_of last) (session_origin r)
  pub at_once : goes_back c ≡ false → StopsAtOnce r.machine.timed last.machine.timed
  pub back : (k : ℕ) → c ≡ Back k → k ≤ kept_of r
      → (last.machine.timed.arch ≡ steps (kept_of r - k) (session_origin r)) × (session_origin last ≡ session_origin r) × (last.machine.timed.count + k ≡ r.machine.timed.count)
  pub stays : (k : ℕ) → c ≡ Back k → kept_of r < k → (last ≡ r) × (after ≡ core)
  pub led : IsLed gives c r core last after

module _ {C : Type 0} (gives : Meaning C) (start : State) (w : Standing) (c : Command) (r : Rewindable) (core : C) (last : Rewindable) (after : C)
    (so : StandsSo start w r) (d : Done gives c r core last after) where
  abbrev next : Standing
  next = next_standing start c w

  here : standing_of r ≡ w
  here = same_standing w r.machine.timed.count (kept_of r) so.at.counted so.kept

  there : standing_of last ≡ next
  there =
      d.stands
      ∙ ap (λ k. standing_after k c (standing_of r) r.machine.timed.arch) so.keeps
      ∙ ap (λ (v : Standing). standing_after keep c v r.machine.timed.arch) here
      ∙ ap (standing_after keep c w) so.at.stepped

  place : last.machine.timed.count ≡ next.place
  place = ap (λ (v : Standing). v.place) there

  kept : kept_of last ≡ next.kept
  kept = ap (λ (v : Standing). v.kept) there

  few : next.kept ≤ w.kept + steps_by c (steps w.place start)
  few = few_kept keep c w (steps w.place start)

  forth : goes_back c ≡ false → StandsSo start next last
  forth on =
      let n : ℕ = steps_by c (steps w.place start) in
      let same : steps_by c r.machine.timed.arch ≡ n = ap (steps_by c) so.at.stepped in
      let moved = d.moved on in
      let count : next.place ≡ w.place + n = (let a = place in let b = moved.count in let e = so.at.counted in omega arith) in
      let least = few in
      let within = so.within in
      let k0 = so.kept in
      let k1 = kept in
      record {
        at = record {
          counted = place;
          stepped = moved.arch ∙ ap (λ k. steps k r.machine.timed.arch) same ∙ ap (steps n) so.at.stepped ∙ steps-sum w.place n next.place start count;
        };
        kept = kept;
        origin = d.origin on ∙ ap (steps (kept_of r + steps_by c r.machine.timed.arch - kept_of last)) so.origin
            ∙ steps-sum (w.place - w.kept) (kept_of r + steps_by c r.machine.timed.arch - kept_of last) (next.place - next.kept) start (omega arith);
        within = omega arith;
        keeps = d.keep ∙ so.keeps;
      }

  -- it stands where it stood
  still : last ≡ r → StandsSo start next last
  still same =
      let unmoved : w ≡ next = sym here ∙ ap standing_of (sym same) ∙ there in
      subst (λ (v : Standing). StandsSo start v last) unmoved (subst (StandsSo start w) (sym same) so)

back_kept : (k : ℕ) (w : Standing) (s : State) → k ≤ w.kept → (standing_after keep (Back k) w s).kept ≡ w.kept - k
unfolding standing_after
back_kept k w s h = let t : nat_le k w.kept ≡ true = grind (arith, nat_tests) in rw t refl

module _ {C : Type 0} (gives : Meaning C) (start : State) (w : Standing) (r : Rewindable) (core : C) (last : Rewindable) (after : C) (so : StandsSo start w r) where
  went_back : (k : ℕ) → Done gives (Back k) r core last after → k ≤ kept_of r → StandsSo start (next_standing start (Back k) w) last
  went_back k d h =
      let b = d.back k refl h in
      let at = place gives start w (Back k) r core last after so d in
      let left : (next_standing start (Back k) w).kept ≡ w.kept - k = back_kept k w (steps w.place start) (let e = so.kept in omega arith) in
      let within = so.within in
      let k0 = so.kept in
      let n = so.at.counted in
      let c = b.2 in
      record {
        at = record {
          counted = at;
          stepped = b.0 ∙ ap (steps (kept_of r - k)) so.origin ∙ steps-sum (w.place - w.kept) (kept_of r - k) (next_standing start (Back k) w).place start (omega arith);
        };
        kept = kept gives start w (Back k) r core last after so d;
        origin = b.1 ∙ so.origin ∙ ap (λ n. steps n start) (omega arith);
        within = omega arith;
        keeps = d.keep ∙ so.keeps;
      }

  by_back : (k : ℕ) → Done gives (Back k) r core last after → (k ≤ kept_of r) ⊎ (kept_of r < k) → StandsSo start (next_standing start (Back k) w) last
  by_back k d (inl h) = went_back k d h
  by_back k d (inr h) = still gives start w (Back k) r core last after so d (d.stays k refl h).0

  pub stands_next : (c : Command) → Done gives c r core last after → StandsSo start (next_standing start c w) last
  stands_next (Step k) d = forth gives start w (Step k) r core last after so d refl
  stands_next (Until pc) d = forth gives start w (Until pc) r core last after so d refl
  stands_next (Reg n) d = forth gives start w (Reg n) r core last after so d refl
  stands_next (Mem range) d = forth gives start w (Mem range) r core last after so d refl
  stands_next Why d = forth gives start w Why r core last after so d refl
  stands_next (Back k) d = by_back k d (le_or_lt k (kept_of r))
    where
      le_or_lt : (a b : ℕ) → (a ≤ b) ⊎ (b < a)
      le_or_lt a b = cases (nat_le a b) refl
        where
          cases : (t : Bool) → nat_le a b ≡ t → (a ≤ b) ⊎ (b < a)
          cases true e = inl (grind (arith, nat_tests, e))
          cases false e = inr (grind (arith, nat_tests, e))

  -- the reply is told from the start
  pub told_from_start : (c : Command) (row : Option FlushRow) → Done gives c r core last after
      → reply_at c (kept_of r) last.machine.timed.count last.machine.timed.arch row ≡ reply_from start keep c w row
  told_from_start c row d =
      let next : StandsSo start (next_standing start c w) last = stands_next c d in
      ap (λ k. reply_at c k last.machine.timed.count last.machine.timed.arch row) so.kept
      ∙ ap (λ p. reply_at c w.kept p last.machine.timed.arch row) next.at.counted
      ∙ ap (λ (s : State). reply_at c w.kept (next_standing start c w).place s row) next.at.stepped

-- a command as a leg
pub record LegOf {C : Type 0} (gives : Meaning C) (c : Command) (w : Standing) (m : Timed) (asked : C) (last : Timed) (after : C) : Type 0 where
  pub leg : Leg C
  pub good : IsLeg gives m asked leg
  pub by : LeadsBy c w m (part_of leg)
  pub reached : last ≡ run_part m (part_of leg)
  pub core : after ≡ core_after asked leg
  pub each : last.cycles ≡ m.cycles + length (handed_in (part_of leg ∷ []))

module _ {C : Type 0} (gives : Meaning C) (w : Standing) (r : Rewindable) (core : C) (last : Rewindable) (after : C) where
  -- a drive, as the leg of a command that moves a machine
  driven_leg : (c : Command) → Drives gives r.machine core last.machine after
      → Moves (steps_by c r.machine.timed.arch) r.machine.timed last.machine.timed → StopsAtOnce r.machine.timed last.machine.timed
      → ((part : Part) → IsMoved c r.machine.timed part → LeadsBy c w r.machine.timed part)
      → LegOf gives c w r.machine.timed core last.machine.timed after
  driven_leg c drives moved once leads =
      let t = drives.turns in
      let there : last.machine.timed ≡ run_of r.machine.timed (lists_of t.history) = IsHistory-run gives r.machine.timed core t.history last.machine.timed after t.good in
      record {
        leg = Turned t.history;
        good = IsLeg-history gives r.machine.timed core t.history last.machine.timed after t.good;
        by = leads (Handed (lists_of t.history))
            (subst (Moves (steps_by c r.machine.timed.arch) r.machine.timed) there moved, subst (StopsAtOnce r.machine.timed) there once);
        reached = there;
        core = IsHistory-core gives r.machine.timed core t.history last.machine.timed after t.good;
        each = (let e = t.each in let l = length-lists_of t.history in let a = length-append (lists_of t.history) [] in omega arith);
      }

  taken_leg : (k : ℕ) → GoesBack (if nat_le k (kept_of r) then k else 0) r last → after ≡ core → kept_of r ≡ w.kept
      → LegOf gives (Back k) w r.machine.timed core last.machine.timed after
  taken_leg k b same held =
      let n : ℕ = if nat_le k (kept_of r) then k else 0 in
      let long : length (take n r.undos) ≡ n = as_many (nat_le k (kept_of r)) refl in
      record {
        leg = WentBack (take n r.undos);
        good = b.can;
        by = (long ∙ ap (λ j. if nat_le k j then k else 0) held, b.can);
        reached = b.undone;
        core = same;
        each = ap (λ (m : Timed). m.cycles) b.undone ∙ undone_all_cycles r.machine.timed (take n r.undos) ∙ (omega arith);
      }
    where
      length-first : (n : ℕ) (undos : List Undo) → n ≤ length undos → length (take n undos) ≡ n
      length-first zero undos h = refl
      length-first (suc n) [] h = omega arith
      length-first (suc n) (u ∷ undos) h = let e = length-first n undos (omega arith) in omega arith

      as_many : (t : Bool) → nat_le k (kept_of r) ≡ t → length (take (if t then k else 0) r.undos) ≡ (if t then k else 0)
      as_many true e = length-first k r.undos (grind (arith, nat_tests, e))
      as_many false e = refl

  pub leg_of : (c : Command) → Done gives c r core last after → kept_of r ≡ w.kept → LegOf gives c w r.machine.timed core last.machine.timed after
  leg_of (Step k) d held = driven_leg (Step k) d.led (d.moved refl) (d.at_once refl) (λ part h. h)
  leg_of (Until pc) d held = driven_leg (Until pc) d.led (d.moved refl) (d.at_once refl) (λ part h. h)
  leg_of (Reg n) d held = driven_leg (Reg n) d.led (d.moved refl) (d.at_once refl) (λ part h. h)
  leg_of (Mem range) d held = driven_leg (Mem range) d.led (d.moved refl) (d.at_once refl) (λ part h. h)
  leg_of Why d held = driven_leg Why d.led (d.moved refl) (d.at_once refl) (λ part h. h)
  leg_of (Back k) d held = taken_leg k d.led.0 d.led.1 held

-- ---- the commands that are left

record NextIs (c : Command) (left : List Command) : Type 0 where
  rest : List Command
  is : left ≡ c ∷ rest

next-left : (done left : List Command) (c : Command) → slice_get (done ++ left) (length done) ≡ Some c → NextIs c left
next-left [] [] c e = absurd (none-some _ e)
next-left [] (x ∷ rest) c e = record { rest = rest; is = ap (λ (y : Command). y ∷ rest) (same_Some _ _ e) }
next-left (d ∷ done) left c e = next-left done left c e

nil-left : (commands done left : List Command) → commands ≡ done ++ left → length done ≡ length commands → left ≡ []
nil-left commands done [] e n = refl
nil-left commands done (x ∷ rest) e n = absurd (let l : length commands ≡ length done + length (x ∷ rest) = ap (λ (t : List Command). length t) e ∙ length-append done (x ∷ rest) in omega arith)

-- ---- what was replied so far: to n commands

-- where the sink failed, it did so at the last of these replies
abbrev pub CutAt : {S : Type 0} → List Command → Timed → List Part → LentSink S → Type 0
CutAt done m parts sink =
    BeforeLast done (λ earlier. TakesPast sink (replies_of m.arch earlier at_start (newest_after m parts)) (replies_of m.arch done at_start (newest_after m parts)))

pub record RepliesSoFar {C S : Type 0} (gives : Meaning C) (commands : List Command) (n : ℕ) (m : Timed) (core : C) (r : Rewindable) (after : C)
    (sink : LentSink S) (result : Result (Unit {0}) SinkFailed) : Type 0 where
  pub legs : List (Leg C)
  pub good : AreLegs gives m core legs r.machine.timed after
  pub each : r.machine.timed.cycles ≡ m.cycles + length (handed_in (map part_of legs))
  pub done : List Command
  pub left : List Command
  pub in_order : commands ≡ done ++ left
  pub many : length done ≡ n
  pub led : AreLed m.arch done at_start m (map part_of legs)
  pub stands : StandsSo m.arch (behind m.arch done at_start) r
  pub put : PutsTo sink (replies_of m.arch done at_start (newest_after m (map part_of legs))) result
  pub cut : OnErr result (CutAt done m (map part_of legs) sink)

pub replies_none : {C S : Type 0} (gives : Meaning C) (commands : List Command) (r : Rewindable) (core : C) (account : S → SinkAccount) (old : S)
    → r.machine.timed.count ≡ 0 → r.undos ≡ [] → r.keep ≡ keep
    → RepliesSoFar gives commands 0 r.machine.timed core r core (lent account old old) (Ok tt)
replies_none gives commands r core account old new none keeps =
    let at : StandsAt r.machine.timed.arch at_start r.machine.timed = record { counted = new; stepped = refl } in
    record {
      legs = [];
      good = (refl, refl);
      each = omega arith;
      done = [];
      left = commands;
      in_order = refl;
      many = refl;
      led = (refl, at);
      stands = record {
        at = at;
        kept = ap (λ (undos : List Undo). length undos) none;
        origin = origin_none r.undos none;
        within = omega arith;
        keeps = keeps;
      };
      put = puts_nothing account old;
      cut = tt;
    }
  where
    origin_none : (undos : List Undo) → undos ≡ [] → origin_of r.machine.timed.arch undos ≡ r.machine.timed.arch
    origin_none undos e = ap (origin_of r.machine.timed.arch) e

module _ {C S : Type 0} (gives : Meaning C) (commands : List Command) (n : ℕ) (m : Timed) (core : C) (r : Rewindable) (between : C) (account : S → SinkAccount) (old now new : S)
    (c : Command) (last : Rewindable) (after : C) (line : List ℕ) (result : Result (Unit {0}) SinkFailed)
    (s : RepliesSoFar gives commands n m core r between (lent account old now) (Ok tt))
    (at : slice_get commands n ≡ Some c) (d : Done gives c r between last after)
    (is : line ≡ reply_at c (kept_of r) last.machine.timed.count last.machine.timed.arch last.machine.timed.under.log.newest)
    (puts : PutsTo (lent account now new) line result) where
  abbrev w : Standing
  w = behind m.arch s.done at_start

  abbrev parts : List Part
  parts = map part_of s.legs

  one : LegOf gives c w r.machine.timed between last.machine.timed after
  one = leg_of gives w r between last after c d s.stands.kept

  following : NextIs c s.left
  following = next-left s.done s.left c (ap (λ (l : List Command). slice_get l (length s.done)) (sym s.in_order) ∙ ap (slice_get commands) s.many ∙ at)

  begins : r.machine.timed ≡ run_parts m parts
  begins = AreLegs-run gives m core s.legs r.machine.timed between s.good

  stands : StandsSo m.arch (next_standing m.arch c w) last
  stands = stands_next gives m.arch w r between last after s.stands c d

  ends : last.machine.timed ≡ run_part (run_parts m parts) (part_of one.leg)
  ends = one.reached ∙ ap (λ (k : Timed). run_part k (part_of one.leg)) begins

  abbrev reply : List ℕ
  reply = reply_from m.arch keep c w last.machine.timed.under.log.newest

  told : line ≡ reply
  told = is ∙ told_from_start gives m.arch w r between last after s.stands c last.machine.timed.under.log.newest d

  all_parts : map part_of (s.legs ++ one.leg ∷ []) ≡ parts ++ part_of one.leg ∷ []
  all_parts = map-append part_of s.legs (one.leg ∷ [])

  led_all : AreLed m.arch (s.done ++ c ∷ []) at_start m (parts ++ part_of one.leg ∷ [])
  led_all =
      led-more m.arch s.done c at_start m parts (part_of one.leg) s.led
      (subst (λ (k : Timed). LeadsBy c w k (part_of one.leg)) begins one.by)
      (subst (StandsAt m.arch (next_standing m.arch c w)) ends stands.at)

  text : replies_of m.arch (s.done ++ c ∷ []) at_start (newest_after m (parts ++ part_of one.leg ∷ [])) ≡ replies_of m.arch s.done at_start (newest_after m parts) ++ reply
  text =
      ap (replies_of m.arch (s.done ++ c ∷ []) at_start) (newest-more m parts (part_of one.leg))
      ∙ ap (λ (k : Timed). replies_of m.arch (s.done ++ c ∷ []) at_start (newest_after m parts ++ k.under.log.newest ∷ [])) (sym ends)
      ∙ replies-more m.arch s.done c at_start m parts last.machine.timed.under.log.newest s.led

  before_it : replies_of m.arch s.done at_start (newest_after m (parts ++ part_of one.leg ∷ [])) ≡ replies_of m.arch s.done at_start (newest_after m parts)
  before_it =
      ap (replies_of m.arch s.done at_start) (newest-more m parts (part_of one.leg))
      ∙ replies-front m.arch s.done at_start m parts ((run_part (run_parts m parts) (part_of one.leg)).under.log.newest ∷ []) s.led

  put_it : PutsTo (lent account now new) reply result
  put_it = subst (λ (x : List ℕ). PutsTo (lent account now new) x result) told puts

  broke : (e : Result (Unit {0}) SinkFailed) → PutsTo (lent account now new) reply e → OnErr e (CutAt (s.done ++ c ∷ []) m (parts ++ part_of one.leg ∷ []) (lent account old new))
  broke (Ok u) p = tt
  broke (Err e) p =
      record {
        earlier = s.done;
        last = c;
        in_order = refl;
        holds = subst (λ (x : List ℕ). TakesPast (lent account old new) x (replies_of m.arch (s.done ++ c ∷ []) at_start (newest_after m (parts ++ part_of one.leg ∷ [])))) (sym before_it)
            (subst (λ (x : List ℕ). TakesPast (lent account old new) (replies_of m.arch s.done at_start (newest_after m parts)) x) (sym text)
            (puts_past account (replies_of m.arch s.done at_start (newest_after m parts)) reply old now new e s.put p));
      }

  pub replies_more : RepliesSoFar gives commands (n + 1) m core last after (lent account old new) result
  replies_more =
      record {
        legs = s.legs ++ one.leg ∷ [];
        good = subst (λ (k : Timed). AreLegs gives m core (s.legs ++ one.leg ∷ []) k after) (sym one.reached)
            (subst (λ b. AreLegs gives m core (s.legs ++ one.leg ∷ []) (run_part r.machine.timed (part_of one.leg)) b) (sym one.core)
            (AreLegs-more gives m core s.legs r.machine.timed between one.leg s.good one.good));
        each = subst (λ (ps : List Part). last.machine.timed.cycles ≡ m.cycles + length (handed_in ps)) (sym all_parts)
            (let e = s.each in let k = one.each in let l = handed-more parts (part_of one.leg) in omega arith);
        done = s.done ++ c ∷ [];
        left = following.rest;
        in_order = s.in_order ∙ ap (λ (l : List Command). s.done ++ l) following.is ∙ sym (append_assoc s.done (c ∷ []) following.rest);
        many = rw length-append (let e = s.many in omega arith);
        led = subst (AreLed m.arch (s.done ++ c ∷ []) at_start m) (sym all_parts) led_all;
        stands = subst (λ (v : Standing). StandsSo m.arch v last) (sym (behind-more m.arch s.done c at_start)) stands;
        put = subst (λ (ps : List Part). PutsTo (lent account old new) (replies_of m.arch (s.done ++ c ∷ []) at_start (newest_after m ps)) result) (sym all_parts)
            (subst (λ (x : List ℕ). PutsTo (lent account old new) x result) (sym text)
            (puts_then account (replies_of m.arch s.done at_start (newest_after m parts)) reply old now new result s.put put_it));
        cut = subst (λ (ps : List Part). OnErr result (CutAt (s.done ++ c ∷ []) m ps (lent account old new))) (sym all_parts) (broke result put_it);
      }

pub replied :
    {C S : Type 0} (gives : Meaning C) (commands : List Command) (n : ℕ) (m : Timed) (core : C) (r : Rewindable) (after : C) (account : S → SinkAccount) (s s' : S) (result : Result (Unit {0}) SinkFailed)
    → RepliesSoFar gives commands n m core r after (lent account s s') result
    → r.machine.timed.cycles ≤ m.cycles + cycles_of n m.config.limit
    → OnOk result (n ≡ length commands)
    → Plays gives (change m r.machine.timed) (change core after) (λ parts. IsReplied commands m parts (lent account s s') result)
replied gives commands n m core r after account old new result s within all =
    record {
      legs = s.legs;
      good = s.good;
      each = s.each;
      done = record {
        done = s.done;
        left = s.left;
        in_order = s.in_order;
        whole = whole result all;
        led = s.led;
        most = rw s.many (let e = s.each in omega arith);
        put = s.put;
        cut = s.cut;
      };
    }
  where
    whole : (e : Result (Unit {0}) SinkFailed) → OnOk e (n ≡ length commands) → OnOk e (s.left ≡ [])
    whole (Ok u) e = nil-left commands s.done s.left s.in_order (s.many ∙ e)
    whole (Err e) h = tt

-- ---- cycles

-- one command more takes a million steps at most
pub cycles-more : (cycles before n limit limit' : ℕ) (after : ℕ) → cycles ≤ before + cycles_of n limit → limit' ≡ limit → after ≤ cycles + 1000000 * (limit' + depth) → after ≤ before + cycles_of (n + 1) limit
cycles-more cycles before n limit limit' after so_far same one =
    let l : 1000000 * (limit' + depth) ≡ 1000000 * (limit + depth) = ap (λ k. 1000000 * (k + depth)) same in
    let p : cycles_of (n + 1) limit ≡ cycles_of n limit + 1000000 * (limit + depth) = grind arith in
    omega arith

-- a command's cycles fit where those of all do
pub cycles-fit : (cycles before n len most limit limit' bound : ℕ) → cycles ≤ before + cycles_of n limit → n < len → limit' ≡ limit → before + cycles_of len limit ≤ bound → most ≤ 1000000
    → cycles + most * (limit' + depth) ≤ bound
cycles-fit cycles before n len most limit limit' bound so_far short same all few =
    let p : (n + 1) * (1000000 * (limit + depth)) ≤ len * (1000000 * (limit + depth)) = mul-le-mul_right (1000000 * (limit + depth)) (omega arith) in
    let q : most * (limit + depth) ≤ 1000000 * (limit + depth) = mul-le-mul_right (limit + depth) few in
    let r : (n + 1) * (1000000 * (limit + depth)) ≡ n * (1000000 * (limit + depth)) + 1000000 * (limit + depth) = grind arith in
    let s : most * (limit' + depth) ≡ most * (limit + depth) = ap (λ k. most * (k + depth)) same in
    omega arith

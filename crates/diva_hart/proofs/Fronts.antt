-- How the front claim is judged under a rule, and ready claims one after the other.
use Rattle.std.proofs.Common.{◌≡◌, ℕ, zero, suc, ◌+◌, ◌-◌, ◌==◌, ◌<◌, ◌≤◌, Bool, true, false, ◌&&◌, List, [], ◌∷◌, length, map, drop, Option, Some, None, slice_get, refl, ap, sym, ◌∙◌, arith, subst, if◌then◌else◌}
use Rattle.std.proofs.lemmas.Bool.{eqb-false, eqb-true, le-leb, lt-leb}
use Rattle.std.proofs.lemmas.Option.{none-some, same_Some}
use Rattle.diva_isa.specs.State.{goes_on, GoesOn}
use Rattle.diva_isa.specs.Step.{record_of}
use Rattle.diva_isa.specs.declared.record.Record.{Record}
use Rattle.diva_core.specs.declared.differences.Diff.{Diff}
use Rattle.diva_core.specs.declared.flushes.Cause.TheVariants.{Differs}
use Rattle.diva_core.specs.declared.pending.Entry.{Entry}
use Rattle.diva_core.specs.Entries.{pending_claim_of}
use Rattle.diva_core.specs.Difference.{first_difference}
use Rattle.diva_core.specs.Timed.{Log, Timed, PendingClaim, depth}
use Rattle.diva_core.specs.Cycle.{Rule, Commit, Flush, Wait, by_difference, by_front, by_judgement, committed, flushed, judged_under, judgement_under, number, past_front, puts_store, without_solo}
use Rattle.diva_core.specs.Headline.{Rises, SameLog}
use Rattle.diva_core.proofs.Judging.{judged-none, past-off}
use Rattle.diva_core.proofs.Passing.{Keeps}
use Rattle.diva_core.proofs.Phases.{number-least}
use Rattle.diva_hart.specs.Inner.{JudgesFront, JudgesReady, KeepsBounds}
use Rattle.diva_hart.proofs.Dues.{rises_none, rises_one, rises_then}
use Rattle.diva_hart.proofs.Telling.{tells_flush, tells_running}

-- ---- the judgement

first_is : (items : List Entry) (e : Entry) → slice_get items 0 ≡ Some e → items ≡ e ∷ drop 1 items
first_is [] e h = absurd (none-some _ h)
first_is (x ∷ items) e h = ap (λ (y : Entry). y ∷ items) (same_Some _ _ h)

module _ (rule : Rule) (m : Timed) (items : List Entry) (e : Entry) (first : slice_get items 0 ≡ Some e) (waits : m.under.pending ≡ map pending_claim_of items) where
  pub front_is : m.under.pending ≡ pending_claim_of e ∷ map pending_claim_of (drop 1 items)
  front_is = waits ∙ ap (map pending_claim_of) (first_is items e first)

  -- it is not ready
  pub front_young : m.cycles < e.cycle + depth → judgement_under rule m ≡ Wait
  front_young few = ap (by_front rule m) front_is ∙ rw (lt-leb (e.cycle + depth) m.cycles few) refl

  module _ (ready : e.cycle + depth ≤ m.cycles) where
    pub front_ready : (o : Option Diff) → first_difference e.claim (record_of m.arch) ≡ o → judgement_under rule m ≡ by_difference rule m o
    front_ready o d = ap (by_front rule m) front_is ∙ rw (le-leb (e.cycle + depth) m.cycles ready, d) refl

    -- it is equal, and waits by the rule
    pub front_held : first_difference e.claim (record_of m.arch) ≡ None → rule m.config.stores m.owed (record_of m.arch) ≡ true → judgement_under rule m ≡ Wait
    front_held is held = front_ready None is ∙ rw held refl

    -- it is equal, and does not
    pub front_free : first_difference e.claim (record_of m.arch) ≡ None → rule m.config.stores m.owed (record_of m.arch) ≡ false → judgement_under rule m ≡ Commit
    front_free is free = front_ready None is ∙ rw free refl

-- ---- what it does

pub bounds_none : (m : Timed) → m.owed ≤ m.config.stores → KeepsBounds m m
bounds_none m owed = record { config = refl; cycles = refl; idle = refl; owed = owed; pending = omega arith; flushes = omega arith; silent = omega arith }

bounds_then : (m n o : Timed) → SameLog m n → KeepsBounds m n → KeepsBounds n o → KeepsBounds m o
bounds_then m n o s a b =
    record {
      config = b.config ∙ a.config;
      cycles = b.cycles ∙ a.cycles;
      idle = b.idle ∙ a.idle;
      owed = (let e = ap (λ z. z.stores) a.config in let f = b.owed in omega arith);
      pending = (let e = a.pending in let f = b.pending in omega arith);
      flushes = (let e = ap (λ (l : Log). l.flushes) s in let f = b.flushes in omega arith);
      silent = (let e = ap (λ (l : Log). l.silent) s in let f = b.silent in omega arith);
    }

more_owed : (b : Bool) (owed stores : ℕ) → owed ≤ stores → (b && (owed == stores)) ≡ false → owed + number b ≤ stores
more_owed true owed stores h room = let not_all = eqb-false owed stores room in omega arith
more_owed false owed stores h room = omega arith

-- an instruction that ran solo commits
pub alone_bounds : (m n : Timed) (r : Record) → m.owed < m.config.stores → n ≡ committed (without_solo m) r → KeepsBounds m n
unfolding committed
alone_bounds m n r room is =
    let one = number-least (puts_store r) in
    subst (KeepsBounds m) (sym is) (record { config = refl; cycles = refl; idle = refl; owed = omega arith; pending = omega arith; flushes = omega arith; silent = omega arith })

fewer_wait : (b : Bool) (ps : List PendingClaim) → length (if b then drop 1 ps else []) ≤ length ps
fewer_wait true [] = omega arith
fewer_wait true (p ∷ ps) = omega arith
fewer_wait false ps = omega arith

module _ (rule : Rule) where
  -- it waits
  pub front_waits : (m : Timed) → m.owed ≤ m.config.stores → m.under.solo ≡ None → judgement_under rule m ≡ Wait → JudgesFront rule m m false
  front_waits m owed none is =
      record {
        judged = λ k. ap (by_judgement m (judged_under rule k (past_front m))) is;
        rises = rises_none m;
        one = omega arith;
        tells = tells_running m m none refl;
        on = λ h. absurd (cc);
        running = λ h. absurd (cc);
        same = λ h. absurd (cc);
        bounds = bounds_none m owed;
      }

  -- it flushes
  pub front_flushes : (m n : Timed) (d : Diff) → m.owed ≤ m.config.stores → judgement_under rule m ≡ Flush d → n ≡ flushed m (Differs d) → JudgesFront rule m n false
  unfolding flushed
  front_flushes m n d owed is flushes =
      subst (λ (z : Timed). JudgesFront rule m z false) (sym flushes) (record {
        judged = λ k. ap (by_judgement m (judged_under rule k (past_front m))) is;
        rises = record { counted = omega arith; stepped = (rises_none m).stepped };
        one = omega arith;
        tells = tells_flush m m (Differs d) refl;
        on = λ h. absurd (cc);
        running = λ h. absurd (cc);
        same = λ h. absurd (cc);
        bounds = record { config = refl; cycles = refl; idle = refl; owed = owed; pending = omega arith; flushes = omega arith; silent = omega arith };
      })

  -- it commits
  further_on : (goes : Bool) (k : ℕ) (p : Timed) → (goes ≡ false → p.under.pending ≡ []) → judged_under rule k p ≡ (if goes then judged_under rule k p else p)
  further_on true k p none = refl
  further_on false k p none = judged-none rule k p (none refl)

  pub front_commits : Keeps rule → (m n : Timed) (goes : Bool) → m.owed ≤ m.config.stores → m.under.solo ≡ None
      → rule m.config.stores m.owed (record_of m.arch) ≡ false → judgement_under rule m ≡ Commit
      → n ≡ past_front m → goes ≡ goes_on n.arch → JudgesFront rule m n goes
  unfolding committed
  front_commits keeps m n goes owed none free is past does =
      let on : goes_on (past_front m).arch ≡ goes = ap (λ (z : Timed). goes_on z.arch) (sym past) ∙ sym does in
      subst (λ (z : Timed). JudgesFront rule m z goes) (sym past) (record {
        judged = λ k. ap (by_judgement m (judged_under rule k (past_front m))) is ∙ further_on goes k (past_front m) (λ off. past-off m (on ∙ off));
        rises = rises_one m (past_front m) refl refl;
        one = omega arith;
        tells = tells_running m (past_front m) none refl;
        on = λ yes. eqb-true _ _ (on ∙ yes);
        running = λ h. none;
        same = λ h. refl;
        bounds = record {
          config = refl;
          cycles = refl;
          idle = refl;
          owed = more_owed (puts_store (record_of m.arch)) m.owed m.config.stores owed (keeps.room m.config.stores m.owed (record_of m.arch) free);
          pending = fewer_wait (goes_on (committed m (record_of m.arch)).arch) m.under.pending;
          flushes = omega arith;
          silent = omega arith;
        };
      })

  -- ---- at most k claims, one after the other

  -- `at` claims of m were judged, and each of them committed, which led to n
  pub record HasJudged (k at : ℕ) (m n : Timed) : Type 0 where
    pub left : judged_under rule (k - at) n ≡ judged_under rule k m
    pub rises : Rises m n
    pub few : n.count ≤ m.count + at
    pub on : GoesOn n.arch
    pub running : n.under.solo ≡ None
    pub same : SameLog m n
    pub bounds : KeepsBounds m n

  pub judging_begins : (k : ℕ) (m : Timed) → m.owed ≤ m.config.stores → GoesOn m.arch → m.under.solo ≡ None → HasJudged k 0 m m
  judging_begins k m owed on none =
      record {
        left = (let e : k - 0 ≡ k = omega arith in ap (λ i. judged_under rule i m) e);
        rises = rises_none m;
        few = omega arith;
        on = on;
        running = none;
        same = refl;
        bounds = bounds_none m owed;
      }

  -- nothing more is judged
  pub judging_ends : (k at : ℕ) (m n : Timed) → HasJudged k at m n → at ≤ k → judged_under rule (k - at) n ≡ n → JudgesReady rule k m n
  judging_ends k at m n h most none =
      record {
        judged = sym none ∙ h.left;
        rises = h.rises;
        few = (let a = h.few in omega arith);
        tells = tells_running m n h.running (ap (λ (l : Log). l.flushes) h.same);
        bounds = h.bounds;
      }

  pub none_left : (k at : ℕ) (n : Timed) → k ≤ at → judged_under rule (k - at) n ≡ n
  none_left k at n all = let e : k - at ≡ 0 = omega arith in ap (λ i. judged_under rule i n) e

  pub none_ready : (k : ℕ) (n : Timed) → judgement_under rule n ≡ Wait → judged_under rule k n ≡ n
  none_ready zero n is = refl
  none_ready (suc k) n is = ap (by_judgement n (judged_under rule k (past_front n))) is

  module _ (k at : ℕ) (m n o : Timed) (h : HasJudged k at m n) (more : at < k) where
    less : judged_under rule (k - at) n ≡ judged_under rule (suc (k - (at + 1))) n
    less = let e : k - at ≡ suc (k - (at + 1)) = omega arith in ap (λ i. judged_under rule i n) e

    -- the next one commits, and the hart goes on
    pub judging_goes_on : JudgesFront rule n o true → HasJudged k (at + 1) m o
    judging_goes_on j =
        record {
          left = sym (j.judged (k - (at + 1))) ∙ sym less ∙ h.left;
          rises = rises_then m n o h.rises j.rises;
          few = (let a = h.few in let b = j.one in omega arith);
          on = j.on refl;
          running = j.running refl;
          same = j.same refl ∙ h.same;
          bounds = bounds_then m n o h.same h.bounds j.bounds;
        }

    -- it does not
    pub judging_stops : JudgesFront rule n o false → JudgesReady rule k m o
    judging_stops j =
        record {
          judged = sym (j.judged (k - (at + 1))) ∙ sym less ∙ h.left;
          rises = rises_then m n o h.rises j.rises;
          few = (let a = h.few in let b = j.one in omega arith);
          tells = j.tells ∙ ap (λ (l : Log). goes_on o.arch && (o.under.log.flushes == l.flushes)) h.same;
          bounds = bounds_then m n o h.same h.bounds j.bounds;
        }

-- The actions of one hart, one after the other.
use Rattle.std.proofs.Common.{◌≡◌, ℕ, zero, suc, ◌+◌, Bool, true, false, ◌||◌, List, [], ◌∷◌, ◌++◌, length, Option, Some, None, refl, ap, sym, ◌∙◌, subst, length-append}
use Rattle.std.specs.Prelude.{replicate, flat_map, option_and_then}
use Rattle.std.proofs.lemmas.List.{append-nil, append_assoc}
use Rattle.diva_memory.specs.Bytes.{Bytes}
use Rattle.diva_storeq.specs.declared.masked.Masked.{Masked}
use Rattle.diva_isa.specs.State.{State, goes_on}
use Rattle.diva_isa.specs.Step.{record_of, step, steps}
use Rattle.diva_core.specs.Cycle.{number, puts_store, stores_wait}
use Rattle.diva_core.specs.Headline.{dues}
use Rattle.diva_core.proofs.Passing.{Passed, owed_after}
use Rattle.diva_core.proofs.Steps.{steps-shift}
use Rattle.diva_commit.specs.Committing.{AreInside, buffered}
use Rattle.diva_commit.proofs.Storing.{length_buffered}
use Rattle.diva_hart.specs.HartArch.{HartState, hart_in, seen}
use Rattle.diva_duo.specs.declared.action.Action.{Action}
use Rattle.diva_duo.specs.Rules.{fences_wait, fence_waits}
use Rattle.diva_duo.specs.Harts.{Harts, gone, may_go, where_possible, acted, replay}
use Rattle.diva_duo.proofs.Going.{seen_gone, inside_gone}

or_right : (a b : Bool) → (a || b) ≡ false → b ≡ false
or_right true b e = absurd (cc)
or_right false b e = e

-- what a hart is after k instructions
abbrev pub went_on : Bytes → ℕ → HartState → HartState
went_on memory k h = hart_in (steps k (seen memory h)) (h.buffer ++ flat_map buffered (dues k (seen memory h)))

pub went_none : (memory : Bytes) (h : HartState) → went_on memory 0 h ≡ h
went_none memory h = ap (λ (b : List Masked). record h { buffer = b }) (append-nil h.buffer)

module _ (memory : Bytes) (h : HartState) where
  pub went_more : goes_on (seen memory h) ≡ true → (k : ℕ) → went_on memory k (gone memory h) ≡ went_on memory (suc k) h
  went_more on k =
      let s = seen memory h in
      let g = gone memory h in
      ap (λ (t : State). hart_in (steps k t) (g.buffer ++ flat_map buffered (dues k t))) (seen_gone memory h on)
      ∙ ap (λ (t : State). hart_in t (g.buffer ++ flat_map buffered (dues k (step s)))) (steps-shift k s)
      ∙ ap (hart_in (steps (suc k) s)) (append_assoc h.buffer (buffered (record_of s)) (flat_map buffered (dues k (step s))))

  length_gone : length (gone memory h).buffer ≡ length h.buffer + number (puts_store (record_of (seen memory h)))
  length_gone = length-append h.buffer (buffered (record_of (seen memory h))) ∙ ap (λ n. length h.buffer + n) (length_buffered (record_of (seen memory h)))

  -- the rest passes from there
  passed_gone : (stores k : ℕ) → goes_on (seen memory h) ≡ true → Passed fences_wait stores k (step (seen memory h)) (length h.buffer + number (puts_store (record_of (seen memory h)))) → Passed fences_wait stores k (seen memory (gone memory h)) (length (gone memory h).buffer)
  passed_gone stores k on p =
      subst (λ n. Passed fences_wait stores k (seen memory (gone memory h)) n) (sym length_gone)
      (subst (λ (t : State). Passed fences_wait stores k t (length h.buffer + number (puts_store (record_of (seen memory h))))) (sym (seen_gone memory h on)) p)

  may : (stores : ℕ) → goes_on (seen memory h) ≡ true → fences_wait stores (length h.buffer) (record_of (seen memory h)) ≡ false → may_go memory h ≡ true
  may stores on free =
      let waits : fence_waits (length h.buffer) (record_of (seen memory h)) ≡ false = or_right (stores_wait stores (length h.buffer) (record_of (seen memory h))) (fence_waits (length h.buffer) (record_of (seen memory h))) free in
      rw (on, waits) refl

-- k instructions of a hart: what it sees then, how long its buffer is, and that its stores lie inside memory
pub record Goes (memory : Bytes) (k : ℕ) (h : HartState) : Type 0 where
  pub sees : seen memory (went_on memory k h) ≡ steps k (seen memory h)
  pub owes : length (went_on memory k h).buffer ≡ owed_after k (seen memory h) (length h.buffer)
  pub inside : AreInside memory (went_on memory k h).buffer

pub goes_by : (memory : Bytes) (stores k : ℕ) (h : HartState) → AreInside memory h.buffer → Passed fences_wait stores k (seen memory h) (length h.buffer) → Goes memory k h
goes_by memory stores zero h i p =
    record {
      sees = ap (seen memory) (went_none memory h);
      owes = ap (λ (o : HartState). length o.buffer) (went_none memory h);
      inside = subst (λ (o : HartState). AreInside memory o.buffer) (sym (went_none memory h)) i;
    }
goes_by memory stores (suc k) h i p =
    let g = gone memory h in
    let r : Goes memory k g = goes_by memory stores k g (inside_gone memory h i) (passed_gone memory h stores k p.0 p.2) in
    let e : went_on memory k g ≡ went_on memory (suc k) h = went_more memory h p.0 k in
    record {
      sees = ap (seen memory) (sym e) ∙ r.sees ∙ ap (steps k) (seen_gone memory h p.0) ∙ steps-shift k (seen memory h);
      owes = ap (λ (o : HartState). length o.buffer) (sym e) ∙ r.owes ∙ ap (λ (t : State). owed_after k t (length g.buffer)) (seen_gone memory h p.0) ∙ ap (λ n. owed_after k (step (seen memory h)) n) (length_gone memory h);
      inside = subst (λ (o : HartState). AreInside memory o.buffer) e r.inside;
    }

-- ---- replays

append_by : (xs ys : List Action) → ((t : Harts) → replay (xs ++ ys) t ≡ option_and_then (replay ys) (replay xs t)) → (o : Option Harts) → option_and_then (replay (xs ++ ys)) o ≡ option_and_then (replay ys) (option_and_then (replay xs) o)
append_by xs ys ih None = refl
append_by xs ys ih (Some t) = ih t

pub replay_append : (xs ys : List Action) (s : Harts) → replay (xs ++ ys) s ≡ option_and_then (replay ys) (replay xs s)
replay_append [] ys s = refl
replay_append (a ∷ xs) ys s = append_by xs ys (replay_append xs ys) (acted a s)

-- two replays one after the other
pub replay_then : (xs ys : List Action) (s t u : Harts) → replay xs s ≡ Some t → replay ys t ≡ Some u → replay (xs ++ ys) s ≡ Some u
replay_then xs ys s t u a b = replay_append xs ys s ∙ ap (option_and_then (replay ys)) a ∙ b

-- the action a is that of a hart which stands at a place of the harts
pub replays :
    (memory : Bytes) (stores : ℕ) (place : HartState → Harts) (a : Action)
    → ((h : HartState) → acted a (place h) ≡ where_possible (may_go memory h) (place (gone memory h)))
    → (k : ℕ) (h : HartState)
    → AreInside memory h.buffer
    → Passed fences_wait stores k (seen memory h) (length h.buffer)
    → replay (replicate k a) (place h) ≡ Some (place (went_on memory k h))
replays memory stores place a is zero h i p = ap (λ (o : HartState). Some (place o)) (sym (went_none memory h))
replays memory stores place a is (suc k) h i p =
    ap (option_and_then (replay (replicate k a))) (is h ∙ ap (λ (b : Bool). where_possible b (place (gone memory h))) (may memory h stores p.0 p.1))
    ∙ replays memory stores place a is k (gone memory h) (inside_gone memory h i) (passed_gone memory h stores k p.0 p.2)
    ∙ ap (λ (o : HartState). Some (place o)) (went_more memory h p.0 k)

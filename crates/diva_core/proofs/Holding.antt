-- How long a ready claim is held up; and what runs solo commits in its sixth cycle.
use Rattle.std.proofs.Common.{◌≡◌, ◌≢◌, ℕ, zero, suc, ◌+◌, ◌-◌, ◌%◌, ◌<◌, ◌≤◌, Bool, true, false, List, ◌∷◌, Option, Some, None, refl, ap, sym, ◌∙◌, arith, subst, get_or, ◌⊎◌, inl, inr, if◌then◌else◌}
use Rattle.std.proofs.lemmas.Bool.{and_parts, cases_lt, cond_both, eqb-false, eqb-true, le-leb}
use Rattle.std.proofs.lemmas.Option.{none-some, same_Some}
use Rattle.diva_isa.specs.State.{State, goes_on}
use Rattle.diva_isa.specs.declared.record.Record.{Record}
use Rattle.diva_isa.specs.Step.{record_of}
use Rattle.diva_core.specs.declared.differences.Diff.{Diff}
use Rattle.diva_core.specs.Difference.{field_of, first_difference}
use Rattle.diva_core.specs.Timed.{Log, Timed, PendingClaim, depth}
use Rattle.diva_core.specs.Cycle.{Judgement, begun, by_difference, by_front, by_judgement, by_solo, commits_under, cycle_of, drained, flushed, judged_under, judgement_under, past_front, port_opens, puts_store, stores_wait}
use Rattle.diva_core.specs.Machine.{IsMachine}
use Rattle.diva_core.specs.Headline.{IsHeld, IsJudged}
use Rattle.diva_core.proofs.Commits.{Commits}
use Rattle.diva_core.proofs.Differing.{difference-none, difference-some}
use Rattle.diva_core.proofs.Judging.{past-counts}
use Rattle.diva_core.proofs.Cycling.{Base, Cycled, Differed, Unjudged, barks, cycled, differed, ended, finished, idled, ran, waited}

-- ---- where the commit phase neither counts nor flushes

-- what is owed is all that may be, and none of it went to memory
none_drained : (opens : Bool) (owed stores : ℕ) → owed ≤ stores → 1 ≤ stores → (if opens then owed - 1 else owed) ≡ stores → (owed ≡ stores) × (opens ≡ false)
none_drained true owed stores most some h = absurd (omega arith)
none_drained false owed stores most some h = (h, refl)

held_up : (b : Timed) → IsMachine b → stores_wait b.config.stores (drained (begun b)).owed (record_of b.arch) ≡ true → IsHeld b
unfolding drained
held_up b inv waits =
    let both = and_parts (puts_store (record_of b.arch)) _ waits in
    let all = none_drained (port_opens (begun b)) b.owed b.config.stores inv.owed inv.config.stores_low (eqb-true _ _ both.1) in
    record { store = both.0; full = all.0; closed = all.1 }

by_found :
    (b : Timed) (n : ℕ) (p : PendingClaim) (o : Option Diff)
    → IsMachine b
    → first_difference p.claim (record_of b.arch) ≡ o
    → (let m = drained (begun b) in
    let next = by_judgement m (judged_under stores_wait n (past_front m)) (by_difference stores_wait m o) in
    next.count ≡ b.count → next.under.log.flushes ≡ b.under.log.flushes → (p.claim ≡ record_of b.arch) × IsHeld b)
unfolding drained flushed
by_found b n p (Some d) inv is count flushes = absurd (omega arith)
by_found b n p None inv is count flushes =
    cond_both (stores_wait b.config.stores (drained (begun b)).owed (record_of b.arch)) _ _
    (λ (w : Judgement). (by_judgement (drained (begun b)) (judged_under stores_wait n (past_front (drained (begun b)))) w).count ≡ b.count → (p.claim ≡ record_of b.arch) × IsHeld b)
    (λ waits same. (difference-none p.claim (record_of b.arch) is, held_up b inv waits))
    (λ free same. absurd (let more = past-counts stores_wait n (drained (begun b)) in omega arith))
    count

-- a ready front claim is held up, and equals the due record
pub front_held : (b : Timed) (p : PendingClaim) (rest : List PendingClaim) → IsMachine b → b.under.solo ≡ None → b.under.pending ≡ p ∷ rest → p.cycle + depth ≤ b.cycles + 1 → Unjudged stores_wait b → (p.claim ≡ record_of b.arch) × IsHeld b
unfolding drained commits_under
front_held b p rest inv none e ready u =
    let m : Timed = drained (begun b) in
    let n : ℕ = b.config.width - 1 in
    let one : b.config.width ≡ suc n = (let low = inv.config.width_low in omega arith) in
    let is : judgement_under stores_wait m ≡ by_difference stores_wait m (first_difference p.claim (record_of m.arch)) = ap (by_front stores_wait m) e ∙ rw (le-leb (p.cycle + depth) (b.cycles + 1) ready) refl in
    let same : commits_under stores_wait m ≡ by_judgement m (judged_under stores_wait n (past_front m)) (by_difference stores_wait m (first_difference p.claim (record_of m.arch))) =
    ap (by_solo stores_wait m) none ∙ ap (λ k. judged_under stores_wait k m) one ∙ ap (by_judgement m (judged_under stores_wait n (past_front m))) is in
    by_found b n p (first_difference p.claim (record_of b.arch)) inv refl (ap (λ z. z.count) (sym same) ∙ u.count) (ap (λ (z : Timed). z.under.log.flushes) (sym same) ∙ u.flushes)

-- so the front claim is not ready, or the port does not open
pub not_yet : (b : Timed) (p : PendingClaim) (rest : List PendingClaim) → IsMachine b → b.under.solo ≡ None → b.under.pending ≡ p ∷ rest → Unjudged stores_wait b → (b.cycles + 1 < p.cycle + depth) ⊎ ((b.cycles + 1) % b.config.port ≢ 0)
not_yet b p rest inv none e u =
    elim (cases_lt (b.cycles + 1) (p.cycle + depth)) [
      | inl young ↦ inl young
      | inr ready ↦ inr (eqb-false _ _ (front_held b p rest inv none e ready u).1.closed)
    ]

-- ---- the front claim

kept : (b n : Timed) (p : PendingClaim) (rest : List PendingClaim) → IsMachine b → b.under.solo ≡ None → b.under.pending ≡ p ∷ rest → p.cycle + depth ≤ b.cycles + 1 → Unjudged stores_wait b → IsJudged b n p
kept b n p rest inv none e ready u =
    let held = front_held b p rest inv none e ready u in
    record { equal = λ same. inr held.1; unequal = λ other. absurd (other held.0) }

first-commits : (k : ℕ) (s : State) (c : ℕ) (xs : List PendingClaim) (p : PendingClaim) (rest after : List PendingClaim) → xs ≡ p ∷ rest → Commits (suc k) s c xs after → p.claim ≡ record_of s
first-commits k s c xs p rest after e h = (subst (λ z. Commits (suc k) s c z after) e h).0

rose : (b n : Timed) (p : PendingClaim) (k : ℕ) (rest after : List PendingClaim) (c : ℕ) → Base stores_wait b n (suc k) → b.under.pending ≡ p ∷ rest → Commits (suc k) b.arch c b.under.pending after → IsJudged b n p
rose b n p k rest after c v e h =
    record { equal = λ same. inl (let x = v.counted in omega arith); unequal = λ other. absurd (other (first-commits k b.arch c b.under.pending p rest after e h)) }

front-differs : (b n : Timed) (p q : PendingClaim) (rest after : List PendingClaim) → b.under.pending ≡ p ∷ rest → (q ∷ after) ≡ b.under.pending → q ≡ p
front-differs b n p q rest after e f = ap (λ xs. get_or xs 0 q) (f ∙ e)

judged-differed : (b n : Timed) (p : PendingClaim) (rest : List PendingClaim) (k : ℕ) (r : Differed stores_wait b n) → r.k ≡ k → b.under.pending ≡ p ∷ rest → IsJudged b n p
judged-differed b n p rest zero r none e =
    let v : Base stores_wait b n 0 = subst (Base stores_wait b n) none r.base in
    let differs = difference-some r.p.claim (record_of n.arch) r.d r.first in
    let c : (r.p ∷ r.rest) ≡ b.under.pending = subst (λ k. Commits k b.arch (b.cycles + 1) b.under.pending (r.p ∷ r.rest)) none r.claims in
    let q : r.p ≡ p = front-differs b n p r.p rest r.rest e c in
    record {
      equal = λ same. absurd (differs.differ (differs.claims ∙ ap (field_of r.d.field) (ap (λ w. w.claim) q ∙ same ∙ ap record_of (sym v.stepped)) ∙ sym differs.dues));
      unequal = λ other. ((let x = v.counted in omega arith), ap (λ (l : Log). l.flushes) r.log, (let s = ap (λ (l : Log). l.silent) r.log in omega arith));
    }
judged-differed b n p rest (suc k) r more e =
    rose b n p k rest (r.p ∷ r.rest) (b.cycles + 1) (subst (Base stores_wait b n) more r.base) e (subst (λ k. Commits k b.arch (b.cycles + 1) b.under.pending (r.p ∷ r.rest)) more r.claims)

judged-cases : (b : Timed) (list : List Record) (n : Timed) (p : PendingClaim) (rest : List PendingClaim) → IsMachine b → b.under.solo ≡ None → b.under.pending ≡ p ∷ rest → p.cycle + depth ≤ b.cycles + 1 → Cycled stores_wait b list n → IsJudged b n p
judged-cases b list n p rest inv none e ready (idled r) = kept b n p rest inv none e ready r.unjudged
judged-cases b list n p rest inv none e ready (ran r) = rose b n p r.k rest r.rest (b.cycles + 1) r.base e r.claims
judged-cases b list n p rest inv none e ready (barks r) = kept b n p rest inv none e ready r.unjudged
judged-cases b list n p rest inv none e ready (differed r) = judged-differed b n p rest r.k r refl e
judged-cases b list n p rest inv none e ready (ended r) = rose b n p r.k rest r.rest (b.cycles + 1) r.base e r.claims
judged-cases b list n p rest inv none e ready (finished r) = absurd (none-some _ (sym none ∙ r.since))
judged-cases b list n p rest inv none e ready (waited r) = absurd (none-some _ (sym none ∙ r.since))

pub front_judged : (m : Timed) (list : List Record) (p : PendingClaim) (rest : List PendingClaim) → IsMachine m → goes_on m.arch ≡ true → m.under.solo ≡ None → m.under.pending ≡ p ∷ rest → p.cycle + depth ≤ m.cycles + 1 → IsJudged m (cycle_of m list) p
front_judged m list p rest inv on none e ready = judged-cases m list _ p rest inv none e ready (cycled m list inv on)

pub sixth-cases : (b : Timed) (list : List Record) (n : Timed) (start : ℕ) → b.under.solo ≡ Some start → b.cycles + 1 ≡ start + depth → Cycled stores_wait b list n → (n.count ≡ b.count + 1) × (n.under.solo ≡ None)
sixth-cases b list n start some sixth (idled r) = absurd (none-some _ (sym r.was ∙ some))
sixth-cases b list n start some sixth (ran r) = absurd (none-some _ (sym r.was ∙ some))
sixth-cases b list n start some sixth (barks r) = absurd (none-some _ (sym r.was ∙ some))
sixth-cases b list n start some sixth (differed r) = absurd (none-some _ (sym r.was ∙ some))
sixth-cases b list n start some sixth (ended r) = absurd (none-some _ (sym r.was ∙ some))
sixth-cases b list n start some sixth (finished r) = (r.base.counted, r.solo)
sixth-cases b list n start some sixth (waited r) = absurd (r.early (sixth ∙ ap (λ z. z + depth) (same_Some _ _ (sym some ∙ r.since))))

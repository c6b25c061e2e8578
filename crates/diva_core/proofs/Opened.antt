-- A claim at the front is held up no longer than until the port opens.
use Rattle.std.proofs.Common.{◌≡◌, ◌≢◌, ◌+◌, ◌%◌, ◌<◌, ◌≤◌, true, List, [], ◌∷◌, ◌++◌, length, None, ap, sym, ◌∙◌, arith, ◌⊎◌, inl, inr, subst}
use Rattle.std.proofs.lemmas.Option.{none-some}
use Rattle.diva_isa.specs.State.{goes_on}
use Rattle.diva_isa.specs.declared.record.Record.{Record}
use Rattle.diva_core.specs.Timed.{Log, Config, PendingClaim, Timed, depth}
use Rattle.diva_core.specs.Cycle.{cycle_of, run_of, stores_wait}
use Rattle.diva_core.specs.Machine.{IsMachine}
use Rattle.diva_core.specs.Headline.{SameLog, WillJudge}
use Rattle.diva_core.proofs.Cycling.{Cycled, barks, cycled, differed, ended, finished, idled, ran, taken, waited}
use Rattle.diva_core.proofs.Holding.{not_yet}
use Rattle.diva_core.proofs.Keeping.{stays}
use Rattle.diva_core.proofs.Outcomes.{logs}
use Rattle.diva_core.proofs.Progressing.{run-rises, same-config}
use Rattle.diva_core.proofs.Rows.{AddsRow}

-- a claim committed, or the machine flushed
abbrev Moved : Timed → Timed → Type 0
Moved b n = (b.count < n.count) ⊎ (b.under.log.flushes < n.under.log.flushes)

-- the log grows
log-grows : (b n : Timed) → SameLog b n ⊎ AddsRow b n → b.under.log.flushes ≤ n.under.log.flushes
log-grows b n (inl s) = let f = ap (λ (l : Log). l.flushes) s in omega arith
log-grows b n (inr a) = let f = ap (λ (l : Log). l.flushes) a.is.has in omega arith

run-grows : (m : Timed) (lists : List (List Record)) → IsMachine m → m.under.log.flushes ≤ (run_of m lists).under.log.flushes
run-grows m [] inv = omega arith
run-grows m (list ∷ rest) inv =
    let one = log-grows m (cycle_of m list) (logs m list inv) in
    let more = run-grows (cycle_of m list) rest (stays m list inv) in
    omega arith

moved-later : (b n last : Timed) → n.count ≤ last.count → n.under.log.flushes ≤ last.under.log.flushes → Moved b n → Moved b last
moved-later b n last c f (inl h) = inl (omega arith)
moved-later b n last c f (inr h) = inr (omega arith)

-- the front claim stays at the front of a machine that goes on
record StaysFront (b n : Timed) (p : PendingClaim) : Type 0 where
  rest : List PendingClaim
  pending : n.under.pending ≡ p ∷ rest
  solo : n.under.solo ≡ None
  on : goes_on n.arch ≡ true
  cycles : n.cycles ≡ b.cycles + 1
  count : n.count ≡ b.count
  flushes : n.under.log.flushes ≡ b.under.log.flushes
  -- it was not ready, or the port did not open
  late : (b.cycles + 1 < p.cycle + depth) ⊎ ((b.cycles + 1) % b.config.port ≢ 0)

front-cases :
    (b : Timed) (list : List Record) (n : Timed) (p : PendingClaim) (rest : List PendingClaim)
    → IsMachine b
    → goes_on b.arch ≡ true
    → b.under.solo ≡ None
    → b.under.pending ≡ p ∷ rest
    → Cycled stores_wait b list n
    → Moved b n ⊎ StaysFront b n p
front-cases b list n p rest inv on none e (idled r) =
    inr (record {
      rest = rest ++ taken b list;
      pending = r.pending ∙ ap (λ (xs : List PendingClaim). xs ++ taken b list) e;
      solo = r.solo;
      on = ap goes_on r.base.stepped ∙ on;
      cycles = r.base.cycles;
      count = (let c = r.base.counted in omega arith);
      flushes = ap (λ (l : Log). l.flushes) r.log;
      late = not_yet b p rest inv none e r.unjudged;
    })
front-cases b list n p rest inv on none e (ran r) = inl (inl (let c = r.base.counted in omega arith))
front-cases b list n p rest inv on none e (barks r) = inl (inr (let f = ap (λ (l : Log). l.flushes) r.log in omega arith))
front-cases b list n p rest inv on none e (differed r) = inl (inr (let f = ap (λ (l : Log). l.flushes) r.log in omega arith))
front-cases b list n p rest inv on none e (ended r) = inl (inl (let c = r.base.counted in omega arith))
front-cases b list n p rest inv on none e (finished r) = absurd (none-some _ (sym none ∙ r.since))
front-cases b list n p rest inv on none e (waited r) = absurd (none-some _ (sym none ∙ r.since))

judged-by :
    (m : Timed) (list : List Record) (lists : List (List Record)) (p : PendingClaim) (rest : List PendingClaim)
    → IsMachine m
    → goes_on m.arch ≡ true
    → m.under.solo ≡ None
    → m.under.pending ≡ p ∷ rest
    → p.cycle + depth ≤ m.cycles + length (list ∷ lists)
    → (m.cycles + length (list ∷ lists)) % m.config.port ≡ 0
    → Moved m (cycle_of m list) ⊎ StaysFront m (cycle_of m list) p
    → Moved m (run_of m (list ∷ lists))
judged-by m list lists p rest inv on none e ready opens (inl moved) =
    moved-later m (cycle_of m list) (run_of m (list ∷ lists)) (run-rises (cycle_of m list) lists (stays m list inv)).counted (run-grows (cycle_of m list) lists (stays m list inv)) moved
judged-by m list [] p rest inv on none e ready opens (inr s) =
    absurd (elim s.late [ inl young ↦ omega arith | inr closed ↦ closed opens ])
judged-by m list (next ∷ lists) p rest inv on none e ready opens (inr s) =
    let n : Timed = cycle_of m list in
    let long : m.cycles + length (list ∷ next ∷ lists) ≡ n.cycles + length (next ∷ lists) = (let c = s.cycles in omega arith) in
    let port : m.config.port ≡ n.config.port = ap (λ (z : Config). z.port) (sym (same-config m list inv)) in
    let later : Moved n (run_of n (next ∷ lists)) =
    judged-by n next lists p s.rest (stays m list inv) s.on s.solo s.pending (subst (λ k. p.cycle + depth ≤ k) long ready)
    (subst (λ k. k % n.config.port ≡ 0) long (subst (λ q. (m.cycles + length (list ∷ next ∷ lists)) % q ≡ 0) port opens))
    (front-cases n next (cycle_of n next) p s.rest (stays m list inv) s.on s.solo s.pending (cycled n next (stays m list inv) s.on)) in
    elim later [ inl h ↦ inl (let c = s.count in omega arith) | inr h ↦ inr (let f = s.flushes in omega arith) ]

pub will_judge : (m : Timed) → IsMachine m → WillJudge m
will_judge m inv on none p rest e list lists ready opens =
    judged-by m list lists p rest inv on none e ready opens (front-cases m list (cycle_of m list) p rest inv on none e (cycled m list inv on))

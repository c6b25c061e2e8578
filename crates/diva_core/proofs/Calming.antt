-- A right list leaves a calm machine calm, and its flushes as they were.
use Rattle.std.proofs.Common.{◌≡◌, ◌≢◌, ℕ, zero, suc, ◌+◌, ◌%◌, ◌<◌, ◌≤◌, max, ◌⊎◌, true, List, [], ◌∷◌, ◌++◌, map, take, length, Some, None, refl, ap, sym, ◌∙◌, arith, inl, inr, subst}
use Rattle.std.specs.Int.{next_multiple_of}
use Rattle.std.proofs.lemmas.List.{length-map, map-append}
use Rattle.std.proofs.lemmas.Bool.{true≢false, le-leb, lt-ltb, cases_lt}
use Rattle.std.proofs.lemmas.Option.{none-some, same_Some}
use Rattle.diva_isa.specs.State.{State, goes_on}
use Rattle.diva_isa.specs.declared.record.Record.{Record}
use Rattle.diva_isa.specs.Step.{record_of, step, steps}
use Rattle.diva_core.specs.Difference.{field_of}
use Rattle.diva_core.specs.Timed.{Timed, PendingClaim, room_of, is_due, depth}
use Rattle.diva_core.specs.Cycle.{accepted_in, cycle_of, stores_wait}
use Rattle.diva_core.specs.Machine.{ArePast, IsConfig, IsMachine, most_config}
use Rattle.diva_core.specs.Right.{AreDue, IsRight, wait_by, claim_of, IsCalmRunning, IsCalm, StaysCalm}
use Rattle.diva_core.proofs.Commits.{Commits}
use Rattle.diva_core.proofs.Differing.{difference-some}
use Rattle.diva_core.proofs.Steps.{steps-shift, steps-add}
use Rattle.diva_core.proofs.Cycling.{Cycled, Unjudged, cycled, Differed, idled, ran, barks, differed, ended, finished, waited, taken}
use Rattle.diva_core.proofs.Holding.{not_yet}
use Rattle.diva_core.proofs.Opening.{opening_later, opening_near}
use Rattle.diva_core.proofs.Outcomes.{by-cases}
use Rattle.diva_core.proofs.Keeping.{length-commits, stays}

-- ---- due claims, by recursion

abbrev pub AreDueFrom : State → List Record → Type 0
AreDueFrom s [] = Unit {0}
AreDueFrom s (p ∷ rest) = (goes_on s ≡ true → p ≡ record_of s) × AreDueFrom (step s) rest

pub due_at : (s : State) (xs : List Record) → AreDueFrom s xs → AreDue s xs
due_at s [] a j h on = absurd (omega arith)
due_at s (p ∷ xs) a zero h on = ap Some (a.0 on)
due_at s (p ∷ xs) a (suc j) h on = due_at (step s) xs a.1 j (omega arith) (ap goes_on (steps-shift j s) ∙ on) ∙ ap (λ t. Some (record_of t)) (steps-shift j s)

pub due_from : (s : State) (xs : List Record) → AreDue s xs → AreDueFrom s xs
due_from s [] f = tt
due_from s (p ∷ xs) f =
    (λ on. same_Some _ _ (f zero (omega arith) on), due_from (step s) xs (λ j h on. f (suc j) (omega arith) (ap goes_on (sym (steps-shift j s)) ∙ on) ∙ ap (λ t. Some (record_of t)) (sym (steps-shift j s))))

AreDueFrom-append : (s : State) (xs ys : List Record) → AreDueFrom s xs → AreDueFrom (steps (length xs) s) ys → AreDueFrom s (xs ++ ys)
AreDueFrom-append s [] ys a b = b
AreDueFrom-append s (p ∷ xs) ys a b = (a.0, AreDueFrom-append (step s) xs ys a.1 (subst (λ t. AreDueFrom t ys) (sym (steps-shift (length xs) s)) b))

-- what is left after commits is due
AreDueFrom-commits : (k : ℕ) (s : State) (c : ℕ) (xs rest : List PendingClaim) → Commits k s c xs rest → AreDueFrom s (map claim_of xs) → AreDueFrom (steps k s) (map claim_of rest)
AreDueFrom-commits zero s c xs rest h a = subst (λ r. AreDueFrom s (map claim_of r)) (sym h) a
AreDueFrom-commits (suc k) s c [] rest h a = absurd h
AreDueFrom-commits (suc k) s c (p ∷ xs) rest h a = subst (λ t. AreDueFrom t (map claim_of rest)) (steps-shift k s) (AreDueFrom-commits k (step s) c xs rest h.2 a.1)

pub claims-taken : (c : ℕ) (xs : List Record) → map claim_of (map (accepted_in c) xs) ≡ xs
claims-taken c [] = refl
claims-taken c (p ∷ xs) = ap (λ r. p ∷ r) (claims-taken c xs)

-- what waits after a cycle is due
AreDueFrom-more :
    (b : Timed) (list : List Record) (k : ℕ) (rest : List PendingClaim)
    → Commits k b.arch (b.cycles + 1) b.under.pending rest
    → AreDueFrom b.arch (map claim_of b.under.pending)
    → AreDueFrom (steps (length b.under.pending) b.arch) (take (room_of b) list)
    → AreDueFrom (steps k b.arch) (map claim_of (rest ++ taken b list))
AreDueFrom-more b list k rest h a r =
    rw (map-append, claims-taken) (AreDueFrom-append (steps k b.arch) (map claim_of rest) (take (room_of b) list) (AreDueFrom-commits k b.arch (b.cycles + 1) b.under.pending rest h a) (subst (λ t. AreDueFrom t (take (room_of b) list)) (ap (λ n. steps n b.arch) (lengths k rest h) ∙ steps-add k (length rest) b.arch ∙ ap (λ n. steps n (steps k b.arch)) (sym (length-map rest claim_of))) r))
  where
    lengths : (k : ℕ) (rest : List PendingClaim) → Commits k b.arch (b.cycles + 1) b.under.pending rest → length b.under.pending ≡ k + length rest
    lengths k rest h = let e = length-commits k b.arch (b.cycles + 1) b.under.pending rest h in omega arith

-- the wait of a machine in which the front claim was accepted in the past
wait-most : (m : Timed) (xs : List PendingClaim) → IsConfig m.config → ArePast m.cycles xs → wait_by m xs ≤ depth + most_config.port
wait-most m [] ok a = let high = ok.port_high in omega arith
wait-most m (p ∷ xs) ok a =
    let past = a.0 in
    let high = ok.port_high in
    let near = opening_near (max (m.cycles + 1) (p.cycle + depth)) m.config.port ok.port_low ok.port_high in
    omega (arith, near.1)

-- a calm machine flushes for no claim
pub no-difference : (b n : Timed) (d : Differed stores_wait b n) → AreDueFrom b.arch (map claim_of b.under.pending) → ⊥
no-difference b n r a =
    let front : AreDueFrom (steps r.k b.arch) (map claim_of (r.p ∷ r.rest)) = AreDueFrom-commits r.k b.arch (b.cycles + 1) b.under.pending (r.p ∷ r.rest) r.claims a in
    let same : r.p.claim ≡ record_of (steps r.k b.arch) = front.0 (ap goes_on (sym r.base.stepped) ∙ r.on) in
    let differs = difference-some r.p.claim (record_of n.arch) r.d r.first in
    differs.differ (differs.claims ∙ ap (field_of r.d.field) (same ∙ ap record_of (sym r.base.stepped)) ∙ sym differs.dues)

AreDueFrom-at : (s t : State) (xs ys : List PendingClaim) → s ≡ t → xs ≡ ys → AreDueFrom t (map claim_of ys) → AreDueFrom s (map claim_of xs)
AreDueFrom-at s t xs ys e f a = rw (e, f) a

-- the front of these claims is not ready in the coming cycle, or the port does not open
abbrev pub NotYet : Timed → List PendingClaim → Type 0
NotYet b xs = (p : PendingClaim) (rest : List PendingClaim) → xs ≡ p ∷ rest → (b.cycles + 1 < p.cycle + depth) ⊎ ((b.cycles + 1) % b.config.port ≢ 0)

-- then the wait is the same from the next cycle on
wait-on :
    (c a p : ℕ)
    → 1 ≤ p
    → p ≤ 6
    → (c < a) ⊎ (c % p ≢ 0)
    → (next_multiple_of (max c a) p ≡ next_multiple_of (max (c + 1) a) p) × (c + 1 ≤ next_multiple_of (max c a) p)
wait-on c a p low high h =
    elim (cases_lt c a) [
      | inl young ↦
          let same : max c a ≡ max (c + 1) a = omega arith in
          let near = opening_near (max c a) p low high in
          (ap (λ n. next_multiple_of n p) same, omega (arith, near.0))
      | inr ready ↦
          let here : max c a ≡ c = omega arith in
          let next : max (c + 1) a ≡ c + 1 = omega arith in
          let closed : c % p ≢ 0 = elim h [ inl young ↦ absurd (omega arith) | inr closed ↦ closed ] in
          let later = opening_later c p low high closed in
          let near = opening_near (c + 1) p low high in
          rw (here, next) (later, omega (arith, later, near.0))
    ]

pub wait-least : (b : Timed) (xs : List PendingClaim) → IsConfig b.config → NotYet b xs → 2 ≤ wait_by b xs
wait-least b [] ok late = let low = ok.port_low in omega arith
wait-least b (p ∷ rest) ok late = let on = wait-on (b.cycles + 1) (p.cycle + depth) b.config.port ok.port_low ok.port_high (late p rest refl) in omega (arith, on.1)

-- one cycle less is to wait
wait-after :
    (b n : Timed) (xs : List PendingClaim) (zs : List Record) (limit : ℕ)
    → IsConfig b.config
    → n.config.port ≡ b.config.port
    → n.cycles ≡ b.cycles + 1
    → NotYet b xs
    → (xs ≡ [] → zs ≡ [] → b.under.idle + (depth + b.config.port) < limit)
    → b.under.idle + wait_by b xs ≤ limit
    → b.under.idle + 1 + wait_by n (xs ++ map (accepted_in (b.cycles + 1)) zs) ≤ limit
wait-after b n [] [] limit ok same c late empty w = let h = empty refl refl in omega arith
wait-after b n [] (z ∷ zs) limit ok same c late empty w =
    let ready : max (n.cycles + 1) (b.cycles + 1 + depth) ≡ b.cycles + 7 = omega arith in
    let near = opening_near (b.cycles + 7) b.config.port ok.port_low ok.port_high in
    rw (ready, same) (omega (arith, near.1))
wait-after b n (p ∷ xs) zs limit ok same c late empty w =
    let on = wait-on (b.cycles + 1) (p.cycle + depth) b.config.port ok.port_low ok.port_high (late p xs refl) in
    rw (same, c) (omega (arith, on.0, on.1))

pub room-some : (b : Timed) → IsMachine b → b.under.solo ≡ None → goes_on b.arch ≡ true → b.under.pending ≡ [] → 1 ≤ room_of b
room-some b inv none on e = rw (none, on, e) (let w = inv.config.width_low in let q = inv.config.window_low in omega arith)

pub take-none : (r : ℕ) (list : List Record) → 1 ≤ r → take r list ≡ [] → list ≡ []
take-none zero list h e = absurd (omega arith)
take-none (suc r) [] h e = refl
take-none (suc r) (p ∷ list) h e = absurd (grind arith)

due-is : (b : Timed) → IsMachine b → b.under.solo ≡ None → goes_on b.arch ≡ true → b.under.pending ≡ [] → b.config.limit ≤ b.under.idle + (depth + b.config.port) → is_due b ≡ true
due-is b inv none on e h = rw (le-leb b.config.limit (b.under.idle + (depth + b.config.port)) h, lt-ltb 0 (room_of b) (room-some b inv none on e), e) refl

not-due : (b : Timed) (list : List Record) → IsMachine b → goes_on b.arch ≡ true → b.under.solo ≡ None → IsRight b list → b.under.pending ≡ [] → take (room_of b) list ≡ [] → b.under.idle + (depth + b.config.port) < b.config.limit
not-due b list inv on none right e t =
    elim (cases_lt (b.under.idle + (depth + b.config.port)) b.config.limit) [
      | inl h ↦ h
      | inr h ↦ absurd (right.prompt (due-is b inv none on e h) (take-none (room_of b) list (room-some b inv none on e) t))
    ]

pub not-yet : (b : Timed) → IsMachine b → b.under.solo ≡ None → Unjudged stores_wait b → NotYet b b.under.pending
not-yet b inv none u p rest e = not_yet b p rest inv none e u

calm-cases : (b : Timed) (list : List Record) (n : Timed) → IsMachine b → IsMachine n → goes_on b.arch ≡ true → IsCalmRunning b → IsRight b list → Cycled stores_wait b list n → StaysCalm b n
calm-cases b list n inv after on quiet right (idled r) =
    let l : n.config.limit ≡ b.config.limit = ap (λ z. z.limit) r.base.config in
    record {
      calm = λ still. record {
        running = r.solo;
        claims = due_at _ _ (AreDueFrom-at n.arch b.arch n.under.pending (b.under.pending ++ taken b list) r.base.stepped r.pending (AreDueFrom-more b list 0 b.under.pending refl (due_from _ _ quiet.claims) (due_from _ _ right.claims)));
        waits = rw (r.idle, r.pending, l) (wait-after b n b.under.pending (take (room_of b) list) b.config.limit inv.config (ap (λ z. z.port) r.base.config) r.base.cycles (not-yet b inv r.was r.unjudged) (not-due b list inv on r.was right) quiet.waits);
      };
      log = r.log;
    }
calm-cases b list n inv after on quiet right (ran r) =
    let most = wait-most n n.under.pending after.config after.past in
    let low = after.config.limit_low in
    record {
      calm = λ still. record {
        running = r.solo;
        claims = due_at _ _ (AreDueFrom-at n.arch (steps (suc r.k) b.arch) n.under.pending (r.rest ++ taken b list) r.base.stepped r.pending (AreDueFrom-more b list (suc r.k) r.rest r.claims (due_from _ _ quiet.claims) (due_from _ _ right.claims)));
        waits = (let i = r.idle in omega arith);
      };
      log = r.log;
    }
calm-cases b list n inv after on quiet right (barks r) =
    absurd (let w = quiet.waits in let two = wait-least b b.under.pending inv.config (not-yet b inv r.was r.unjudged) in let i = r.idle in let late = r.late in omega arith)
calm-cases b list n inv after on quiet right (differed r) = absurd (no-difference b n r (due_from _ _ quiet.claims))
calm-cases b list n inv after on quiet right (ended r) = record { calm = λ still. absurd (true≢false (sym still ∙ r.off)); log = r.log }
calm-cases b list n inv after on quiet right (finished r) = absurd (none-some _ (sym quiet.running ∙ r.since))
calm-cases b list n inv after on quiet right (waited r) = absurd (none-some _ (sym quiet.running ∙ r.since))

pub stays_calm : (m : Timed) (list : List Record) → IsMachine m → IsCalm m → IsRight m list → StaysCalm m (cycle_of m list)
stays_calm m list inv calm right =
    by-cases (StaysCalm m) m list inv (λ on c. calm-cases m list _ inv (stays m list inv) on (calm on) right c) (λ off. record { calm = calm; log = refl })

-- what is left when the instruction that ran solo commits
pub record Fresh (n : Timed) : Type 0 where
  pub calm : IsCalm n
  pub pending : n.under.pending ≡ []

fresh-cases : (b : Timed) (list : List Record) (n : Timed) (start : ℕ) → IsMachine n → b.under.solo ≡ Some start → b.cycles + 1 ≡ start + depth → Cycled stores_wait b list n → Fresh n
fresh-cases b list n start after some sixth (idled r) = absurd (none-some _ (sym r.was ∙ some))
fresh-cases b list n start after some sixth (ran r) = absurd (none-some _ (sym r.was ∙ some))
fresh-cases b list n start after some sixth (barks r) = absurd (none-some _ (sym r.was ∙ some))
fresh-cases b list n start after some sixth (differed r) = absurd (none-some _ (sym r.was ∙ some))
fresh-cases b list n start after some sixth (ended r) = absurd (none-some _ (sym r.was ∙ some))
fresh-cases b list n start after some sixth (finished r) =
    let most = wait-most n n.under.pending after.config after.past in
    let low = after.config.limit_low in
    record {
      calm = λ still. record { running = r.solo; claims = due_at _ _ (subst (λ xs. AreDueFrom n.arch (map claim_of xs)) (sym r.pending) tt); waits = (let i = r.idle in omega arith) };
      pending = r.pending;
    }
fresh-cases b list n start after some sixth (waited r) = absurd (r.early (sixth ∙ ap (λ z. z + depth) (same_Some _ _ (sym some ∙ r.since))))

pub solo_fresh : (m : Timed) (list : List Record) (start : ℕ) → IsMachine m → goes_on m.arch ≡ true → m.under.solo ≡ Some start → m.cycles + 1 ≡ start + depth → Fresh (cycle_of m list)
solo_fresh m list start inv on some sixth = fresh-cases m list _ start (stays m list inv) some sixth (cycled m list inv on)

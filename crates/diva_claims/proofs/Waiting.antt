-- How long the claim of a line waits: the watchdog does not bark before it is judged.
use Rattle.std.proofs.Common.{◌≡◌, ◌≢◌, ℕ, zero, suc, ◌+◌, ◌%◌, ◌≤◌, true, List, [], ◌∷◌, ◌++◌, map, take, Option, Some, None, ap, sym, ◌∙◌, refl, arith, subst, inl, inr}
use Rattle.std.specs.Int.{next_multiple_of}
use Rattle.std.proofs.lemmas.Bool.{cases_lt, lt-ltb}
use Rattle.diva_isa.specs.State.{goes_on}
use Rattle.diva_isa.specs.declared.record.Record.{Record}
use Rattle.diva_isa.specs.Step.{record_of}
use Rattle.diva_core.specs.Timed.{Timed, Config, PendingClaim, depth, room_of}
use Rattle.diva_core.specs.Cycle.{accepted_in, stores_wait}
use Rattle.diva_core.specs.Machine.{IsMachine, IsConfig}
use Rattle.diva_core.proofs.Calming.{room-some}
use Rattle.diva_core.proofs.Cycling.{Barked, Idled, taken}
use Rattle.diva_core.proofs.Holding.{not_yet}
use Rattle.diva_core.proofs.Opening.{opening_near}
use Rattle.diva_claims.specs.Said.{filled}
use Rattle.diva_claims.specs.declared.said.Said.{Said}
use Rattle.diva_claims.proofs.Handing.{call_by}

-- ---- the port opens in each of six cycles in a row

by_port : (P : ℕ → Type 0) → P 1 → P 2 → P 3 → P 4 → P 5 → P 6 → (p : ℕ) → 1 ≤ p → p ≤ 6 → P p
by_port P a b c d e f zero low high = absurd (omega arith)
by_port P a b c d e f (suc zero) low high = a
by_port P a b c d e f (suc (suc zero)) low high = b
by_port P a b c d e f (suc (suc (suc zero))) low high = c
by_port P a b c d e f (suc (suc (suc (suc zero)))) low high = d
by_port P a b c d e f (suc (suc (suc (suc (suc zero))))) low high = e
by_port P a b c d e f (suc (suc (suc (suc (suc (suc zero)))))) low high = f
by_port P a b c d e f (suc (suc (suc (suc (suc (suc (suc n))))))) low high = absurd (omega arith)

is_multiple : (c p : ℕ) → 1 ≤ p → p ≤ 6 → next_multiple_of c p % p ≡ 0
is_multiple c =
    by_port (λ q. next_multiple_of c q % q ≡ 0) (omega arith) (omega arith) (omega arith) (omega arith) (omega arith) (omega arith)

-- so it has opened once in six cycles
opened : (first last p : ℕ) → 1 ≤ p → p ≤ 6 → first + 5 ≤ last → ((c : ℕ) → first ≤ c → c ≤ last → c % p ≢ 0) → ⊥
opened first last p low high long closed =
    let near = opening_near first p low high in
    closed (next_multiple_of first p) near.0 (omega (arith, near.1)) (is_multiple first p low high)

-- ---- how long a line's claim has waited

-- it was accepted in the first cycle since the last commit, and since it was ready the port has not opened
pub record Waits (m : Timed) (p : PendingClaim) : Type 0 where
  pub idled : m.under.idle + p.cycle ≤ m.cycles + 1
  pub closed : (c : ℕ) → p.cycle + depth ≤ c → c ≤ m.cycles → c % m.config.port ≢ 0

abbrev pub WaitsBy : Timed → List PendingClaim → Type 0
WaitsBy m [] = m.under.idle ≡ 0
WaitsBy m (p ∷ rest) = Waits m p

-- the watchdog does not bark while one waits
pub no_bark : (m n : Timed) (r : Barked stores_wait m n) (xs : List PendingClaim) → IsConfig m.config → WaitsBy m xs → ⊥
no_bark m n r [] ok w = let i = r.idle in let l = r.late in let low = ok.limit_low in omega arith
no_bark m n r (p ∷ rest) ok w =
    let i = r.idle in
    let l = r.late in
    let low = ok.limit_low in
    let since = w.idled in
    opened (p.cycle + depth) m.cycles m.config.port ok.port_low ok.port_high (omega arith) w.closed

-- ---- one cycle

take-one : (r : ℕ) (x : Record) → 1 ≤ r → take r (x ∷ []) ≡ x ∷ []
take-one zero x h = absurd (omega arith)
take-one (suc zero) x h = refl
take-one (suc (suc r)) x h = refl

-- a line is handed over as soon as it can be
handed-over : (o : Option Said) (m : Timed) (said : Said) → IsMachine m → goes_on m.arch ≡ true → m.under.solo ≡ None → m.under.pending ≡ [] → o ≡ Some said
    → call_by o m ≡ filled said (record_of m.arch) ∷ []
handed-over o m said inv on none e line = rw (lt-ltb 0 (room_of m) (room-some m inv none on e), e, line) refl

module _ (o : Option Said) (m n : Timed) (list : List Record) (inv : IsMachine m) (on : goes_on m.arch ≡ true) (given : list ≡ call_by o m) where
  -- where nothing waited, the line's claim does now
  first-waits : (r : Idled stores_wait m list n) (said : Said) → o ≡ Some said → m.under.pending ≡ [] → m.under.idle ≡ 0 → WaitsBy n n.under.pending
  first-waits r said line e none =
      let one : list ≡ filled said (record_of m.arch) ∷ [] = given ∙ handed-over o m said inv on r.was e line in
      let claim : PendingClaim = accepted_in (m.cycles + 1) (filled said (record_of m.arch)) in
      let more : taken m list ≡ claim ∷ [] =
      ap (λ xs. map (accepted_in (m.cycles + 1)) (take (room_of m) xs)) one
      ∙ ap (map (accepted_in (m.cycles + 1))) (take-one (room_of m) (filled said (record_of m.arch)) (room-some m inv r.was on e)) in
      let is : n.under.pending ≡ claim ∷ [] = r.pending ∙ ap (λ xs. xs ++ taken m list) e ∙ more in
      let i = r.idle in
      let c = r.base.cycles in
      subst (WaitsBy n) (sym is) (record { idled = omega arith; closed = λ c low high. absurd (omega arith) })

  -- where a claim waited, it waits on
  front-waits : (r : Idled stores_wait m list n) (q : PendingClaim) (rest : List PendingClaim) → m.under.pending ≡ q ∷ rest → Waits m q → WaitsBy n n.under.pending
  front-waits r q rest e w =
      let is : n.under.pending ≡ q ∷ (rest ++ taken m list) = r.pending ∙ ap (λ xs. xs ++ taken m list) e in
      let i = r.idle in
      let c = r.base.cycles in
      let since = w.idled in
      let port : n.config.port ≡ m.config.port = ap (λ (z : Config). z.port) r.base.config in
      let closed : (d : ℕ) → q.cycle + depth ≤ d → d ≤ n.cycles → d % m.config.port ≢ 0 = λ d low high.
      elim (cases_lt d n.cycles) [
        | inl before ↦ w.closed d low (omega arith)
        | inr now ↦
            let here : m.cycles + 1 ≡ d = omega arith in
            elim (not_yet m q rest inv r.was e r.unjudged) [
              | inl young ↦ absurd (omega arith)
              | inr shut ↦ subst (λ x. x % m.config.port ≢ 0) here shut
            ]
      ] in
      subst (WaitsBy n) (sym is) (record { idled = omega arith; closed = subst (λ x. (d : ℕ) → q.cycle + depth ≤ d → d ≤ n.cycles → d % x ≢ 0) (sym port) closed })

  pub waits-on : (r : Idled stores_wait m list n) (said : Said) (xs : List PendingClaim) → m.under.pending ≡ xs → o ≡ Some said → WaitsBy m xs → WaitsBy n n.under.pending
  waits-on r said [] e line w = first-waits r said line e w
  waits-on r said (q ∷ rest) e line w = front-waits r q rest e w

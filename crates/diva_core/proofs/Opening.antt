-- When the port opens: in each p-th cycle, p being 1 to 6.
use Rattle.std.proofs.Common.{◌≡◌, ◌≢◌, ℕ, zero, suc, ◌+◌, ◌-◌, ◌/◌, ◌%◌, ◌<◌, ◌≤◌, ◌==◌, ap, arith, if◌then◌else◌}
use Rattle.std.specs.Int.{next_multiple_of}
use Rattle.std.proofs.lemmas.Bool.{cond_both, eqb-true, eqb-false}

-- what holds of each number of cycles from one opening to the next
by_port : (P : ℕ → Type 0) → P 1 → P 2 → P 3 → P 4 → P 5 → P 6 → (p : ℕ) → 1 ≤ p → p ≤ 6 → P p
by_port P a b c d e f zero low high = absurd (omega arith)
by_port P a b c d e f (suc zero) low high = a
by_port P a b c d e f (suc (suc zero)) low high = b
by_port P a b c d e f (suc (suc (suc zero))) low high = c
by_port P a b c d e f (suc (suc (suc (suc zero)))) low high = d
by_port P a b c d e f (suc (suc (suc (suc (suc zero))))) low high = e
by_port P a b c d e f (suc (suc (suc (suc (suc (suc zero)))))) low high = f
by_port P a b c d e f (suc (suc (suc (suc (suc (suc (suc n))))))) low high = absurd (omega arith)

-- one opening more
opened_more : (c p : ℕ) → 1 ≤ p → p ≤ 6 → (c + 1) % p ≡ 0 → (c + 1) / p ≡ c / p + 1
opened_more c =
    by_port (λ q. (c + 1) % q ≡ 0 → (c + 1) / q ≡ c / q + 1)
    (λ h. omega arith) (λ h. omega arith) (λ h. omega arith) (λ h. omega arith) (λ h. omega arith) (λ h. omega arith)

-- and none
opened_as_before : (c p : ℕ) → 1 ≤ p → p ≤ 6 → (c + 1) % p ≢ 0 → (c + 1) / p ≡ c / p
opened_as_before c =
    by_port (λ q. (c + 1) % q ≢ 0 → (c + 1) / q ≡ c / q)
    (λ h. omega arith) (λ h. omega arith) (λ h. omega arith) (λ h. omega arith) (λ h. omega arith) (λ h. omega arith)

-- once at least in six cycles
opened_in_six : (c p : ℕ) → 1 ≤ p → p ≤ 6 → c / p + 1 ≤ (c + 6) / p
opened_in_six c = by_port (λ q. c / q + 1 ≤ (c + 6) / q) (omega arith) (omega arith) (omega arith) (omega arith) (omega arith) (omega arith)

-- what is owed after one cycle more of a solo instruction
pub owed_since :
    (p c start owed stores : ℕ)
    → 1 ≤ p
    → p ≤ 6
    → owed ≤ stores - (c / p - start / p)
    → (if (c + 1) % p == 0 then owed - 1 else owed) ≤ stores - ((c + 1) / p - start / p)
owed_since p c start owed stores low high h =
    cond_both ((c + 1) % p == 0) _ _ (λ n. n ≤ stores - ((c + 1) / p - start / p))
    (λ t. let more = opened_more c p low high (eqb-true _ _ t) in omega arith)
    (λ f. let same = opened_as_before c p low high (eqb-false _ _ f) in omega arith)

-- and before the one that starts it commits
pub owed_by_the_sixth :
    (p c start owed stores : ℕ)
    → 1 ≤ p
    → p ≤ 6
    → 1 ≤ stores
    → c + 1 ≡ start + 6
    → owed ≤ stores - (c / p - start / p)
    → (if (c + 1) % p == 0 then owed - 1 else owed) < stores
owed_by_the_sixth p c start owed stores low high some sixth h =
    let more = owed_since p c start owed stores low high h in
    let once = opened_in_six start p low high in
    let at : (c + 1) / p ≡ (start + 6) / p = ap (λ n. n / p) sixth in
    omega arith

-- ---- the next opening

-- it comes, from a cycle on, and before as many cycles have gone by as there are from one to the next
pub opening_near : (c p : ℕ) → 1 ≤ p → p ≤ 6 → (c ≤ next_multiple_of c p) × (next_multiple_of c p + 1 ≤ c + p)
opening_near c =
    by_port (λ q. (c ≤ next_multiple_of c q) × (next_multiple_of c q + 1 ≤ c + q))
    (omega arith, omega arith) (omega arith, omega arith) (omega arith, omega arith) (omega arith, omega arith) (omega arith, omega arith) (omega arith, omega arith)

-- where it is not in this cycle, it is the one that comes from the next cycle on
pub opening_later : (c p : ℕ) → 1 ≤ p → p ≤ 6 → c % p ≢ 0 → next_multiple_of c p ≡ next_multiple_of (c + 1) p
opening_later c =
    by_port (λ q. c % q ≢ 0 → next_multiple_of c q ≡ next_multiple_of (c + 1) q)
    (λ h. omega arith) (λ h. omega arith) (λ h. omega arith) (λ h. omega arith) (λ h. omega arith) (λ h. omega arith)

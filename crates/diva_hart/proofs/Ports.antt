-- Multiples of a period, and the cycles behind them.
use Rattle.std.proofs.Common.{◌≡◌, ℕ, ◌+◌, ◌-◌, ◌*◌, ◌/◌, ◌%◌, ◌<◌, ◌≤◌, ap, ◌∙◌, arith}
use Rattle.std.proofs.Math.Nat.{add-mod_right, div-add-mod, mul-mod_left}
use Rattle.std.proofs.lemmas.Nat.{mod-mul-add}

whole : (n p : ℕ) → n % p ≡ 0 → n ≡ n / p * p
whole n p h = let is = div-add-mod n p in omega arith

-- fewer cycles than the period behind a multiple
pub behind : (opened p cycle : ℕ) → opened % p ≡ 0 → opened ≤ cycle → cycle - opened < p → cycle % p ≡ cycle - opened
behind opened p cycle h later few =
    let is : cycle ≡ opened / p * p + (cycle - opened) = (let w = whole opened p h in omega arith) in
    ap (λ n. n % p) is ∙ mod-mul-add (opened / p) p (cycle - opened) few

-- the next multiple
pub next : (opened p cycle : ℕ) → opened % p ≡ 0 → opened ≤ cycle → cycle - opened ≡ p → cycle % p ≡ 0
next opened p cycle h later one =
    let is : cycle ≡ opened + p = omega arith in
    ap (λ n. n % p) is ∙ add-mod_right opened p ∙ h

-- the newest multiple
pub newest : (cycle p : ℕ) → (cycle - cycle % p) % p ≡ 0
newest cycle p =
    let is : cycle - cycle % p ≡ cycle / p * p = (let d = div-add-mod cycle p in omega arith) in
    ap (λ n. n % p) is ∙ mul-mod_left (cycle / p) p

-- Products that fit their types.
use Rattle.std.proofs.Common.{ℕ, ◌/◌, ◌+◌, ◌-◌, ◌*◌, ◌≤◌, ◌<◌, ◌^◌, arith}
use Rattle.std.proofs.Math.Nat.{div-le_of_le-mul}
use Rattle.std.proofs.lemmas.Nat.{mul-le}

pub product_small : (n m : ℕ) → n < 2 ^ 32 → m ≤ 10000 → n * m ≤ (2 ^ 32 - 1) * 10000
product_small n m few most = mul-le n m (2 ^ 32 - 1) 10000 (omega arith) most

pub square_small : (d : ℕ) → d ≤ (2 ^ 32 - 1) * 10000 → d * d ≤ ((2 ^ 32 - 1) * 10000) * ((2 ^ 32 - 1) * 10000)
square_small d most = mul-le d d ((2 ^ 32 - 1) * 10000) ((2 ^ 32 - 1) * 10000) most most

pub spread_small : (r m : ℕ) → r ≤ (2 ^ 32 - 1) * 10000 → 2401 * r * (10000 - m) ≤ (2401 * ((2 ^ 32 - 1) * 10000)) * 10000
spread_small r m most = mul-le (2401 * r) (10000 - m) (2401 * ((2 ^ 32 - 1) * 10000)) 10000 (omega arith) (omega arith)

-- what is counted for each of n lines, divided by n
pub quotient_small : (size n : ℕ) → 0 < n → size ≤ 200 * (n * (2 ^ 64 - 1)) + n → size / (2 * n) ≤ 100 * (2 ^ 64 - 1) + 1
quotient_small size n some small = div-le_of_le-mul (2 * n) (omega (arith, small))

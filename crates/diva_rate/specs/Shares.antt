-- Shares in ten-thousandths, and the interval of each.
-- Cited in `Counts.antt`, for `Injections::rates`.
use Rattle.std.specs.Prelude.{ℕ, ◌+◌, ◌-◌, ◌*◌, ◌/◌, ◌&&◌, nat_le, nat_lt, Bool}
use Rattle.std.specs.List.{position_or_len, range_with_len}
use Rattle.diva_rate.specs.declared.shares.Share.{Share}

-- k of n, in ten-thousandths, rounded to the nearest, a half up
abbrev pub nearest : (k n : ℕ) → ℕ
nearest k n = (20000 * k + n) / (2 * n)

-- The Wilson score interval of k of n at 95 %, with z = 1.96, has as its bounds the two solutions p of
--     (k - n p)^2 = z^2 n p (1 - p),
-- of which one is at most k / n and the other at least k / n. The left side is the greater one outside of the interval, and there
-- alone. With p = m / 10000 and z^2 = 2401 / 625 both sides, multiplied by 625 * 10000^2, are the numbers below. So this says that
-- m / 10000 is above k / n, and not below the interval's upper bound. (Where k is 0, so is the lower bound, and k / n; where k is n,
-- the upper bound is 1, and no share is above it.)
abbrev pub is_high : (k n m : ℕ) → Bool
is_high k n m = nat_lt (10000 * k) (n * m) && nat_le (2401 * (n * m) * (10000 - m)) (625 * ((n * m - 10000 * k) * (n * m - 10000 * k)))

-- the least number of ten-thousandths below `most` that is not below the upper bound, `most` if none is
unfoldable pub high_below : (most k n : ℕ) → ℕ
high_below most k n = position_or_len (is_high k n) (range_with_len 0 most)

-- the upper bound, rounded up: it is at most 10000
abbrev pub high_of : (k n : ℕ) → ℕ
high_of k n = high_below 10000 k n

-- the lower bound, rounded down: what is left by the upper bound of the others, since k - n p changes its sign alone where
-- k is n - k and p is 1 - p
abbrev pub low_of : (k n : ℕ) → ℕ
low_of k n = 10000 - high_of (n - k) n

-- k of n, with the share and the bounds of its interval
abbrev pub rate : (k n : ℕ) → Share
rate k n = record { count = k; share = nearest k n; low = low_of k n; high = high_of k n }

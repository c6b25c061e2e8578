-- A linear congruential generator of 32 bits.
-- Cited by `next_number`.
use Rattle.std.specs.Prelude.{ℕ, ◌+◌, ◌*◌, ◌%◌, ◌^◌}

-- the number that follows x
unfoldable pub next_number : ℕ → ℕ
next_number x = (1664525 * x + 1013904223) % 2 ^ 32

-- The numbers of commands, in their ranges.
-- Cited by `StepCount::new` and `MemRange::new`.
use Rattle.std.specs.Prelude.{ℕ, ◌≤◌, ◌+◌, ◌^◌}

-- the instructions that are stepped, or taken back, at once: 1 to 1,000,000
pub record IsStepCount (n : ℕ) : Type 0 where
  pub low : 1 ≤ n
  pub high : n ≤ 1000000

-- a part of memory: the address of its first byte, and the number of its bytes
pub record MemRange : Type 0 where
  pub addr : ℕ
  pub len : ℕ

-- 1 to 32 bytes, which end at 2^32 at the latest
pub record IsMemRange (addr len : ℕ) : Type 0 where
  pub low : 1 ≤ len
  pub high : len ≤ 32
  pub end : addr + len ≤ 2 ^ 32

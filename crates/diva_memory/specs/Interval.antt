-- Intervals of addresses, and what lies in them.
-- Cited by `Interval::empty`, `widen` and `is_apart`.
use Rattle.std.specs.Prelude.{ℕ, ◌≤◌, ◌+◌, ◌⊎◌}
use Rattle.diva_memory.specs.declared.interval.Interval.{Interval}

-- n bytes from an address on, and k from another, have none in common
abbrev pub AreApart : (addr n other k : ℕ) → Type 0
AreApart addr n other k = (addr + n ≤ other) ⊎ (other + k ≤ addr)

-- the n bytes from an address on lie in an interval
abbrev pub LiesIn : Interval → (addr n : ℕ) → Type 0
LiesIn i addr n = (i.first ≤ addr) × (addr + n ≤ i.end)

-- none of them is in it: they end before it, or begin behind it
abbrev pub IsApart : Interval → (addr n : ℕ) → Type 0
IsApart i addr n = (addr + n ≤ i.first) ⊎ (i.end ≤ addr)

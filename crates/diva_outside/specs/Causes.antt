-- Counts of faults.
-- Cited by `Files::load`; by `top` of diva_cli.
use Rattle.std.specs.Prelude.{ℕ, ◌+◌, ◌-◌, ◌^◌, ◌≤◌, min}

-- one more, or the same at a counter's last value
abbrev pub raised : ℕ → ℕ
raised n = min (n + 1) (2 ^ 64 - 1)

-- a count rose, or stands at its last value
abbrev pub Rose : ℕ → ℕ → Type 0
Rose before now = raised before ≤ now

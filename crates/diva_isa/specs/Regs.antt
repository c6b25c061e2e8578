-- Writing a register.
-- Cited by `Regs::set`.
use Rattle.std.specs.Prelude.{ℕ, ◌==◌, List, slice_set, if◌then◌else◌}

-- the registers with v in one; the first stays
abbrev pub with_reg : List ℕ → ℕ → ℕ → List ℕ
with_reg regs n v = if n == 0 then regs else slice_set regs n v

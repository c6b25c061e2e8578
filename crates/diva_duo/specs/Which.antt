-- One of two harts.
-- Cited by `Duo::cycle`, `told`, `view` and the other observers of `Duo`.
use Rattle.std.specs.Prelude.{ℕ, ◌==◌, if◌then◌else◌}
use Rattle.diva_core.specs.Timed.{Timed}
use Rattle.diva_duo.specs.Duo.{Duo, Hart, timed}

-- hart 0 or hart 1
pub data Which : Type 0 where
  First : Which
  Second : Which

-- the hart of a number, 0 or 1
abbrev pub which : ℕ → Which
which h = if h == 0 then First else Second

abbrev pub hart_at : Which → Duo → Hart
hart_at First d = d.first
hart_at Second d = d.second

-- the timed machine that it is
abbrev pub machine_at : Which → Duo → Timed
machine_at w d = timed d.cycles d.memory (hart_at w d)

-- A state with the number of instructions that led to it.
-- Cited by `Plain::run` and the type `Plain`.
use Rattle.std.specs.Prelude.{ℕ, zero, suc, ◌+◌, if◌then◌else◌}
use Rattle.diva_isa.specs.State.{State, goes_on}
use Rattle.diva_isa.specs.Step.{steps}

pub record Plain : Type 0 where
  pub state : State
  pub count : ℕ

-- how many of the first k steps do an instruction: an ended state does none
abbrev pub done : ℕ → State → ℕ
done zero s = 0
done (suc k) s = done k s + (if goes_on (steps k s) then 1 else 0)

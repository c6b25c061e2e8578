-- Steps of a state.
use Rattle.std.proofs.Common.{◌≡◌, ℕ, zero, suc, refl, ap, ◌∙◌, false}
use Rattle.diva_isa.specs.State.{State, goes_on}
use Rattle.diva_isa.specs.Step.{record_of, apply, step, steps}
pub use Rattle.diva_isa.proofs.Steps.{steps-add, steps-step as steps-shift}

-- a state that goes on takes the step of its record
pub step-on : (s : State) → step s ≡ apply s (record_of s)
unfolding step
step-on s = refl

pub step-off : (s : State) → goes_on s ≡ false → step s ≡ s
unfolding step apply
step-off s off = rw off refl

pub steps-off : (n : ℕ) (s : State) → goes_on s ≡ false → steps n s ≡ s
steps-off zero s off = refl
steps-off (suc n) s off = ap step (steps-off n s off) ∙ step-off s off

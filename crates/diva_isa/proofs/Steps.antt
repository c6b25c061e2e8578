-- Steps of a state.
use Rattle.std.proofs.Common.{◌≡◌, ◌≢◌, ℕ, zero, suc, ◌+◌, refl, ap, ◌∙◌, false, arith, add-zero, add-suc}
use Rattle.std.proofs.lemmas.Bool.Decides.{nat_tests}
use Rattle.diva_isa.specs.State.{State, goes_on}
use Rattle.diva_isa.specs.Step.{record_of, apply, step, steps}
use Rattle.diva_isa.specs.declared.record.Record.{Record}

-- to apply the due record is to step
pub apply_record_of : (s : State) → apply s (record_of s) ≡ step s
unfolding step
apply_record_of s = refl

-- what ended stays, whatever is applied
pub apply_ended : (s : State) (r : Record) → s.end ≢ 0 → apply s r ≡ s
unfolding apply
apply_ended s r off = let test : goes_on s ≡ false = grind (arith, nat_tests) in rw test refl

pub step_ended : (s : State) → s.end ≢ 0 → step s ≡ s
unfolding step
step_ended s off = apply_ended s (record_of s) off

pub steps_ended : (k : ℕ) (s : State) → s.end ≢ 0 → steps k s ≡ s
steps_ended zero s off = refl
steps_ended (suc k) s off = ap step (steps_ended k s off) ∙ step_ended s off

pub steps-add : (a b : ℕ) (s : State) → steps (a + b) s ≡ steps b (steps a s)
steps-add a zero s = rw add-zero refl
steps-add a (suc b) s = rw add-suc (ap step (steps-add a b s))

-- the first step or the last one first
pub steps-step : (k : ℕ) (s : State) → steps k (step s) ≡ steps (suc k) s
steps-step zero s = refl
steps-step (suc k) s = ap step (steps-step k s)

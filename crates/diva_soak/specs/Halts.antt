-- A state whose instructions end with status 0.
-- Cited by `soak_halts`.
use Rattle.std.specs.Prelude.{◌≡◌, ◌≤◌, ℕ}
use Rattle.diva_isa.specs.State.{State}
use Rattle.diva_isa.specs.End.{halt}
use Rattle.diva_isa.specs.Step.{steps}
use Rattle.diva_core.specs.Headline.{EndsAfter}

-- it ends, after `most` instructions at most, by a halt with status 0
pub record HaltsWithin (most : ℕ) (s : State) : Type 0 where
  pub after : ℕ
  pub few : after ≤ most
  pub ends : EndsAfter after s
  pub status : (steps after s).end ≡ halt 0

-- What contracts see of a duo.
-- Cited by the type `Duo`.
use Rattle.std.specs.Prelude.{List}
use Rattle.diva_duo.specs.Duo.{Duo}
use Rattle.diva_duo.specs.declared.action.Action.{Action}

-- the two harts, and the actions of the last cycle
pub record Shown : Type 0 where
  pub duo : Duo
  pub last : List Action

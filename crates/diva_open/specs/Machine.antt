-- What holds of an open machine between two cycles.
-- Cited by the type `OpenMachine`.
use Rattle.std.specs.Prelude.{◌≤◌, ◌*◌, ◌^◌}
use Rattle.diva_core.specs.Machine.{IsConfig}
use Rattle.diva_open.specs.Open.{Open}

pub record IsOpenBetweenCycles (o : Open) : Type 0 where
  pub config : IsConfig o.timed.config
  pub cycles : o.timed.cycles ≤ 2 ^ 60
  -- a cycle commits as many instructions at most as the machine is wide
  pub count : o.timed.count ≤ o.timed.config.width * o.timed.cycles
  pub owed : o.timed.owed ≤ o.timed.config.stores
  pub idle : o.timed.under.idle ≤ o.timed.config.limit

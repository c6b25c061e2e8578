-- What right lists lead to without the checker.
-- Cited by `right_lists_lead_to_the_same`.
use Rattle.std.specs.Prelude.{None}
use Rattle.diva_core.specs.Timed.{Timed}
use Rattle.diva_open.specs.Open.{Open}

-- the open machine of a timed one: no record has left that was not due
abbrev pub opened : Timed → Open
opened m = record { timed = m; place = None }

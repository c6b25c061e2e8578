use Rattle.std.proofs.Common.{◌≡◌, ◌≤◌, ◌-◌, ◌++◌, Some, take}
use Rattle.diva_isa.specs.State.{byte_of}
use Rattle.diva_core.specs.Effects.{with_effects}
use Rattle.diva_ooo.proofs.Reading.{effects}
use Rattle.diva_ooo.proofs.flight.FlightLook.byte.Given as goal

abbrev pub invariant-loop-place : goal.invariant-loop-place
invariant-loop-place l = record {
  seen : byte_of (with_effects l.self.view.now (l.self.ahead.now.ring ++ effects (take l.from l.self.window.now))) l.addr ≡ Some l.byte;
  within : l.from ≤ l.self.at;
}

abbrev pub decreases-loop-place : goal.decreases-loop-place
decreases-loop-place l = l.self.at - l.from

use Rattle.std.proofs.Common.{◌≡◌, ◌≤◌, ◌-◌, ◌++◌, Some, take}
use Rattle.diva_isa.specs.State.{word_of}
use Rattle.diva_core.specs.Effects.{with_effects}
use Rattle.diva_ooo.proofs.Reading.{effects}
use Rattle.diva_ooo.proofs.flight.Flight.find_word.Given as goal

abbrev pub invariant-loop-place : goal.invariant-loop-place
invariant-loop-place l = record {
  seen : word_of (with_effects l.self.view.now (l.self.ahead.now.ring ++ effects (take l.from l.self.window.now))) l.addr ≡ Some l.latest;
  within : l.from ≤ l.self.at;
}

abbrev pub decreases-loop-place : goal.decreases-loop-place
decreases-loop-place l = l.self.at - l.from

use Rattle.std.proofs.Common.{◌≡◌, ◌≤◌, ◌-◌}
use Rattle.diva_open.specs.Inner.{KeepsOpenBounds}
use Rattle.diva_open.specs.Open.{leave}
use Rattle.diva_open.proofs.parts.Parts.leave.Given as goal

abbrev pub invariant-loop-left : goal.invariant-loop-left
invariant-loop-left l = record {
  so_far : leave (l.fn.self.timed.config.width - l.left) l.self ≡ leave l.fn.self.timed.config.width l.fn.self;
  bounds : KeepsOpenBounds l.left l.fn.self l.self;
  within : l.left ≤ l.fn.self.timed.config.width;
}

abbrev pub decreases-loop-left : goal.decreases-loop-left
decreases-loop-left l = l.fn.self.timed.config.width - l.left

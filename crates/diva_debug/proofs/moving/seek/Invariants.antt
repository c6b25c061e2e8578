-- The steps so far, each of which led elsewhere, and those that are left.
use Rattle.std.proofs.Common.{◌≡◌, ◌+◌, ◌-◌}
use Rattle.diva_debug.specs.Inner.{Advances}
use Rattle.diva_debug.specs.Moves.{steps_until}
use Rattle.diva_debug.proofs.moving.seek.Given as goal

abbrev pub invariant-loop : goal.invariant-loop
invariant-loop g l = record {
  so_far : Advances g.C.Core.gives l.counter l.fn.m l.fn.core l.m l.core;
  left : steps_until l.most l.pc l.fn.m.machine.timed.arch ≡ l.counter + steps_until (l.most - l.counter) l.pc l.m.machine.timed.arch;
}

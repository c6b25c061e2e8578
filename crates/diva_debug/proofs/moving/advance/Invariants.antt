-- The steps so far, and those that are left.
use Rattle.std.proofs.Common.{◌≡◌, ◌+◌, ◌-◌}
use Rattle.diva_debug.specs.Inner.{Advances}
use Rattle.diva_debug.specs.Moves.{steps_in}
use Rattle.diva_debug.proofs.moving.advance.Given as goal

abbrev pub invariant-loop : goal.invariant-loop
invariant-loop g l = record {
  so_far : Advances g.C.Core.gives l.counter l.fn.m l.fn.core l.m l.core;
  left : steps_in l.count l.fn.m.machine.timed.arch ≡ l.counter + steps_in (l.count - l.counter) l.m.machine.timed.arch;
}

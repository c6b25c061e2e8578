use Rattle.std.proofs.Common.{◌≡◌, ◌+◌, false}
use Rattle.diva_duo.specs.Duo.{is_over}
use Rattle.diva_duo.specs.Between.{IsDuo}
use Rattle.diva_duo.specs.Turns.{DrivesDuo}
use Rattle.diva_duo.proofs.drives.drive2.Given as goal

abbrev pub invariant-loop : goal.invariant-loop
invariant-loop g l = record {
  drives : DrivesDuo g.A.Core.gives g.B.Core.gives l.fn.duo l.fn.a l.fn.b l.duo l.a l.b;
  on : is_over l.duo.duo ≡ false;
  began : is_over l.fn.duo.duo ≡ false;
  start : IsDuo l.fn.duo.duo;
  sound : IsDuo l.duo.duo;
  cycles : l.duo.duo.cycles ≡ l.fn.duo.duo.cycles + l.counter;
}

use Rattle.std.proofs.Common.{◌≡◌, ◌≤◌, ◌+◌, ◌-◌, [], length}
use Rattle.diva_isa.specs.State.{State}
use Rattle.diva_ooo.specs.Ooo.{handed_over}
use Rattle.diva_ooo.proofs.ooo.Ooo.hand_over.Given as goal

abbrev pub invariant-loop : goal.invariant-loop
invariant-loop l = record {
  left : (s : State) → handed_over (l.room - l.counter) s l.out l.self l.self.window ≡ handed_over l.room s [] l.fn.self l.fn.self.window;
  few : length l.out ≤ l.counter;
  ring : length l.self.ahead.ring ≤ length l.fn.self.ahead.ring + l.counter;
}

-- After so many steps the machine stands where the table does.
use Rattle.std.proofs.Common.{◌≡◌, ◌≤◌, ◌+◌}
use Rattle.diva_isa.specs.Plain.{done}
use Rattle.diva_isa.specs.Step.{steps}
use Rattle.diva_isa.proofs.plain.Plain.run.Given as goal

abbrev pub invariant-loop : goal.invariant-loop
invariant-loop l = record {
  state : l.self.state ≡ steps l.counter l.fn.self.state;
  count : l.self.count ≡ l.fn.self.count + done l.counter l.fn.self.state;
  few : l.self.count ≤ l.fn.self.count + l.counter;
}

-- Each turn puts one store to memory.
use Rattle.std.proofs.Common.{◌≡◌, ◌+◌, length}
use Rattle.diva_commit.specs.Committing.{AreInside}
use Rattle.diva_hart.specs.HartArch.{seen}
use Rattle.diva_hart.proofs.arch.HartArch.drain_all.Given as goal

abbrev pub invariant-loop : goal.invariant-loop
invariant-loop l = record {
  same : seen l.memory l.self.state ≡ seen l.fn.memory l.fn.self.state;
  stores : l.self.stores ≡ l.fn.self.stores;
  owed : length l.self.state.buffer + l.counter ≡ length l.fn.self.state.buffer;
  inside : AreInside l.memory l.self.state.buffer;
}

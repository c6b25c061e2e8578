use Rattle.std.proofs.Common.{◌≡◌, ◌+◌, ◌++◌, take, map, length}
use Rattle.diva_core.specs.Entries.{fresh}
use Rattle.diva_core.proofs.pending.Pending.accept_all.Given as goal

abbrev pub invariant-loop-claim : goal.invariant-loop-claim
invariant-loop-claim l = record {
  items : l.self.items ≡ l.fn.self.items ++ map (fresh l.cycle) (take l.claim-index l.claims);
  capacity : l.self.capacity ≡ l.fn.self.capacity;
  len : length l.self.items ≡ length l.fn.self.items + l.claim-index;
}

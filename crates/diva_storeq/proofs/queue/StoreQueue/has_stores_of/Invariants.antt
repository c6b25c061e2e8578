-- The oldest stores are the same.
use Rattle.std.proofs.Common.{◌≡◌, take}
use Rattle.diva_storeq.proofs.queue.StoreQueue.has_stores_of.Given as goal

abbrev pub invariant-loop-at : goal.invariant-loop-at
invariant-loop-at l = take l.at l.self.items ≡ take l.at l.other.items

-- The byte under the entries so far.
use Rattle.std.proofs.Common.{◌≡◌, Some, map}
use Rattle.diva_memory.specs.Bytes.{byte_at}
use Rattle.diva_storeq.specs.Stores.{laid}
use Rattle.diva_storeq.proofs.queue.StoreQueue.byte_over.Given as goal

abbrev pub invariant-loop-entry : goal.invariant-loop-entry
invariant-loop-entry l = byte_at (laid l.memory (map (λ e. e.now) l.yielded)) l.addr ≡ Some l.byte

-- The word under the entries so far, and the entries that are left.
use Rattle.std.proofs.Common.{◌≡◌, ◌<◌, ◌^◌, ◌++◌, map}
use Rattle.std.specs.List.{All}
use Rattle.diva_memory.specs.Bytes.{HasWord}
use Rattle.diva_storeq.specs.Masked.{IsMasked}
use Rattle.diva_storeq.specs.Stores.{laid}
use Rattle.diva_storeq.proofs.queue.StoreQueue.merged.Given as goal

abbrev pub invariant-loop-entry : goal.invariant-loop-entry
invariant-loop-entry l =
    All IsMasked l.entry-iterator
    × (map (λ e. e.now) l.yielded ++ l.entry-iterator ≡ l.self.items)
    × (l.word < 2 ^ 32)
    × HasWord (laid l.memory (map (λ e. e.now) l.yielded)) l.addr l.word

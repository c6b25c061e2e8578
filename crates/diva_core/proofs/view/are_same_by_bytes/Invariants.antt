-- The bytes so far are the same.
use Rattle.std.proofs.Common.{◌≡◌, ◌<◌, ◌+◌, ℕ}
use Rattle.diva_memory.specs.Bytes.{byte_at}
use Rattle.diva_storeq.specs.Stores.{laid}
use Rattle.diva_core.proofs.view.are_same_by_bytes.Given as goal

abbrev pub invariant-loop-place : goal.invariant-loop-place
invariant-loop-place l =
    (k : ℕ) → k < l.place
    → byte_at (laid l.memory l.queue.items) (l.base + k) ≡ byte_at (laid l.other_memory l.other_queue.items) (l.base + k)

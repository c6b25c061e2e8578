-- What was sorted rises.
use Rattle.std.proofs.Common.{ℕ}
use Rattle.std.proofs.lemmas.List.Sorted.{IsNonDecreasingBy-from_sort}
use Rattle.diva_rate.proofs.latencies.latencies_in.Goals as goal

pub in_order-requires-clause-sorted : goal.in_order-requires-clause-sorted
in_order-requires-clause-sorted c =
    rw c.deref.ensures.value (IsNonDecreasingBy-from_sort (λ (x : ℕ). x) c.sort_unstable.new.self.items c.sort_unstable.ensures.sorted)

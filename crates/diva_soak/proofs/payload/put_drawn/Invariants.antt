use Rattle.std.proofs.Common.{◌≡◌, ◌+◌, ◌-◌, ◌*◌, ◌++◌, length}
use Rattle.diva_soak.specs.Soak.{words_as_bytes, words_after}
use Rattle.diva_soak.proofs.payload.put_drawn.Given as goal

abbrev pub invariant-loop : goal.invariant-loop
invariant-loop l = record {
  so_far : l.bytes.items ++ words_as_bytes (words_after (l.count - l.counter) l.x) ≡ l.fn.bytes.items ++ words_as_bytes (words_after l.count l.seed);
  long : length l.bytes.items ≡ length l.fn.bytes.items + 4 * l.counter;
}

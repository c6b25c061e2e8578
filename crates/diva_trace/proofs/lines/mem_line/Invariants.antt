-- The bytes so far are written, two digits or dots each.
use Rattle.std.proofs.Common.{◌≡◌, ◌+◌, ◌*◌, ◌++◌, length}
use Rattle.std.specs.List.{flat_map, range_with_len}
use Rattle.diva_memory.specs.Bytes.{byte_at}
use Rattle.diva_trace.specs.Lines.{byte_text}
use Rattle.diva_trace.proofs.lines.mem_line.Given as goal

abbrev pub invariant-loop-i : goal.invariant-loop-i
invariant-loop-i g l = record {
  bytes : l.line ≡ l.initial.line ++ flat_map (λ a. byte_text (byte_at (g.R.Readable.shows l.memory) a)) (range_with_len l.addr l.i);
  len : length l.line ≡ 13 + 2 * l.i;
}

use Rattle.std.proofs.Common.{◌≡◌, ◌≤◌, ◌+◌, ◌^◌, ◌++◌, drop, length, vec_capacity}
use Rattle.std.specs.List.{sum_by}
use Rattle.diva_image.specs.Inner.{ArePlaced}
use Rattle.diva_image.specs.Segments.{memory_from}
use Rattle.diva_image.proofs.table.append_segments.Given as goal

abbrev pub invariant-loop-segment : goal.invariant-loop-segment
invariant-loop-segment l = record {
  made : memory_from l.addr l.segments l.bytes ≡ l.memory.items ++ memory_from (l.addr + length l.memory.items) (drop l.segment-index l.segments) l.rest;
  room : length (memory_from l.addr l.segments l.bytes) ≤ vec_capacity l.memory;
  placed : ArePlaced (l.addr + length l.memory.items) (l.addr + 2 ^ 24) (drop l.segment-index l.segments);
  long : sum_by (λ s. s.len) (drop l.segment-index l.segments) ≤ length l.rest;
}

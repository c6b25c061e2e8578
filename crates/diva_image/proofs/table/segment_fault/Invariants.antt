use Rattle.std.proofs.Common.{◌≡◌, ◌+◌, ◌*◌, drop}
use Rattle.diva_image.specs.Header.{header_size}
use Rattle.diva_image.specs.Segments.{pair_size, segment_fault}
use Rattle.diva_image.proofs.table.segment_fault.Given as goal

abbrev pub invariant-loop-at : goal.invariant-loop-at
invariant-loop-at l =
    segment_fault l.header.base l.most header_size l.segments
    ≡ segment_fault l.least l.most (header_size + pair_size * l.at) (drop l.at l.segments)

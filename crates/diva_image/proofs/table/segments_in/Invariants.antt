use Rattle.std.proofs.Common.{◌≡◌}
use Rattle.diva_image.specs.Segments.{segments_in}
use Rattle.diva_image.proofs.table.segments_in.Given as goal

abbrev pub invariant-loop-at : goal.invariant-loop-at
invariant-loop-at l = l.segments ≡ segments_in l.at l.table

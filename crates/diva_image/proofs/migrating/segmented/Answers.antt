-- The segments have no more bytes than the payload.
use Rattle.std.proofs.Common.{arith, ap, length}
use Rattle.diva_image.proofs.Tables.{sum-placed}
use Rattle.diva_image.proofs.migrating.segmented.Goals as goal

pub total-requires : goal.total-requires
total-requires c =
    let fits = sum-placed _ _ c.canonical-canonical.result c.canonical-canonical.ensures.placed in
    let same = ap length c.bytes.ensures in
    rw c.as_slice-segments.ensures.value (omega (arith, fits, same))

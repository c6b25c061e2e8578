-- One pair of the table after another.
use Rattle.std.proofs.Common.{◌≡◌, ◌*◌, drop, add-one, refl}
use Rattle.std.proofs.lemmas.List.{take_rest}
use Rattle.diva_image.specs.Header.{word_at}
use Rattle.diva_image.specs.Segments.{pair_size}
use Rattle.diva_image.proofs.Tables.{one_more}
use Rattle.diva_image.proofs.table.segments_in.Goals as goal

pub loop-at-preserved : goal.loop-at-preserved
loop-at-preserved c =
    let place = pair_size * c.loop-at.at in
    let addr : c.read_u32.result ≡ word_at 0 (drop place c.args.table.now) = rw take_rest at c.read_u32.ensures in
    let len : c.read_u32-in-loop-at.result ≡ word_at 4 (drop place c.args.table.now) = rw (take_rest, take_rest) at c.read_u32-in-loop-at.ensures in
    rw (add-one, one_more c.loop-at.at c.args.table.now, c.push.ensures, c.loop-at.invariant, addr, len) refl

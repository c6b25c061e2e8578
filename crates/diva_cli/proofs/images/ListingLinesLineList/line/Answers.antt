-- The line at a place is that of the word there.
use Rattle.std.proofs.Common.{refl, arith}
use Rattle.diva_image.specs.ImageLayout.{layout}
use Rattle.diva_cli.proofs.Listing.{line_listed, place_inside}
use Rattle.diva_cli.proofs.images.ListingLinesLineList.line.Goals as goal

pub overflow_mul-place : goal.overflow_mul-place
overflow_mul-place c =
    let image = c.args.self.now.image.now in
    let inside = place_inside image c.args.at c.requires in
    omega (arith, inside, image.rules.payload_fits, image.rules.placed.size_most)

pub line_at-requires : goal.line_at-requires
line_at-requires c = place_inside c.args.self.now.image.now c.args.at c.requires

pub returns : goal.returns
returns c = rw (line_listed (layout c.args.self.now.image.now) c.args.at c.requires, c.line_at.ensures) refl

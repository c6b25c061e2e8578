-- The end of a source.
use Rattle.std.proofs.Common.{◌≡◌, ◌<◌, ℕ, List, length, arith}
use Rattle.std.specs.Prelude.{None}
use Rattle.std.proofs.lemmas.Grind.{common_steps}
use Rattle.diva_image.specs.Header.{header_fault}
use Rattle.diva_image.specs.Images.{image_from, payload_fault}
use Rattle.diva_image.specs.Layout.{most_size}

-- no image has more bytes than a source may lay
pub too_long : (base size entry : ℕ) (bytes : List ℕ) → most_size < length bytes → image_from base size entry bytes ≡ None
unfolding header_fault payload_fault
too_long base size entry bytes long = grind (arith, common_steps)

-- The rules of an image.
use Rattle.std.proofs.Common.{◌≡◌, ◌<◌, ℕ, List, length, arith}
use Rattle.std.specs.Prelude.{None}
use Rattle.std.proofs.lemmas.Grind.{common_steps}
use Rattle.diva_image.specs.Images.{image_from, payload_fault}

-- a payload that is longer than memory is a fault
pub too_long : (base size entry : ℕ) (payload : List ℕ) → size < length payload → image_from base size entry payload ≡ None
unfolding payload_fault
too_long base size entry payload longer = grind (arith, common_steps)

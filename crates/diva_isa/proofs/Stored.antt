-- How many bytes a store puts.
use Rattle.std.proofs.Common.{◌≡◌, ℕ, length, refl}
use Rattle.diva_memory.specs.Bytes.{low_bytes}
use Rattle.diva_isa.specs.Kind.{size}
use Rattle.diva_isa.specs.declared.kind.Width.{Width}
use Rattle.diva_isa.specs.declared.kind.Width.TheVariants.{Byte, Half, Word}

pub length_low_bytes : (w : Width) (v : ℕ) → length (low_bytes (size w) v) ≡ size w
length_low_bytes Byte v = refl
length_low_bytes Half v = refl
length_low_bytes Word v = refl

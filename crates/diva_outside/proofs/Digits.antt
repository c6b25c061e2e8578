-- The hex digits of all bytes, listed.
use Rattle.std.proofs.Common.{◌≡◌, ◌<◌, ℕ, List, get_or, map, refl, ap, ◌∙◌, arith}
use Rattle.std.specs.List.{range_with_len}
use Rattle.std.proofs.lemmas.List.FromFn.{get_or-map-range_with_len}
use Rattle.diva_outside.specs.Text.{hex_byte}
use Rattle.diva_outside.specs.declared.line.TheConstants.{HEX_PAIRS}

listed : HEX_PAIRS ≡ map hex_byte (range_with_len 0 256)
listed = refl

pub pair_listed : (byte : ℕ) (d : List ℕ) → byte < 256 → get_or HEX_PAIRS byte d ≡ hex_byte byte
pair_listed byte d small =
    ap (λ (pairs : List (List ℕ)). get_or pairs byte d) listed ∙ get_or-map-range_with_len hex_byte 0 256 byte byte d small (omega arith)

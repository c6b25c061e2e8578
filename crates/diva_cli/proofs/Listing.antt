-- The lines of an image, one by one.
use Rattle.std.proofs.Common.{◌≡◌, ◌<◌, ◌+◌, ◌*◌, ℕ, [], length, get_or, arith}
use Rattle.std.specs.Int.{div_ceil}
use Rattle.std.proofs.lemmas.List.FromFn.{length-map-range_with_len, get_or-map-range_with_len}
use Rattle.diva_image.specs.Layout.{Layout}
use Rattle.diva_image.specs.ImageLayout.{layout}
use Rattle.diva_image.specs.declared.image.Image.{Image}
use Rattle.diva_asm.specs.Listing.{list_line, listing_of, word_at}

pub length_listing : (i : Layout) → length (listing_of i) ≡ div_ceil (length i.payload) 4
unfolding listing_of
length_listing i = length-map-range_with_len (λ n. list_line (i.base + 4 * n) (word_at i.payload (4 * n))) 0 (div_ceil (length i.payload) 4)

pub line_listed : (i : Layout) (at : ℕ) → at < length (listing_of i) → get_or (listing_of i) at [] ≡ list_line (i.base + 4 * at) (word_at i.payload (4 * at))
unfolding listing_of
line_listed i at inside =
    let h : at < div_ceil (length i.payload) 4 = rw length_listing at inside in
    get_or-map-range_with_len (λ n. list_line (i.base + 4 * n) (word_at i.payload (4 * n))) 0 (div_ceil (length i.payload) 4) at at [] h (omega arith)

-- each line stands at a byte of the payload
pub place_inside : (i : Image) (at : ℕ) → at < length (listing_of (layout i)) → 4 * at < length i.payload
place_inside i at inside =
    let h : at < div_ceil (length i.payload) 4 = rw length_listing at inside in omega arith

-- What is written in version 1 is read again.
use Rattle.std.proofs.Common.{◌≡◌, ◌≤◌, ℕ, ◌+◌, List, length, None, arith, ap, subst, sym}
use Rattle.std.specs.Prelude.{Ok}
use Rattle.std.specs.Option.{option_or}
use Rattle.std.proofs.lemmas.Grind.{common_steps}
use Rattle.diva_image.specs.declared.header.Header.{Header}
use Rattle.diva_image.specs.declared.image.Image.{Image}
use Rattle.diva_image.specs.Layout.{Layout}
use Rattle.diva_image.specs.Inner.{IsLayout}
use Rattle.diva_image.specs.ImageLayout.{layout, Reads}
use Rattle.diva_image.specs.Header.{head_fault, header_size, header_of, length_fault}
use Rattle.diva_image.specs.Images.{body_fault, fault_of, image_of, image_bytes, image_under, payload_fault, payload_of, whole_fault, whole_header}
use Rattle.diva_image.proofs.Headers.{header_again, head_again, length_again, length_sound}

-- bytes whose header and body have no fault have none
pub faultless_parts : (bytes : List ℕ) (h : Header) → header_of bytes ≡ h → head_fault bytes ≡ None → body_fault h.version bytes ≡ None
    → fault_of bytes ≡ None
unfolding fault_of
faultless_parts bytes h same head body =
    rw head (subst (λ (k : Header). body_fault k.version bytes ≡ None) (sym same) body)

-- the image of bytes with this header
pub image_with : (bytes : List ℕ) (h : Header) → header_of bytes ≡ h → image_of bytes ≡ image_under h (payload_of h.version bytes)
image_with bytes h same = ap (λ (k : Header). image_under k (payload_of k.version bytes)) same

payload_sound : (size len : ℕ) → len ≤ size → payload_fault size len ≡ None
unfolding payload_fault
payload_sound size len fits = grind (arith, common_steps)

whole_sound : (bytes : List ℕ) (h : Header) → header_of bytes ≡ h → h.last ≤ h.size → length bytes ≡ header_size + h.last → whole_fault bytes ≡ None
unfolding whole_fault
whole_sound bytes h same fits whole =
    subst (λ (k : Header). option_or (payload_fault k.size k.last) (length_fault (length bytes) (header_size + k.last)) ≡ None) (sym same)
    (rw (payload_sound h.size h.last fits, whole) (length_sound (header_size + h.last)))

module _ (i : Layout) (r : IsLayout i.base i.size i.entry (length i.payload)) where
  header : header_of (image_bytes i) ≡ whole_header i.base i.size i.entry (length i.payload)
  header = header_again (whole_header i.base i.size i.entry (length i.payload)) i.payload r.placed (omega arith)

  sound_again : fault_of (image_bytes i) ≡ None
  sound_again =
      faultless_parts (image_bytes i) (whole_header i.base i.size i.entry (length i.payload)) header
      (head_again (whole_header i.base i.size i.entry (length i.payload)) i.payload r.placed (omega arith))
      (whole_sound (image_bytes i) (whole_header i.base i.size i.entry (length i.payload)) header r.payload_fits
      (length_again (whole_header i.base i.size i.entry (length i.payload)) i.payload r.placed (omega arith)))

  same_again : image_of (image_bytes i) ≡ i
  same_again = image_with (image_bytes i) (whole_header i.base i.size i.entry (length i.payload)) header

-- the bytes of an image are read to the image again
pub read_again : (i : Image) (bytes : List ℕ) → bytes ≡ image_bytes (layout i) → Reads bytes (Ok i)
read_again i bytes spelled =
    subst (λ (b : List ℕ). Reads b (Ok i)) (sym spelled) (sound_again (layout i) i.rules, same_again (layout i) i.rules)

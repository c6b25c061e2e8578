-- The image that bytes are, the first fault of bytes that are not an image, and the bytes of an image in version 1.
-- Cited by `Image::new` and `write`; in `ImageLayout.antt`, for `read`.
use Rattle.std.specs.Prelude.{ℕ, ◌+◌, nat_lt, List, length, drop, ◌++◌, Option, Some, None, is_none, if◌then◌else◌}
use Rattle.std.specs.Option.{option_or}
use Rattle.diva_image.specs.Layout.{Layout}
use Rattle.diva_image.specs.Header.{fault, head_fault, header_bytes, header_fault, header_of, header_size, length_fault}
use Rattle.diva_image.specs.Segments.{segmented_fault, segmented_payload}
use Rattle.diva_image.specs.declared.header.Header.{Header}
use Rattle.diva_image.specs.declared.version.Version.{Version}
use Rattle.diva_image.specs.declared.version.Version.TheVariants.{One, Two}
use Rattle.diva_image.specs.declared.fault.Fault.{Fault}

-- 7: the payload of version 1 is longer than memory
unfoldable pub payload_fault : (size len : ℕ) → Option Fault
payload_fault size len = if nat_lt size len then fault 7 20 else None

-- the first fault of a file of version 1 whose header has none
unfoldable pub whole_fault : List ℕ → Option Fault
whole_fault bytes =
    let h = header_of bytes in option_or (payload_fault h.size h.last) (length_fault (length bytes) (header_size + h.last))

-- the first fault behind the header
abbrev pub body_fault : Version → List ℕ → Option Fault
body_fault One bytes = whole_fault bytes
body_fault Two bytes = segmented_fault bytes

-- the first fault of the bytes
unfoldable pub fault_of : List ℕ → Option Fault
fault_of bytes = option_or (head_fault bytes) (body_fault (header_of bytes).version bytes)

-- the first bytes of memory, in version 1 all that stand behind the header
abbrev pub payload_of : Version → List ℕ → List ℕ
payload_of One bytes = drop header_size bytes
payload_of Two bytes = segmented_payload bytes

-- the image of a header and a payload
abbrev pub image_under : Header → List ℕ → Layout
image_under h payload = record { base = h.base; size = h.size; entry = h.entry; payload = payload }

-- the image of bytes that have no fault
abbrev pub image_of : List ℕ → Layout
image_of bytes = image_under (header_of bytes) (payload_of (header_of bytes).version bytes)

-- the header of an image in version 1
abbrev pub whole_header : (base size entry len : ℕ) → Header
whole_header base size entry len = record { version = One; base = base; size = size; entry = entry; last = len }

-- the image of these parts, if they keep the rules
abbrev pub image_from : ℕ → ℕ → ℕ → List ℕ → Option Layout
image_from base size entry payload =
    let header = whole_header base size entry (length payload) in
    if is_none (option_or (header_fault header) (payload_fault size (length payload))) then Some (image_under header payload) else None

-- the bytes of an image in version 1: its header, and the payload
abbrev pub image_bytes : Layout → List ℕ
image_bytes i = header_bytes (whole_header i.base i.size i.entry (length i.payload)) ++ i.payload

-- The bytes of an image in version 2. There is one spelling of each image: its segments are those that hold what is not 0.
-- Cited by `write2`.
use Rattle.std.specs.Prelude.{◌≡◌, ℕ, zero, suc, ◌+◌, ◌-◌, ◌/◌, ◌==◌, Bool, List, [], ◌∷◌, ◌++◌, length, take, drop, None, if◌then◌else◌}
use Rattle.std.specs.List.{flat_map, list_all}
use Rattle.std.specs.Int.{to_le_bytes, w32}
use Rattle.diva_image.specs.Layout.{BeginsAs, Layout}
use Rattle.diva_image.specs.Header.{header_bytes}
use Rattle.diva_image.specs.Images.{fault_of, image_of}
use Rattle.diva_image.specs.Segments.{behind, most_segments}
use Rattle.diva_image.specs.declared.segment.Segment.{Segment}
use Rattle.diva_image.specs.declared.version.Version.TheVariants.{Two}

-- how many bytes a block has
abbrev pub block_size : ℕ
block_size = 64

-- the first n blocks of these bytes; the last one is perhaps shorter
abbrev pub blocks_in : ℕ → List ℕ → List (List ℕ)
blocks_in zero bytes = []
blocks_in (suc n) bytes = take block_size bytes ∷ blocks_in n (drop block_size bytes)

-- these bytes, cut into blocks
abbrev pub blocks_of : List ℕ → List (List ℕ)
blocks_of bytes = blocks_in ((length bytes + (block_size - 1)) / block_size) bytes

-- each byte of a block is 0
abbrev pub is_zero_block : List ℕ → Bool
is_zero_block block = list_all (λ byte. byte == 0) block

-- a segment before others, which is one with the first of them where that begins at its end
abbrev pub joined : Segment → List Segment → List Segment
joined s [] = s ∷ []
joined s (next ∷ rest) =
    if behind s == next.addr then record { addr = s.addr; len = s.len + next.len } ∷ rest else s ∷ next ∷ rest

-- the stretches of blocks that are not of zeros alone, the first block being at an address
abbrev pub stretches : ℕ → List (List ℕ) → List Segment
stretches addr [] = []
stretches addr (block ∷ rest) =
    let others = stretches (addr + length block) rest in
    if is_zero_block block then others else joined (record { addr = addr; len = length block }) others

-- from the first of these segments to the end of the last one
abbrev pub spanned : Segment → List Segment → Segment
spanned s [] = s
spanned s (next ∷ rest) = spanned (record { addr = s.addr; len = behind next - s.addr }) rest

-- at most n + 1 segments, of which the last goes on to the end of all
abbrev pub limited : ℕ → List Segment → List Segment
limited n [] = []
limited zero (s ∷ rest) = spanned s rest ∷ []
limited (suc n) (s ∷ rest) = s ∷ limited n rest

-- the segments of an image: the stretches of its payload; where there are more than a file may have, the last one that it may
-- have goes on to the end of all
abbrev pub canonical : Layout → List Segment
canonical i = limited (most_segments - 1) (stretches i.base (blocks_of i.payload))

-- what the table has for a segment
abbrev pub pair_bytes : Segment → List ℕ
pair_bytes s = to_le_bytes w32 s.addr ++ to_le_bytes w32 s.len

-- the bytes of a segment, in a payload that begins at base
abbrev pub bytes_at : (base : ℕ) → List ℕ → Segment → List ℕ
bytes_at base payload s = take s.len (drop (s.addr - base) payload)

-- the header, the table, and the bytes of each segment
abbrev pub segmented_bytes : Layout → List ℕ
segmented_bytes i =
    let segments = canonical i in
    header_bytes (record { version = Two; base = i.base; size = i.size; entry = i.entry; last = length segments })
    ++ flat_map pair_bytes segments ++ flat_map (bytes_at i.base i.payload) segments

-- these bytes are an image that begins as another one does
pub record BeginsAgain (i : Layout) (bytes : List ℕ) : Type 0 where
  pub faultless : fault_of bytes ≡ None
  pub begins : BeginsAs (image_of bytes) i

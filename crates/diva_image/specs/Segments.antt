-- A file of version 2: behind the header stands a table of segments, an address and a number of bytes for each, and then
-- their bytes, one segment's behind the other's.
-- Cited in `Images.antt`, for `read`.
use Rattle.std.specs.Prelude.{ℕ, zero, suc, ◌+◌, ◌-◌, ◌*◌, ◌&&◌, nat_lt, nat_le, Bool, List, [], ◌∷◌, ◌++◌, length, take, drop, replicate, Option, None, if◌then◌else◌}
use Rattle.std.specs.List.{sum_by}
use Rattle.std.specs.Option.{option_or}
use Rattle.diva_image.specs.Header.{fault, header_of, header_size, length_fault, word_at}
use Rattle.diva_image.specs.declared.fault.Fault.{Fault}
use Rattle.diva_image.specs.declared.segment.Segment.{Segment}

-- the most segments that a file has
abbrev pub most_segments : ℕ
most_segments = 16

-- how many bytes the table has for each segment: two numbers
abbrev pub pair_size : ℕ
pair_size = 8

-- the first n segments of a table
abbrev pub segments_in : ℕ → List ℕ → List Segment
segments_in zero table = []
segments_in (suc n) table = record { addr = word_at 0 table; len = word_at 4 table } ∷ segments_in n (drop pair_size table)

-- the segments of a file
abbrev pub segments_of : List ℕ → List Segment
segments_of bytes = segments_in (header_of bytes).last (drop header_size bytes)

-- the address behind a segment
abbrev pub behind : Segment → ℕ
behind s = s.addr + s.len

-- a segment has bytes, and lies between two addresses
abbrev pub is_between : (least most : ℕ) → Segment → Bool
is_between least most s = nat_lt 0 s.len && nat_le least s.addr && nat_le (behind s) most

-- 12, at its place: the first segment that has no bytes, begins below base or below the end of the one before it, or ends
-- behind memory
unfoldable pub segment_fault : (least most place : ℕ) → List Segment → Option Fault
segment_fault least most place [] = None
segment_fault least most place (s ∷ rest) =
    if is_between least most s then segment_fault (behind s) most (place + pair_size) rest else fault 12 place

-- where the bytes of the segments stand
abbrev pub data_place : List ℕ → ℕ
data_place bytes = header_size + pair_size * (header_of bytes).last

-- the first fault of the table's length
unfoldable pub table_fault : List ℕ → Option Fault
table_fault bytes =
    -- 10: there are more segments than a file may have
    if nat_lt most_segments (header_of bytes).last then fault 10 20
    -- 11, at the length: the table is cut short
    else (if nat_lt (length bytes) (data_place bytes) then fault 11 (length bytes) else None)

-- the first fault of a file of version 2 whose header has none
unfoldable pub segmented_fault : List ℕ → Option Fault
segmented_fault bytes =
    let h = header_of bytes in
    option_or (table_fault bytes)
    (option_or (segment_fault h.base (h.base + h.size) header_size (segments_of bytes))
    (length_fault (length bytes) (data_place bytes + sum_by (λ s. s.len) (segments_of bytes))))

-- the bytes of memory from an address to the end of the last segment: each segment's at its address, and zeros between them
abbrev pub memory_from : ℕ → List Segment → (bytes : List ℕ) → List ℕ
memory_from addr [] bytes = []
memory_from addr (s ∷ rest) bytes =
    replicate (s.addr - addr) 0 ++ take s.len bytes ++ memory_from (behind s) rest (drop s.len bytes)

-- the payload of a file of version 2
abbrev pub segmented_payload : List ℕ → List ℕ
segmented_payload bytes = memory_from (header_of bytes).base (segments_of bytes) (drop (data_place bytes) bytes)

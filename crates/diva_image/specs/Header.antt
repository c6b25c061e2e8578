-- The header of an image's file, which both versions begin with, and its first fault.
-- Cited in `Images.antt`, for `read`.
use Rattle.std.specs.Prelude.{ℕ, ◌+◌, ◌%◌, ◌^◌, ◌==◌, ◌&&◌, ◌||◌, not, nat_lt, nat_le, nat_eq, Bool, List, length, drop, ◌++◌, codes, Option, Some, None, if◌then◌else◌}
use Rattle.std.specs.List.{starts_with}
use Rattle.std.specs.Option.{option_or}
use Rattle.std.specs.Int.{to_le_bytes, w32}
use Rattle.byteorder.specs.Endian.{little_number}
use Rattle.diva_image.specs.Layout.{most_size}
use Rattle.diva_image.specs.declared.header.Header.{Header}
use Rattle.diva_image.specs.declared.version.Version.{Version}
use Rattle.diva_image.specs.declared.version.Version.TheVariants.{One, Two}
use Rattle.diva_image.specs.declared.fault.Fault.{Fault}

-- how many bytes the header has: the letters, the version, and four numbers
abbrev pub header_size : ℕ
header_size = 24

-- the number of the four bytes from a place on, the lowest byte first
abbrev pub word_at : ℕ → List ℕ → ℕ
word_at place bytes = little_number 4 (drop place bytes)

-- the version that a number tells; a number that is neither 1 nor 2 is a fault
abbrev pub version_of : ℕ → Version
version_of number = if number == 2 then Two else One

abbrev pub number_of_version : Version → ℕ
number_of_version One = 1
number_of_version Two = 2

-- the version, and the numbers that follow it. The last one is how many bytes the payload has in version 1, and how many
-- segments there are in version 2.
abbrev pub header_of : List ℕ → Header
header_of bytes =
    record {
      version = version_of (word_at 4 bytes);
      base = word_at 8 bytes;
      size = word_at 12 bytes;
      entry = word_at 16 bytes;
      last = word_at 20 bytes;
    }

abbrev pub is_aligned : ℕ → Bool
is_aligned n = n % 4 == 0

-- size is allowed, and memory ends at 2^32 at the latest
abbrev pub is_size : ℕ → ℕ → Bool
is_size base size = is_aligned size && nat_le 4 size && nat_le size most_size && nat_le (base + size) (2 ^ 32)

-- entry is a place for an instruction in memory
abbrev pub is_entry : ℕ → ℕ → ℕ → Bool
is_entry base size entry = is_aligned entry && nat_le base entry && nat_lt entry (base + size)

abbrev pub fault : ℕ → ℕ → Option Fault
fault kind place = Some (record { kind = kind; place = place })

-- the first fault of the length, the letters and the version
unfoldable pub start_fault : List ℕ → Option Fault
start_fault bytes =
    -- 1, at the length: there are fewer bytes than a header has
    if nat_lt (length bytes) header_size then fault 1 (length bytes)
    -- 2: they do not begin with DIVA
    else (if not (starts_with nat_eq bytes (codes "DIVA")) then fault 2 0
    -- 3: the version is neither 1 nor 2
    else (if not (word_at 4 bytes == 1 || word_at 4 bytes == 2) then fault 3 4 else None))

-- the first fault of the numbers that say where memory lies, and where it is entered
unfoldable pub header_fault : Header → Option Fault
header_fault h =
    -- 4: base is not a multiple of 4
    if not (is_aligned h.base) then fault 4 8
    -- 5: size is not a multiple of 4, not in 4 to most_size, or base + size is past 2^32
    else (if not (is_size h.base h.size) then fault 5 12
    -- 6: entry is not a multiple of 4, below base, or not below base + size
    else (if not (is_entry h.base h.size h.entry) then fault 6 16 else None))

-- the first fault of the header
abbrev pub head_fault : List ℕ → Option Fault
head_fault bytes = option_or (start_fault bytes) (header_fault (header_of bytes))

-- the fault of a file whose bytes do not end where the last that are loaded do
unfoldable pub length_fault : (length end : ℕ) → Option Fault
length_fault length end =
    -- 8, at the length: they are cut short
    if nat_lt length end then fault 8 length
    -- 9, at their end: bytes follow them
    else (if nat_lt end length then fault 9 end else None)

-- the letters, the version, base, size, entry and the last number, each number with its lowest byte first
abbrev pub header_bytes : Header → List ℕ
header_bytes h =
    codes "DIVA" ++ to_le_bytes w32 (number_of_version h.version) ++ to_le_bytes w32 h.base ++ to_le_bytes w32 h.size ++ to_le_bytes w32 h.entry
    ++ to_le_bytes w32 h.last

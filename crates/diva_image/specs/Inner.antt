-- What only private contracts of this crate cite. A reader of its promises can pass over it.
use Rattle.std.specs.Prelude.{◌≡◌, ◌≤◌, ◌<◌, ℕ, zero, suc, ◌+◌, ◌-◌, ◌%◌, ◌*◌, ◌^◌, ◌==◌, ◌||◌, List, [], ◌∷◌, length, Option, Some, None, if◌then◌else◌}
use Rattle.diva_image.specs.Layout.{most_size}
use Rattle.diva_image.specs.Header.{head_fault, header_of, header_size}
use Rattle.diva_image.specs.Segments.{behind}
use Rattle.diva_image.specs.Elf.{elf_header_fault, elf_header_of, elf_header_size, has_bytes, program_header_size}
use Rattle.diva_image.specs.declared.elf_header.ProgramHeader.{ProgramHeader}
use Rattle.diva_image.specs.declared.fault.Kind.{Kind}
use Rattle.diva_image.specs.declared.fault.Kind.TheVariants.{ShortHeader, Magic, Version, Base, Size, Entry, Length, CutShort, TrailingBytes, ManySegments, ShortTable, Segment as OfSegment, ShortElf, ElfIdentity, ElfType, ElfMachine, ProgramHeaderSize, ProgramHeaders, Dynamic, Load, NoLoad, ElfSize, ElfEntry}
use Rattle.diva_image.specs.declared.header.Header.{Header}
use Rattle.diva_image.specs.declared.segment.Segment.{Segment}

-- the rules of where memory lies, and where it is entered
pub record IsPlaced (base size entry : ℕ) : Type 0 where
  pub base_aligned : base % 4 ≡ 0
  pub size_aligned : size % 4 ≡ 0
  pub size_least : 4 ≤ size
  pub size_most : size ≤ most_size
  pub range : base + size ≤ 2 ^ 32
  pub entry_aligned : entry % 4 ≡ 0
  pub entry_least : base ≤ entry
  pub entry_most : entry < base + size

-- the rules of an image whose payload has len bytes
pub record IsLayout (base size entry len : ℕ) : Type 0 where
  pub placed : IsPlaced base size entry
  pub payload_fits : len ≤ size

-- the header of bytes whose header has no fault
pub record IsHeader (bytes : List ℕ) (h : Header) : Type 0 where
  pub header : h ≡ header_of bytes
  pub faultless : head_fault bytes ≡ None
  pub long : header_size ≤ length bytes
  pub rules : IsPlaced h.base h.size h.entry

-- segments that lie between two addresses, in order and apart
abbrev pub ArePlaced : (least most : ℕ) → List Segment → Type 0
ArePlaced least most [] = Unit {0}
ArePlaced least most (s ∷ rest) = (0 < s.len) × (least ≤ s.addr) × (behind s ≤ most) × ArePlaced (behind s) most rest

-- the address behind the last of them, or the given one where there is none
abbrev pub end_of_segments : ℕ → List Segment → ℕ
end_of_segments addr [] = addr
end_of_segments addr (s ∷ rest) = end_of_segments (behind s) rest

-- segments with a block more behind them, at most n + 1: the block goes on the last segment where that ends at the block,
-- or there are as many as there may be
abbrev pub extended : ℕ → List Segment → Segment → List Segment
extended n [] block = block ∷ []
extended n (s ∷ []) block =
    if behind s == block.addr || n == 0 then record { addr = s.addr; len = behind block - s.addr } ∷ [] else s ∷ block ∷ []
extended zero (s ∷ t ∷ rest) block = s ∷ extended zero (t ∷ rest) block
extended (suc n) (s ∷ t ∷ rest) block = s ∷ extended n (t ∷ rest) block

-- the number of a kind of fault
abbrev pub number_of_kind : Kind → ℕ
number_of_kind ShortHeader = 1
number_of_kind Magic = 2
number_of_kind Version = 3
number_of_kind Base = 4
number_of_kind Size = 5
number_of_kind Entry = 6
number_of_kind Length = 7
number_of_kind CutShort = 8
number_of_kind TrailingBytes = 9
number_of_kind ManySegments = 10
number_of_kind ShortTable = 11
number_of_kind OfSegment = 12
number_of_kind ShortElf = 20
number_of_kind ElfIdentity = 21
number_of_kind ElfType = 22
number_of_kind ElfMachine = 23
number_of_kind ProgramHeaderSize = 24
number_of_kind ProgramHeaders = 25
number_of_kind Dynamic = 26
number_of_kind Load = 27
number_of_kind NoLoad = 28
number_of_kind ElfSize = 29
number_of_kind ElfEntry = 30

-- bytes whose ELF header has no fault
pub record IsElf (bytes : List ℕ) : Type 0 where
  pub faultless : elf_header_fault bytes ≡ None
  pub long : elf_header_size ≤ length bytes
  pub table : (elf_header_of bytes).e_phoff + program_header_size * (elf_header_of bytes).e_phnum ≤ length bytes

-- what the loads of an executable come to: the last one ends behind the beginning of the first one
abbrev pub IsExtent : Option ℕ → (end : ℕ) → Type 0
IsExtent None end = Unit {0}
IsExtent (Some first) end = (first < end) × (end ≤ 2 ^ 32)

-- the address behind the last byte of the file that is loaded, or the given one where none is
abbrev pub end_of_bytes : ℕ → List ProgramHeader → ℕ
end_of_bytes end [] = end
end_of_bytes end (h ∷ rest) = if has_bytes h then end_of_bytes (h.p_vaddr + h.p_filesz) rest else end_of_bytes end rest

-- The image of an executable: an ELF file of 32 bits, with its numbers lowest byte first, for RISC-V. Its program headers
-- say what it loads. Fields have the names of the ELF specification.
-- Cited in `ImageLayout.antt`, for `read_elf`.
use Rattle.std.specs.Prelude.{ℕ, zero, suc, ◌+◌, ◌-◌, ◌*◌, ◌/◌, ◌^◌, ◌==◌, ◌&&◌, ◌||◌, not, nat_lt, nat_le, Bool, List, [], ◌∷◌, ◌++◌, length, take, drop, replicate, slice_index, Option, Some, None, if◌then◌else◌}
use Rattle.std.specs.Option.{option_or}
use Rattle.byteorder.specs.Endian.{little_number}
use Rattle.diva_image.specs.Layout.{Layout, most_size}
use Rattle.diva_image.specs.Header.{fault, is_entry, word_at}
use Rattle.diva_image.specs.declared.elf_header.ElfHeader.{ElfHeader}
use Rattle.diva_image.specs.declared.elf_header.ProgramHeader.{ProgramHeader}
use Rattle.diva_image.specs.declared.fault.Fault.{Fault}

-- ---- the fields that are looked at, each with its place

-- the number of the two bytes from a place on, the lowest byte first
abbrev pub half_at : ℕ → List ℕ → ℕ
half_at place bytes = little_number 2 (drop place bytes)

abbrev pub elf_header_size : ℕ
elf_header_size = 52

abbrev pub elf_header_of : List ℕ → ElfHeader
elf_header_of bytes =
    record {
      e_type = half_at 16 bytes;
      e_machine = half_at 18 bytes;
      e_entry = word_at 24 bytes;
      e_phoff = word_at 28 bytes;
      e_phentsize = half_at 42 bytes;
      e_phnum = half_at 44 bytes;
    }

abbrev pub program_header_size : ℕ
program_header_size = 32

abbrev pub program_header_of : List ℕ → ProgramHeader
program_header_of bytes =
    record {
      p_type = word_at 0 bytes;
      p_offset = word_at 4 bytes;
      p_vaddr = word_at 8 bytes;
      p_filesz = word_at 16 bytes;
      p_memsz = word_at 20 bytes;
    }

-- the first n program headers of a table
abbrev pub program_headers_in : ℕ → List ℕ → List ProgramHeader
program_headers_in zero table = []
program_headers_in (suc n) table = program_header_of table ∷ program_headers_in n (drop program_header_size table)

-- those of a file
abbrev pub program_headers : List ℕ → List ProgramHeader
program_headers bytes =
    let h = elf_header_of bytes in program_headers_in h.e_phnum (drop h.e_phoff bytes)

-- ---- what a program header says

-- it is for a dynamic linker
abbrev pub is_dynamic : ProgramHeader → Bool
is_dynamic h = h.p_type == 2 || h.p_type == 3

-- it is a load: bytes of the file, and zeros behind them, are a part of memory
abbrev pub is_load : ProgramHeader → Bool
is_load h = h.p_type == 1 && nat_lt 0 h.p_memsz

-- it is a load with bytes of the file
abbrev pub has_bytes : ProgramHeader → Bool
has_bytes h = is_load h && nat_lt 0 h.p_filesz

-- the address behind what it loads
abbrev pub memory_end : ProgramHeader → ℕ
memory_end h = h.p_vaddr + h.p_memsz

-- what it loads lies behind an address and ends at 2^32 at the latest, and its bytes are in a file of so many
abbrev pub can_load : (least length : ℕ) → ProgramHeader → Bool
can_load least length h =
    nat_le h.p_filesz h.p_memsz && nat_le (h.p_offset + h.p_filesz) length && nat_le (memory_end h) (2 ^ 32) && nat_le least h.p_vaddr

-- ---- what all of them come to

-- the address of the first load, if there is one
abbrev pub first_load : List ProgramHeader → Option ℕ
first_load [] = None
first_load (h ∷ rest) = if is_load h then Some h.p_vaddr else first_load rest

-- the address behind the last load, or the given one where there is none
abbrev pub end_of_loads : ℕ → List ProgramHeader → ℕ
end_of_loads end [] = end
end_of_loads end (h ∷ rest) = if is_load h then end_of_loads (memory_end h) rest else end_of_loads end rest

-- the bytes of memory from an address to the last byte of the file that is loaded: each load's at its address, and zeros
-- between them
abbrev pub loaded_from : ℕ → List ProgramHeader → (file : List ℕ) → List ℕ
loaded_from addr [] file = []
loaded_from addr (h ∷ rest) file =
    if has_bytes h
    then replicate (h.p_vaddr - addr) 0 ++ take h.p_filesz (drop h.p_offset file) ++ loaded_from (h.p_vaddr + h.p_filesz) rest file
    else loaded_from addr rest file

-- a number made smaller, or larger, to be a multiple of 4
abbrev pub rounded_down : ℕ → ℕ
rounded_down n = n / 4 * 4

abbrev pub rounded_up : ℕ → ℕ
rounded_up n = rounded_down (n + 3)

-- how many bytes memory has, from the first load to the end of the last one and the room behind it
abbrev pub elf_size : (room first end : ℕ) → ℕ
elf_size room first end = rounded_up end - rounded_down first + room

-- ---- faults

-- the first fault of the header
unfoldable pub elf_header_fault : List ℕ → Option Fault
elf_header_fault bytes =
    let h = elf_header_of bytes in
    -- 20, at the length: there are fewer bytes than the header has
    if nat_lt (length bytes) elf_header_size then fault 20 (length bytes)
    -- 21: it is not of 32 bits, its numbers are not lowest byte first, or its version is not 1
    else (if not (slice_index bytes 4 == 1) then fault 21 4
    else (if not (slice_index bytes 5 == 1) then fault 21 5
    else (if not (slice_index bytes 6 == 1) then fault 21 6
    -- 22: it is not an executable that is placed already
    else (if not (h.e_type == 2) then fault 22 16
    -- 23: it is not for RISC-V
    else (if not (h.e_machine == 243) then fault 23 18
    -- 24: it has program headers of another size
    else (if nat_lt 0 h.e_phnum && not (h.e_phentsize == program_header_size) then fault 24 42
    -- 25: they reach past its end
    else (if nat_lt (length bytes) (h.e_phoff + program_header_size * h.e_phnum) then fault 25 28 else None)))))))

-- the fault of the first program header that has one; the ends of loads ascend, so the end of the one before is the greatest
unfoldable pub load_fault : (least length place : ℕ) → List ProgramHeader → Option Fault
load_fault least length place [] = None
load_fault least length place (h ∷ rest) =
    -- 26: it is for a dynamic linker
    if is_dynamic h then fault 26 place
    else (if not (is_load h) then load_fault least length (place + program_header_size) rest
    -- 27: it is a load with more bytes of the file than of memory, of bytes that reach past the file's end, that ends past 2^32,
    -- or that begins below the end of an earlier load
    else (if not (can_load least length h) then fault 27 place
    else load_fault (memory_end h) length (place + program_header_size) rest))

-- the first fault of memory, by its first load and the end of the last one
unfoldable pub bounds_fault : (room entry : ℕ) → Option ℕ → (end : ℕ) → Option Fault
-- 28: there is no load
bounds_fault room entry None end = fault 28 44
bounds_fault room entry (Some first) end =
    -- 29: memory has more bytes than it may have, or ends past 2^32
    if not (nat_le (elf_size room first end) most_size && nat_le (rounded_down first + elf_size room first end) (2 ^ 32)) then fault 29 0
    -- 30: the entry is not a multiple of 4, or not in memory
    else (if not (is_entry (rounded_down first) (elf_size room first end) entry) then fault 30 24 else None)

-- the first fault of an executable
unfoldable pub elf_fault : (room : ℕ) → List ℕ → Option Fault
elf_fault room bytes =
    let h = elf_header_of bytes in
    let hs = program_headers bytes in
    option_or (elf_header_fault bytes)
    (option_or (load_fault 0 (length bytes) h.e_phoff hs) (bounds_fault room h.e_entry (first_load hs) (end_of_loads 0 hs)))

-- the image of an executable whose first load is at this address
abbrev pub elf_from : (room : ℕ) → List ℕ → Option ℕ → Layout
elf_from room bytes None = record { base = 0; size = 0; entry = 0; payload = [] }
elf_from room bytes (Some first) =
    let hs = program_headers bytes in
    record {
      base = rounded_down first;
      size = elf_size room first (end_of_loads 0 hs);
      entry = (elf_header_of bytes).e_entry;
      payload = loaded_from (rounded_down first) hs bytes;
    }

-- the image of an executable that has no fault
abbrev pub elf_of : (room : ℕ) → List ℕ → Layout
elf_of room bytes = elf_from room bytes (first_load (program_headers bytes))

-- The program headers of an executable, one after another.
use Rattle.std.proofs.Common.{◌≡◌, ◌≤◌, ◌<◌, ℕ, suc, ◌+◌, ◌-◌, ◌*◌, ◌^◌, ◌⊎◌, inl, inr, nat_lt, Bool, List, [], ◌∷◌, ◌++◌, length, take, drop, replicate, Option, Some, None, true, false, not, if◌then◌else◌, refl, arith, ◌∙◌, ap, subst, sym}
use Rattle.std.specs.Option.{option_or}
use Rattle.std.proofs.lemmas.Grind.{common_steps}
use Rattle.std.proofs.lemmas.List.{append_assoc, drop-drop, length-append, length-drop, length-replicate, length-take, length-take-le}
use Rattle.diva_image.specs.Elf.{can_load, elf_size, end_of_loads, first_load, has_bytes, is_dynamic, is_load, load_fault, loaded_from, rounded_down, memory_end, program_header_of, program_header_size, program_headers_in}
use Rattle.std.specs.Prelude.{IsSome}
use Rattle.diva_image.specs.Inner.{IsExtent, end_of_bytes}
use Rattle.diva_image.specs.declared.elf_header.ProgramHeader.{ProgramHeader}
use Rattle.diva_image.specs.declared.fault.Fault.{Fault}

-- those that are left, from a place on
abbrev pub headers_from : (n at : ℕ) (table : List ℕ) → List ProgramHeader
headers_from n at table = program_headers_in (n - at) (drop (program_header_size * at) table)

-- they begin with the next one, which was read
pub next_header : (n at : ℕ) (table : List ℕ) (h : ProgramHeader) → at < n → h ≡ program_header_of (drop (program_header_size * at) table)
    → headers_from n at table ≡ h ∷ headers_from n (at + 1) table
next_header n at table h below read =
    let count : n - at ≡ suc (n - (at + 1)) = omega arith in
    let later : drop program_header_size (drop (program_header_size * at) table) ≡ drop (program_header_size * (at + 1)) table
    = drop-drop program_header_size (program_header_size * at) table ∙ ap (λ (k : ℕ). drop k table) (omega arith) in
    rw count (ap (λ (xs : List ℕ). program_header_of (drop (program_header_size * at) table) ∷ program_headers_in (n - (at + 1)) xs) later
    ∙ ap (λ (x : ProgramHeader). x ∷ headers_from n (at + 1) table) (sym read))

pub none_left : (n at : ℕ) (table : List ℕ) → n ≤ at → headers_from n at table ≡ []
none_left n at table past = let count : n - at ≡ 0 = omega arith in rw count refl

pub option_or_none : (found : Option ℕ) → option_or found None ≡ found
option_or_none None = refl
option_or_none (Some first) = refl

pub no_fault : (least length place : ℕ) → load_fault least length place [] ≡ None
unfolding load_fault
no_fault least length place = refl

bool_cases : (b : Bool) → (b ≡ true) ⊎ (b ≡ false)
bool_cases true = inl refl
bool_cases false = inr refl

-- what a first program header is that has no fault
passed_by : (dynamic load fits : Bool) (place : ℕ) (skipped after : Option Fault)
    → (if dynamic then Some (record { kind = 26; place = place })
    else (if not load then skipped else (if not fits then Some (record { kind = 27; place = place }) else after))) ≡ None
    → (dynamic ≡ false) × (((load ≡ false) × (skipped ≡ None)) ⊎ ((load ≡ true) × (fits ≡ true) × (after ≡ None)))
passed_by true load fits place skipped after none = cc
passed_by false false fits place skipped after none = (refl, inl (refl, none))
passed_by false true false place skipped after none = cc
passed_by false true true place skipped after none = (refl, inr (refl, refl, none))

passed : (least length place : ℕ) (h : ProgramHeader) (rest : List ProgramHeader) → load_fault least length place (h ∷ rest) ≡ None
    → (is_dynamic h ≡ false)
    × (((is_load h ≡ false) × (load_fault least length (place + program_header_size) rest ≡ None))
    ⊎ ((is_load h ≡ true) × (can_load least length h ≡ true) × (load_fault (memory_end h) length (place + program_header_size) rest ≡ None)))
unfolding load_fault
passed least length place h rest none =
    passed_by (is_dynamic h) (is_load h) (can_load least length h) place (load_fault least length (place + program_header_size) rest)
    (load_fault (memory_end h) length (place + program_header_size) rest) none

can_load-parts : (least length : ℕ) (h : ProgramHeader) → can_load least length h ≡ true
    → (h.p_filesz ≤ h.p_memsz) × (h.p_offset + h.p_filesz ≤ length) × (memory_end h ≤ 2 ^ 32) × (least ≤ h.p_vaddr)
can_load-parts least length h fits = (grind (arith, common_steps), grind (arith, common_steps), grind (arith, common_steps), grind (arith, common_steps))

can_load-from : (least low length : ℕ) (h : ProgramHeader) → low ≤ h.p_vaddr → can_load least length h ≡ true → can_load low length h ≡ true
can_load-from least low length h below fits = grind (arith, common_steps)

is_load-some : (h : ProgramHeader) → is_load h ≡ true → 0 < h.p_memsz
is_load-some h load = grind (arith, common_steps)

-- with a lower least address there is no fault either
pub load_weaker : (least less length place : ℕ) (hs : List ProgramHeader) → less ≤ least → load_fault least length place hs ≡ None
    → load_fault less length place hs ≡ None
unfolding load_fault
load_weaker least less length place [] below none = refl
load_weaker least less length place (h ∷ rest) below none =
    let p = passed least length place h rest none in
    elim p.1 [
      | inl q ↦ rw (p.0, q.0) (load_weaker least less length (place + program_header_size) rest below q.1)
      | inr q ↦ let parts = can_load-parts least length h q.1 in rw (p.0, q.0, can_load-from least less length h (omega arith) q.1) q.2
    ]

-- nor with one that is higher and not above the first load
pub load_from_first : (length place low : ℕ) (hs : List ProgramHeader) (first : ℕ) → first_load hs ≡ Some first → low ≤ first → load_fault 0 length place hs ≡ None
    → load_fault low length place hs ≡ None
unfolding load_fault
load_from_first length place low [] first is-first below none = refl
load_from_first length place low (h ∷ rest) first is-first below none =
    let p = passed 0 length place h rest none in
    elim p.1 [
      | inl q ↦ rw (p.0, q.0) (load_from_first length (place + program_header_size) low rest first (rw q.0 at is-first) below q.1)
      | inr q ↦
          let same : Some h.p_vaddr ≡ Some first = rw q.0 at is-first in
          let vaddr : h.p_vaddr ≡ first = cc in
          rw (p.0, q.0, can_load-from 0 low length h (omega arith) q.1) q.2
    ]

-- where the loads end
pub end_above : (least length place : ℕ) (hs : List ProgramHeader) → load_fault least length place hs ≡ None → least ≤ end_of_loads least hs
end_above least length place [] none = omega arith
end_above least length place (h ∷ rest) none =
    let p = passed least length place h rest none in
    elim p.1 [
      | inl q ↦ rw q.0 (end_above least length (place + program_header_size) rest q.1)
      | inr q ↦
          let parts = can_load-parts least length h q.1 in
          let ih = end_above (memory_end h) length (place + program_header_size) rest q.2 in
          rw q.0 (omega arith)
    ]

pub end_below : (least length place : ℕ) (hs : List ProgramHeader) → load_fault least length place hs ≡ None → least ≤ 2 ^ 32 → end_of_loads least hs ≤ 2 ^ 32
end_below least length place [] none low = low
end_below least length place (h ∷ rest) none low =
    let p = passed least length place h rest none in
    elim p.1 [
      | inl q ↦ rw q.0 (end_below least length (place + program_header_size) rest q.1 low)
      | inr q ↦ rw q.0 (end_below (memory_end h) length (place + program_header_size) rest q.2 (can_load-parts least length h q.1).2)
    ]

pub first_below_end : (least length place : ℕ) (hs : List ProgramHeader) (first : ℕ) → load_fault least length place hs ≡ None → first_load hs ≡ Some first
    → first < end_of_loads least hs
first_below_end least length place [] first none is-first = cc
first_below_end least length place (h ∷ rest) first none is-first =
    let p = passed least length place h rest none in
    elim p.1 [
      | inl q ↦ rw q.0 (first_below_end least length (place + program_header_size) rest first q.1 (rw q.0 at is-first))
      | inr q ↦
          let same : Some h.p_vaddr ≡ Some first = rw q.0 at is-first in
          let vaddr : h.p_vaddr ≡ first = cc in
          let some = is_load-some h q.0 in
          let above = end_above (memory_end h) length (place + program_header_size) rest q.2 in
          rw q.0 (omega arith)
    ]

-- where they end does not depend on what is below the first
pub end_same : (end end' : ℕ) (hs : List ProgramHeader) (first : ℕ) → first_load hs ≡ Some first → end_of_loads end hs ≡ end_of_loads end' hs
end_same end end' [] first is-first = cc
end_same end end' (h ∷ rest) first is-first =
    elim (bool_cases (is_load h)) [
      | inl load ↦ rw load refl
      | inr other ↦ rw other (end_same end end' rest first (rw other at is-first))
    ]

-- how much is loaded
loaded-if : (b : Bool) (addr end : ℕ) (h : ProgramHeader) (rest : List ProgramHeader) (file : List ℕ)
    → h.p_filesz ≤ h.p_memsz → addr ≤ h.p_vaddr → memory_end h ≤ end
    → length (loaded_from (h.p_vaddr + h.p_filesz) rest file) ≤ end - (h.p_vaddr + h.p_filesz) → length (loaded_from addr rest file) ≤ end - addr
    → length (if b then replicate (h.p_vaddr - addr) 0 ++ take h.p_filesz (drop h.p_offset file) ++ loaded_from (h.p_vaddr + h.p_filesz) rest file
    else loaded_from addr rest file) ≤ end - addr
loaded-if true addr end h rest file fits below above behind before = simp (length-append, length-replicate, length-take) (omega arith)
loaded-if false addr end h rest file fits below above behind before = before

pub length-loaded_from : (addr least size place : ℕ) (hs : List ProgramHeader) (file : List ℕ) → addr ≤ least → load_fault least size place hs ≡ None
    → length (loaded_from addr hs file) ≤ end_of_loads least hs - addr
length-loaded_from addr least size place [] file below none = omega arith
length-loaded_from addr least size place (h ∷ rest) file below none =
    let p = passed least size place h rest none in
    elim p.1 [
      | inl q ↦ rw q.0 (length-loaded_from addr least size (place + program_header_size) rest file below q.1)
      | inr q ↦
          let parts = can_load-parts least size h q.1 in
          let above = end_above (memory_end h) size (place + program_header_size) rest q.2 in
          rw q.0 (loaded-if (nat_lt 0 h.p_filesz) addr (end_of_loads (memory_end h) rest) h rest file parts.0 (omega arith) above
          (length-loaded_from (h.p_vaddr + h.p_filesz) (memory_end h) size (place + program_header_size) rest file (omega arith) q.2)
          (length-loaded_from addr (memory_end h) size (place + program_header_size) rest file (omega arith) q.2))
    ]

-- the place of a fault is no matter where there is none
pub any_place : (least size place place' : ℕ) (hs : List ProgramHeader) → load_fault least size place hs ≡ None → load_fault least size place' hs ≡ None
unfolding load_fault
any_place least size place place' [] none = refl
any_place least size place place' (h ∷ rest) none =
    let p = passed least size place h rest none in
    elim p.1 [
      | inl q ↦ rw (p.0, q.0) (any_place least size (place + program_header_size) (place' + program_header_size) rest q.1)
      | inr q ↦ rw (p.0, q.0, q.1) (any_place (memory_end h) size (place + program_header_size) (place' + program_header_size) rest q.2)
    ]

-- a load with bytes of the file, and what is behind it
has_bytes-load : (h : ProgramHeader) → has_bytes h ≡ true → is_load h ≡ true
has_bytes-load h some = grind (arith, common_steps)

pub load_now : (least size place : ℕ) (h : ProgramHeader) (rest : List ProgramHeader) → load_fault least size place (h ∷ rest) ≡ None → has_bytes h ≡ true
    → (least ≤ h.p_vaddr) × (h.p_offset + h.p_filesz ≤ size) × (load_fault (h.p_vaddr + h.p_filesz) size place rest ≡ None)
load_now least size place h rest none some =
    let p = passed least size place h rest none in
    let load = has_bytes-load h some in
    elim p.1 [
      | inl q ↦ cc
      | inr q ↦
          let parts = can_load-parts least size h q.1 in (
            parts.3,
            parts.1,
            any_place (h.p_vaddr + h.p_filesz) size (place + program_header_size) place rest
                (load_weaker (memory_end h) (h.p_vaddr + h.p_filesz) size (place + program_header_size) rest (omega arith) q.2),
          )
    ]

-- what is behind a program header of any kind
pub load_later : (least size place : ℕ) (h : ProgramHeader) (rest : List ProgramHeader) → load_fault least size place (h ∷ rest) ≡ None
    → load_fault least size place rest ≡ None
load_later least size place h rest none =
    let p = passed least size place h rest none in
    elim p.1 [
      | inl q ↦ any_place least size (place + program_header_size) place rest q.1
      | inr q ↦
          let parts = can_load-parts least size h q.1 in
          any_place least size (place + program_header_size) place rest
          (load_weaker (memory_end h) least size (place + program_header_size) rest (omega arith) q.2)
    ]

-- one load more, and one program header more that loads nothing
pub loaded_end : (base : ℕ) (memory more file : List ℕ) (h : ProgramHeader) → base + length memory ≤ h.p_vaddr → h.p_offset + h.p_filesz ≤ length file
    → more ≡ memory ++ replicate (h.p_vaddr - base - length memory) 0 ++ take h.p_filesz (drop h.p_offset file) → base + length more ≡ h.p_vaddr + h.p_filesz
loaded_end base memory more file h below inside appended =
    let room = length-drop h.p_offset file in
    let part : length (take h.p_filesz (drop h.p_offset file)) ≡ h.p_filesz = length-take-le h.p_filesz (drop h.p_offset file) (omega arith) in
    let front = length-append memory (replicate (h.p_vaddr - base - length memory) 0) in
    let zeros = length-replicate {A = ℕ} (h.p_vaddr - base - length memory) 0 in
    let whole = length-append (memory ++ replicate (h.p_vaddr - base - length memory) 0) (take h.p_filesz (drop h.p_offset file)) in
    ap (λ (m : List ℕ). base + length m) appended ∙ omega (arith, front, zeros, whole, part)

pub more_loaded : (base : ℕ) (all memory more file : List ℕ) (h : ProgramHeader) (rest : List ProgramHeader)
    → all ≡ memory ++ loaded_from (base + length memory) (h ∷ rest) file → has_bytes h ≡ true → base + length memory ≤ h.p_vaddr
    → base + length more ≡ h.p_vaddr + h.p_filesz
    → more ≡ memory ++ replicate (h.p_vaddr - base - length memory) 0 ++ take h.p_filesz (drop h.p_offset file)
    → all ≡ more ++ loaded_from (base + length more) rest file
more_loaded base all memory more file h rest made some below end appended =
    let gap : h.p_vaddr - (base + length memory) ≡ h.p_vaddr - base - length memory = omega arith in
    let zeros = replicate (h.p_vaddr - base - length memory) 0 in
    let part = take h.p_filesz (drop h.p_offset file) in
    let behind = loaded_from (h.p_vaddr + h.p_filesz) rest file in
    let at_h : loaded_from (base + length memory) (h ∷ rest) file ≡ zeros ++ part ++ behind = rw (some, gap) refl in
    made ∙ ap (λ (m : List ℕ). memory ++ m) at_h
    ∙ sym (ap (λ (m : List ℕ). m ++ loaded_from (base + length more) rest file) appended
    ∙ ap (λ (n : ℕ). memory ++ zeros ++ part ++ loaded_from n rest file) end
    ∙ simp append_assoc)

pub same_loaded : (addr : ℕ) (h : ProgramHeader) (rest : List ProgramHeader) (file : List ℕ) → has_bytes h ≡ false
    → loaded_from addr (h ∷ rest) file ≡ loaded_from addr rest file
same_loaded addr h rest file none = rw none refl

-- how much memory the bytes of the file fill
bytes_above : (least size place : ℕ) (hs : List ProgramHeader) → load_fault least size place hs ≡ None → least ≤ end_of_bytes least hs
bytes_above least size place [] none = omega arith
bytes_above least size place (h ∷ rest) none =
    elim (bool_cases (has_bytes h)) [
      | inl some ↦
          let now = load_now least size place h rest none some in
          let above = bytes_above (h.p_vaddr + h.p_filesz) size place rest now.2 in
          rw some (omega (arith, now.0, above))
      | inr other ↦ rw other (bytes_above least size place rest (load_later least size place h rest none))
    ]

length-filled : (addr low size place : ℕ) (hs : List ProgramHeader) (file : List ℕ) → load_fault addr size place hs ≡ None
    → length (loaded_from addr hs file) ≤ end_of_bytes low hs - addr
length-filled addr low size place [] file none = omega arith
length-filled addr low size place (h ∷ rest) file none =
    elim (bool_cases (has_bytes h)) [
      | inl some ↦
          let now = load_now addr size place h rest none some in
          let above = bytes_above (h.p_vaddr + h.p_filesz) size place rest now.2 in
          let ih = length-filled (h.p_vaddr + h.p_filesz) (h.p_vaddr + h.p_filesz) size place rest file now.2 in
          rw some (simp (length-append, length-replicate, length-take) (omega (arith, now.0, above, ih)))
      | inr other ↦ rw other (length-filled addr low size place rest file (load_later addr size place h rest none))
    ]

pub loaded_room : (addr size : ℕ) (hs : List ProgramHeader) (file : List ℕ) → load_fault addr size 0 hs ≡ None
    → length (loaded_from addr hs file) ≤ end_of_bytes 0 hs - addr
loaded_room addr size hs file none = length-filled addr 0 size 0 hs file none

-- there is room for the next load where there is for all
pub room_for_load : (base : ℕ) (all memory file : List ℕ) (h : ProgramHeader) (rest : List ProgramHeader) (room : ℕ)
    → all ≡ memory ++ loaded_from (base + length memory) (h ∷ rest) file → length all ≤ room → has_bytes h ≡ true
    → base + length memory ≤ h.p_vaddr → h.p_offset + h.p_filesz ≤ length file → h.p_vaddr - base + h.p_filesz ≤ room
room_for_load base all memory file h rest room made fits some below inside =
    let zeros : List ℕ = replicate (h.p_vaddr - (base + length memory)) 0 in
    let part = take h.p_filesz (drop h.p_offset file) in
    let behind = loaded_from (h.p_vaddr + h.p_filesz) rest file in
    let at_h : loaded_from (base + length memory) (h ∷ rest) file ≡ zeros ++ part ++ behind = rw some refl in
    let whole = ap length (made ∙ ap (λ (m : List ℕ). memory ++ m) at_h) in
    let first = length-append memory (zeros ++ part ++ behind) in
    let second = length-append (zeros ++ part) behind in
    let third = length-append zeros part in
    let gap = length-replicate {A = ℕ} (h.p_vaddr - (base + length memory)) 0 in
    let left = length-drop h.p_offset file in
    let taken : length part ≡ h.p_filesz = length-take-le h.p_filesz (drop h.p_offset file) (omega (arith, left, inside)) in
    omega (arith, whole, first, second, third, gap, taken, fits, below)

-- the next header, behind those that made up `memory`
module _ (n at : ℕ) (table file memory : List ℕ) (base : ℕ) (h : ProgramHeader) (below : at < n) (read : h ≡ program_header_of (drop (program_header_size * at) table)) where
  pub next_fits : load_fault (base + length memory) (length file) 0 (headers_from n at table) ≡ None → load_fault (base + length memory) (length file) 0 (h ∷ headers_from n (at + 1) table) ≡ None
  next_fits fits = subst (λ (hs : List ProgramHeader). load_fault (base + length memory) (length file) 0 hs ≡ None) (next_header n at table h below read) fits

  pub next_now : load_fault (base + length memory) (length file) 0 (headers_from n at table) ≡ None → has_bytes h ≡ true
      → (base + length memory ≤ h.p_vaddr) × (h.p_offset + h.p_filesz ≤ length file) × (load_fault (h.p_vaddr + h.p_filesz) (length file) 0 (headers_from n (at + 1) table) ≡ None)
  next_now fits some = load_now (base + length memory) (length file) 0 h (headers_from n (at + 1) table) (next_fits fits) some

  pub next_made : (all : List ℕ) → all ≡ memory ++ loaded_from (base + length memory) (headers_from n at table) file → all ≡ memory ++ loaded_from (base + length memory) (h ∷ headers_from n (at + 1) table) file
  next_made all made = made ∙ ap (λ (hs : List ProgramHeader). memory ++ loaded_from (base + length memory) hs file) (next_header n at table h below read)

-- what loads without fault come to
pub extent_is : (size place : ℕ) (hs : List ProgramHeader) (first : Option ℕ) (end : ℕ) → load_fault 0 size place hs ≡ None
    → first ≡ first_load hs → end ≡ end_of_loads 0 hs → IsExtent first end
extent_is size place hs None end none is-first is-end = tt
extent_is size place hs (Some first) end none is-first is-end =
    rw is-end (first_below_end 0 size place hs first none (sym is-first), end_below 0 size place hs none (omega arith))

-- memory begins where the first load does, or a little below
pub lowered_loads : (size place : ℕ) (hs : List ProgramHeader) (first : Option ℕ) (base : ℕ) → load_fault 0 size place hs ≡ None
    → first ≡ first_load hs → IsSome first → ((n : ℕ) → first ≡ Some n → base ≡ rounded_down n) → load_fault base size 0 hs ≡ None
lowered_loads size place hs None base none is-first some at = cc
lowered_loads size place hs (Some first) base none is-first some at =
    let same = at first refl in
    let below : base ≤ first = omega arith in
    any_place base size place 0 hs (load_from_first size place base hs first (sym is-first) below none)

-- what is loaded fits memory
pub payload_fits : (length' place : ℕ) (hs : List ProgramHeader) (file : List ℕ) (first : Option ℕ) (end room base size : ℕ) → load_fault 0 length' place hs ≡ None
    → first ≡ first_load hs → end ≡ end_of_loads 0 hs → IsSome first → ((n : ℕ) → first ≡ Some n → (base ≡ rounded_down n) × (size ≡ elf_size room n end))
    → length (loaded_from base hs file) ≤ size
payload_fits length' place hs file None end room base size none is-first is-end some at = cc
payload_fits length' place hs file (Some first) end room base size none is-first is-end some at =
    let same = at first refl in
    let below : base ≤ first = omega (arith, same.0) in
    let from-base = load_from_first length' place base hs first (sym is-first) below none in
    let fits = length-loaded_from base base length' place hs file (omega arith) from-base in
    let all = end_same 0 base hs first (sym is-first) in
    omega (arith, fits, all, is-end, same.0, same.1)

-- The segments of a file.
use Rattle.std.proofs.Common.{◌≡◌, ◌≤◌, ◌<◌, ℕ, get_or, zero, suc, ◌+◌, ◌-◌, ◌*◌, Bool, List, [], ◌∷◌, ◌++◌, length, take, drop, replicate, slice_get, Option, Some, None, true, false, if◌then◌else◌, refl, arith, ◌∙◌, ap, subst}
use Rattle.std.specs.List.{flat_map, sum_by}
use Rattle.std.proofs.lemmas.List.Sums.{sum_by-cons}
use Rattle.diva_image.specs.declared.fault.Fault.{Fault}
use Rattle.std.proofs.lemmas.Grind.{common_steps, flat_map-append}
use Rattle.std.proofs.lemmas.List.{append-nil, drop-drop, drop_more, length-append, length-replicate, length-take, length-take-le, take_more}
use Rattle.std.proofs.Math.ListN.{drop_of_length-le}
use Rattle.diva_image.specs.Header.{header_of, header_size, length_fault, word_at}
use Rattle.diva_image.specs.Inner.{ArePlaced, end_of_segments}
use Rattle.diva_image.specs.Segments.{behind, data_place, is_between, memory_from, pair_size, segment_fault, segmented_fault, segments_in, segments_of, table_fault}
use Rattle.diva_image.specs.declared.header.Header.{Header}
use Rattle.diva_image.specs.declared.segment.Segment.{Segment}

-- the segment of a table's pair
abbrev pair_at : ℕ → List ℕ → Segment
pair_at place table = record { addr = word_at 0 (drop place table); len = word_at 4 (drop place table) }

-- one segment more
pub one_more : (n : ℕ) (table : List ℕ) → segments_in (suc n) table ≡ segments_in n table ++ pair_at (pair_size * n) table ∷ []
one_more zero table = refl
one_more (suc n) table =
    let later : drop (pair_size * n) (drop pair_size table) ≡ drop (pair_size * suc n) table
    = drop-drop (pair_size * n) pair_size table ∙ ap (λ (k : ℕ). drop k table) (omega arith) in
    let ih = one_more n (drop pair_size table) in
    ap (λ (ss : List Segment). pair_at 0 table ∷ ss) (ih ∙ ap (λ (xs : List ℕ). segments_in n (drop pair_size table) ++ record { addr = word_at 0 xs; len = word_at 4 xs } ∷ []) later)

pub length_segments_in : (n : ℕ) (table : List ℕ) → length (segments_in n table) ≡ n
length_segments_in zero table = refl
length_segments_in (suc n) table = ap suc (length_segments_in n (drop pair_size table))

test_taken : (b : Bool) (x : Option Fault) (y : Fault) → (if b then x else Some y) ≡ None → (b ≡ true) × (x ≡ None)
test_taken true x y none = (refl, none)
test_taken false x y none = cc

between : (least most : ℕ) (s : Segment) → is_between least most s ≡ true → (0 < s.len) × (least ≤ s.addr) × (behind s ≤ most)
between least most s fits = (grind (arith, common_steps), grind (arith, common_steps), grind (arith, common_steps))

is_between-true : (least most : ℕ) (s : Segment) → 0 < s.len → least ≤ s.addr → behind s ≤ most → is_between least most s ≡ true
is_between-true least most s some low high = grind (arith, common_steps)

-- segments without fault lie in order and apart
pub placed : (least most place : ℕ) (ss : List Segment) → segment_fault least most place ss ≡ None → ArePlaced least most ss
unfolding segment_fault
placed least most place [] none = tt
placed least most place (s ∷ rest) none =
    let tested = test_taken (is_between least most s) (segment_fault (behind s) most (place + pair_size) rest) (record { kind = 12; place = place }) none in
    let fits = between least most s tested.0 in
    (fits.0, fits.1, fits.2, placed (behind s) most (place + pair_size) rest tested.1)

-- and segments that do have no fault
pub faultless : (least most place : ℕ) (ss : List Segment) → ArePlaced least most ss → segment_fault least most place ss ≡ None
unfolding segment_fault
faultless least most place [] p = refl
faultless least most place (s ∷ rest) p =
    rw (is_between-true least most s p.0 p.1 p.2) (faultless (behind s) most (place + pair_size) rest p.3)

-- their bytes are no more than there is room between the addresses
pub sum-placed : (least most : ℕ) (ss : List Segment) → ArePlaced least most ss → sum_by (λ s. s.len) ss ≤ most - least
sum-placed least most [] p = omega arith
sum-placed least most (s ∷ rest) p =
    let ih = sum-placed (behind s) most rest p.3 in
    let more = sum_by-cons (λ (t : Segment). t.len) s rest in
    omega arith

-- nor is the memory that they make
pub length-memory_from : (least most : ℕ) (ss : List Segment) (bytes : List ℕ) → ArePlaced least most ss → length (memory_from least ss bytes) ≤ most - least
length-memory_from least most [] bytes p = omega arith
length-memory_from least most (s ∷ rest) bytes p =
    let ih = length-memory_from (behind s) most rest (drop s.len bytes) p.3 in
    simp (length-append, length-replicate, length-take) (omega arith)

-- where the last of them ends
end_at : (addr : ℕ) (s : Segment) (rest : List Segment) (last : Segment) (at : ℕ) → at ≡ length rest → slice_get (s ∷ rest) at ≡ Some last
    → end_of_segments addr (s ∷ rest) ≡ behind last
end_at addr s [] last zero len is-last = let same : s ≡ last = cc in ap behind same
end_at addr s [] last (suc at) len is-last = cc
end_at addr s (t ∷ rest) last zero len is-last = cc
end_at addr s (t ∷ rest) last (suc at) len is-last = end_at (behind s) t rest last at (omega (arith, len)) is-last

pub end_of_last : (addr : ℕ) (ss : List Segment) (last : Segment) → slice_get ss (length ss - 1) ≡ Some last → end_of_segments addr ss ≡ behind last
end_of_last addr [] last is-last = cc
end_of_last addr (s ∷ rest) last is-last = end_at addr s rest last (length (s ∷ rest) - 1) (omega arith) is-last

none_at : (end : ℕ) (s : Segment) (rest : List Segment) (at : ℕ) (addr : ℕ) → at ≡ length rest → slice_get (s ∷ rest) at ≡ None → end ≡ addr
none_at end s [] zero addr len none = cc
none_at end s [] (suc at) addr len none = cc
none_at end s (t ∷ rest) zero addr len none = cc
none_at end s (t ∷ rest) (suc at) addr len none = none_at end t rest at addr (omega (arith, len)) none

pub end_of_none : (addr : ℕ) (ss : List Segment) → slice_get ss (length ss - 1) ≡ None → end_of_segments addr ss ≡ addr
end_of_none addr [] none = refl
end_of_none addr (s ∷ rest) none = none_at (end_of_segments addr (s ∷ rest)) s rest (length (s ∷ rest) - 1) addr (omega arith) none

end_above : (least most : ℕ) (ss : List Segment) → ArePlaced least most ss → least ≤ end_of_segments least ss
end_above least most [] p = omega arith
end_above least most (s ∷ rest) p = let ih = end_above (behind s) most rest p.3 in omega (arith, p.1, ih)

pub memory_room : (least most : ℕ) (ss : List Segment) (bytes : List ℕ) → ArePlaced least most ss
    → length (memory_from least ss bytes) ≤ end_of_segments least ss - least
memory_room least most [] bytes p = omega arith
memory_room least most (s ∷ rest) bytes p =
    let ih = memory_room (behind s) most rest (drop s.len bytes) p.3 in
    let above = end_above (behind s) most rest p.3 in
    simp (length-append, length-replicate, length-take) (omega (arith, p.1, ih, above))

-- there is room for the next one where there is for all
pub room_for_next : (addr : ℕ) (all memory bytes : List ℕ) (s : Segment) (rest : List Segment) (room : ℕ)
    → all ≡ memory ++ memory_from (addr + length memory) (s ∷ rest) bytes → length all ≤ room
    → addr + length memory ≤ s.addr → s.len ≤ length bytes → s.addr - addr + s.len ≤ room
room_for_next addr all memory bytes s rest room made fits below long =
    let zeros = replicate (s.addr - (addr + length memory)) 0 in
    let part = take s.len bytes in
    let behind' = memory_from (behind s) rest (drop s.len bytes) in
    let whole = ap length made in
    let first = length-append memory (zeros ++ part ++ behind') in
    let second = length-append (zeros ++ part) behind' in
    let third = length-append zeros part in
    let gap = length-replicate {A = ℕ} (s.addr - (addr + length memory)) 0 in
    let taken : length part ≡ s.len = length-take-le s.len bytes long in
    omega (arith, whole, first, second, third, gap, taken, fits, below)

-- wider bounds
pub placed-wider : (least least' most most' : ℕ) (ss : List Segment) → least' ≤ least → most ≤ most' → ArePlaced least most ss → ArePlaced least' most' ss
placed-wider least least' most most' [] below above p = tt
placed-wider least least' most most' (s ∷ rest) below above p =
    (p.0, omega arith, omega arith, placed-wider (behind s) (behind s) most most' rest (omega arith) above p.3)

-- the last of them lies between the addresses too
pub placed-last : (least most : ℕ) (front : List Segment) (last : Segment) → ArePlaced least most (front ++ last ∷ [])
    → (least ≤ last.addr) × (behind last ≤ most)
placed-last least most [] last p = (p.1, p.2)
placed-last least most (s ∷ front) last p =
    let ih = placed-last (behind s) most front last p.3 in (omega arith, ih.1)

-- the first fault, one segment after another
pub one_fault : (least most place : ℕ) (ss : List Segment) (i : ℕ) (d : Segment) → i < length ss → is_between least most (get_or ss i d) ≡ false
    → segment_fault least most place (drop i ss) ≡ Some (record { kind = 12; place = place })
unfolding segment_fault
one_fault least most place ss i d below outside = rw (drop_more ss i d below, outside) refl

pub one_fine : (least least' most place place' : ℕ) (ss : List Segment) (i : ℕ) (d : Segment) → i < length ss
    → is_between least most (get_or ss i d) ≡ true → least' ≡ behind (get_or ss i d) → place' ≡ place + pair_size
    → segment_fault least most place (drop i ss) ≡ segment_fault least' most place' (drop (i + 1) ss)
unfolding segment_fault
one_fine least least' most place place' ss i d below inside here there = rw (here, there, drop_more ss i d below, inside) refl

pub no_more : (least most place : ℕ) (ss : List Segment) (i : ℕ) → length ss ≤ i → segment_fault least most place (drop i ss) ≡ None
unfolding segment_fault
no_more least most place ss i past = rw (drop_of_length-le ss past) refl

-- the faults behind the header, part by part
pub segmented_parts : (bytes : List ℕ) (h : Header) (ss : List Segment) (f : Option Fault) → h ≡ header_of bytes → ss ≡ segments_of bytes
    → table_fault bytes ≡ None → segment_fault h.base (h.base + h.size) header_size ss ≡ None
    → length_fault (length bytes) (data_place bytes + sum_by (λ s. s.len) ss) ≡ f → segmented_fault bytes ≡ f
unfolding segmented_fault
segmented_parts bytes h ss f same-header same-segments table segments len =
    let placed : segment_fault (header_of bytes).base ((header_of bytes).base + (header_of bytes).size) header_size (segments_of bytes) ≡ None
    = subst (λ (k : Header). segment_fault k.base (k.base + k.size) header_size (segments_of bytes) ≡ None) same-header
    (subst (λ (ts : List Segment). segment_fault h.base (h.base + h.size) header_size ts ≡ None) same-segments segments) in
    rw (table, placed) (subst (λ (ts : List Segment). length_fault (length bytes) (data_place bytes + sum_by (λ s. s.len) ts) ≡ f) same-segments len)

-- what a list is mapped to, one item more
pub flat_map_more : (f : Segment → List ℕ) (ss : List Segment) (i : ℕ) (d : Segment) → i < length ss
    → flat_map f (take (i + 1) ss) ≡ flat_map f (take i ss) ++ f (get_or ss i d)
flat_map_more f ss i d below =
    ap (flat_map f) (take_more ss i d below) ∙ flat_map-append f (take i ss) (get_or ss i d ∷ [])
    ∙ ap (λ (bs : List ℕ). flat_map f (take i ss) ++ bs) (append-nil (f (get_or ss i d)))

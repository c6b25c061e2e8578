-- The file in version 2 is read to an image that begins as the one that was written.
use Rattle.std.proofs.Common.{◌≡◌, ◌≤◌, ◌<◌, ℕ, zero, suc, ◌+◌, ◌-◌, ◌*◌, ◌^◌, List, [], ◌∷◌, ◌++◌, length, drop, replicate, None, nat_lt, false, refl, arith, ◌∙◌, ap, subst, sym}
use Rattle.std.specs.List.{concat, flat_map, sum_by}
use Rattle.std.proofs.lemmas.List.{append_assoc, drop_at, length-append, length-drop, length-replicate, length-take-le, replicate-append-replicate}
use Rattle.std.proofs.lemmas.List.Sums.{sum_by-cons}
use Rattle.byteorder.specs.Numbers.{little_number-reads_back}
use Rattle.diva_image.specs.declared.header.Header.{Header}
use Rattle.diva_image.specs.declared.image.Image.{Image}
use Rattle.diva_image.specs.declared.segment.Segment.{Segment}
use Rattle.diva_image.specs.declared.version.Version.TheVariants.{Two}
use Rattle.diva_image.specs.Layout.{BeginsAs, Layout}
use Rattle.diva_image.specs.Inner.{ArePlaced, IsLayout}
use Rattle.diva_image.specs.ImageLayout.{layout}
use Rattle.diva_image.specs.Header.{head_fault, header_bytes, header_of, header_size, word_at}
use Rattle.diva_image.specs.Images.{fault_of, image_of, image_under}
use Rattle.diva_image.specs.Segments.{behind, memory_from, most_segments, pair_size, segmented_payload, segments_in, segments_of, table_fault}
use Rattle.diva_image.specs.Migrated.{BeginsAgain, blocks_of, bytes_at, canonical, limited, pair_bytes, segmented_bytes, stretches}
use Rattle.diva_image.proofs.Again.{faultless_parts, image_with}
use Rattle.diva_image.proofs.Headers.{header_again, head_again, length_again, length_sound}
use Rattle.diva_image.proofs.Shown.{Makes, Show, canonical-placed, concat-blocks, memory-shown, show-limited, show-stretches}
use Rattle.diva_image.proofs.Tables.{faultless, placed-wider, segmented_parts}
use Rattle.std.proofs.Math.Nat.{sub_self}
use Rattle.std.proofs.lemmas.Bool.{le-ltb}
use Rattle.byteorder.specs.Endian.{little_bytes}

-- there are no more segments than a file may have
length-limited : (n : ℕ) (ss : List Segment) → length (limited n ss) ≤ n + 1
length-limited n [] = omega arith
length-limited zero (s ∷ rest) = omega arith
length-limited (suc n) (s ∷ rest) = let ih = length-limited n rest in omega arith

same_first : (s : Segment) (addr len : ℕ) (ts ss : List Segment) → addr ≡ s.addr → len ≡ s.len → ts ≡ ss
    → record { addr = addr; len = len } ∷ ts ≡ s ∷ ss
same_first s addr len ts ss same-addr same-len same = rw (same-addr, same-len, same) refl

-- a table is read again
table_again : (least most : ℕ) (ss : List Segment) (rest : List ℕ) → most ≤ 2 ^ 32 → most - least < 2 ^ 32 → ArePlaced least most ss
    → segments_in (length ss) (flat_map pair_bytes ss ++ rest) ≡ ss
table_again least most [] rest bound small placed = refl
table_again least most (s ∷ ss) rest bound small placed =
    same_first s (word_at 0 (flat_map pair_bytes (s ∷ ss) ++ rest)) (word_at 4 (flat_map pair_bytes (s ∷ ss) ++ rest))
    (segments_in (length ss) (flat_map pair_bytes ss ++ rest)) ss
    (little_number-reads_back 4 s.addr (little_bytes 4 s.len ++ (flat_map pair_bytes ss ++ rest)) (omega arith))
    (little_number-reads_back 4 s.len (flat_map pair_bytes ss ++ rest) (omega arith))
    (table_again (behind s) most ss rest bound (omega arith) placed.3)

length-table : (ss : List Segment) → length (flat_map pair_bytes ss) ≡ pair_size * length ss
length-table [] = refl
length-table (s ∷ ss) = let ih = length-table ss in omega (arith, ih)

-- the bytes of the segments are as many as these have
length-parts : (base least : ℕ) (payload : List ℕ) (ss : List Segment) → base ≤ least → ArePlaced least (base + length payload) ss
    → length (flat_map (bytes_at base payload) ss) ≡ sum_by (λ s. s.len) ss
length-parts base least payload [] above placed = refl
length-parts base least payload (s ∷ ss) above placed =
    let room = length-drop (s.addr - base) payload in
    let part : length (bytes_at base payload s) ≡ s.len = length-take-le s.len (drop (s.addr - base) payload) (omega arith) in
    let others = length-parts base (behind s) payload ss (omega arith) placed.3 in
    let both = length-append (bytes_at base payload s) (flat_map (bytes_at base payload) ss) in
    let sum = sum_by-cons (λ (t : Segment). t.len) s ss in
    omega arith

table_sound : (bytes : List ℕ) (n : ℕ) → (header_of bytes).last ≡ n → n ≤ most_segments → header_size + pair_size * n ≤ length bytes → table_fault bytes ≡ None
unfolding table_fault
table_sound bytes n last few long =
    let many : nat_lt most_segments n ≡ false = le-ltb _ _ few in
    let short : nat_lt (length bytes) (header_size + pair_size * n) ≡ false = le-ltb _ _ long in
    rw (last, many, short) refl

-- more zeros behind what is made
memory_same : (size : ℕ) (payload memory : List ℕ) → length payload ≤ size → Makes payload memory
    → memory ++ replicate (size - length memory) 0 ≡ payload ++ replicate (size - length payload) 0
memory_same size payload memory fits made =
    let total : length payload ≡ length memory + made.0 = ap length made.1 ∙ length-append memory (replicate made.0 0) ∙ ap (λ (n : ℕ). length memory + n) (length-replicate made.0 0) in
    let count : made.0 + (size - length payload) ≡ size - length memory = omega arith in
    sym (ap (λ (p : List ℕ). p ++ replicate (size - length payload) 0) made.1
    ∙ append_assoc memory (replicate made.0 0) (replicate (size - length payload) 0)
    ∙ ap (λ (z : List ℕ). memory ++ z) (replicate-append-replicate made.0 (size - length payload) 0 ∙ ap (λ (n : ℕ). replicate n 0) count))

-- the header of an image with so many segments
abbrev segmented_header : Layout → ℕ → Header
segmented_header i n = record { version = Two; base = i.base; size = i.size; entry = i.entry; last = n }

module _ (i : Layout) (r : IsLayout i.base i.size i.entry (length i.payload)) (bytes loaded : List ℕ) (ss : List Segment)
    (few : length ss ≤ most_segments) (placed : ArePlaced i.base (i.base + length i.payload) ss)
    (header : header_of bytes ≡ segmented_header i (length ss)) (head : head_fault bytes ≡ None) (table : segments_of bytes ≡ ss)
    (whole : length bytes ≡ header_size + pair_size * length ss + sum_by (λ s. s.len) ss) (data-is : drop (header_size + pair_size * length ss) bytes ≡ loaded)
    (made : Makes i.payload (memory_from i.base ss loaded)) where
  last : (header_of bytes).last ≡ length ss
  last = ap (λ (h : Header). h.last) header

  sound : fault_of bytes ≡ None
  sound =
      faultless_parts bytes (segmented_header i (length ss)) header head
      (segmented_parts bytes (segmented_header i (length ss)) ss None (sym header) (sym table)
      (table_sound bytes (length ss) last few (omega arith))
      (faultless i.base (i.base + i.size) header_size ss (placed-wider i.base i.base (i.base + length i.payload) (i.base + i.size) ss (omega arith) (omega arith) placed))
      (rw (last, whole) (length_sound (header_size + pair_size * length ss + sum_by (λ s. s.len) ss))))

  payload : segmented_payload bytes ≡ memory_from i.base ss loaded
  payload =
      ap (λ (h : Header). memory_from h.base (segments_of bytes) (drop (header_size + pair_size * h.last) bytes)) header
      ∙ ap (λ (ts : List Segment). memory_from i.base ts (drop (header_size + pair_size * length ss) bytes)) table
      ∙ ap (memory_from i.base ss) data-is

  image : image_of bytes ≡ record { base = i.base; size = i.size; entry = i.entry; payload = memory_from i.base ss loaded }
  image =
      image_with bytes (segmented_header i (length ss)) header
      ∙ ap (λ (p : List ℕ). image_under (segmented_header i (length ss)) p) payload

  pub begins_by : BeginsAgain i bytes
  begins_by = record {
    faultless = sound;
    begins = subst (λ (j : Layout). BeginsAs j i) (sym image)
        (record { base = refl; size = refl; entry = refl; memory = memory_same i.size i.payload (memory_from i.base ss loaded) r.payload_fits made });
  }

module _ (i : Layout) (r : IsLayout i.base i.size i.entry (length i.payload)) where
  placed : ArePlaced i.base (i.base + length i.payload) (canonical i)
  placed =
      subst (λ (bytes : List ℕ). ArePlaced i.base (i.base + length bytes) (canonical i)) (concat-blocks i.payload)
      (canonical-placed 15 i.base (blocks_of i.payload))

  shown : Show i.base i.payload (canonical i)
  shown =
      subst (λ (bytes : List ℕ). Show i.base bytes (canonical i)) (concat-blocks i.payload)
      (show-limited 15 i.base (concat (blocks_of i.payload)) (stretches i.base (blocks_of i.payload)) (show-stretches i.base (blocks_of i.payload)))

  few : length (canonical i) ≤ most_segments
  few = length-limited 15 (stretches i.base (blocks_of i.payload))

  abbrev table_of : List ℕ
  table_of = flat_map pair_bytes (canonical i)

  abbrev data_of : List ℕ
  data_of = flat_map (bytes_at i.base i.payload) (canonical i)

  header : header_of (segmented_bytes i) ≡ segmented_header i (length (canonical i))
  header = header_again (segmented_header i (length (canonical i))) (table_of ++ data_of) r.placed (omega (arith, few))

  pub begins : BeginsAgain i (segmented_bytes i)
  begins =
      let total = length_again (segmented_header i (length (canonical i))) (table_of ++ data_of) r.placed (omega (arith, few)) in
      let parts = length-append table_of data_of in
      let pairs = length-table (canonical i) in
      let data-size = length-parts i.base i.base i.payload (canonical i) (omega arith) placed in
      begins_by i r (segmented_bytes i) data_of (canonical i) few placed header
      (head_again (segmented_header i (length (canonical i))) (table_of ++ data_of) r.placed (omega (arith, few)))
      (ap (λ (n : ℕ). segments_in n (table_of ++ data_of)) (ap (λ (h : Header). h.last) header)
      ∙ table_again i.base (i.base + length i.payload) (canonical i) data_of (omega arith) (omega arith) placed)
      (omega arith)
      (drop_at (header_bytes (segmented_header i (length (canonical i))) ++ table_of) data_of (header_size + pair_size * length (canonical i)) (omega arith))
      (memory-shown i.base i.base i.payload i.payload (canonical i) (omega arith) (rw (sub_self i.base) refl) shown)

-- the same of an image of the code
pub begins_again : (i : Image) (bytes : List ℕ) → bytes ≡ segmented_bytes (layout i) → BeginsAgain (layout i) bytes
begins_again i bytes spelled = subst (BeginsAgain (layout i)) (sym spelled) (begins (layout i) i.rules)

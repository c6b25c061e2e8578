-- What the segments of an image leave out is 0, so the file in version 2 begins as the image does.
use Rattle.std.proofs.Common.{◌≡◌, ◌≤◌, ◌<◌, ℕ, zero, suc, ◌+◌, ◌-◌, ◌*◌, ◌==◌, ◌/◌, Bool, List, [], ◌∷◌, ◌++◌, length, take, drop, replicate, true, false, if◌then◌else◌, refl, arith, ◌∙◌, ap, subst, sym}
use Rattle.std.specs.List.{concat, flat_map}
use Rattle.std.proofs.lemmas.Bool.{eqb-true}
use Rattle.std.proofs.lemmas.Grind.{common_steps}
use Rattle.std.proofs.lemmas.List.{append_assoc, drop-drop, drop_at, length-append, length-drop, length-take-le, nil_from_length, replicate-append-replicate, take-append-drop, take_at}
use Rattle.std.proofs.Math.Seq.{drop-append-add, take-append-add}
use Rattle.diva_image.specs.Inner.{ArePlaced}
use Rattle.diva_image.specs.Migrated.{block_size, blocks_in, blocks_of, bytes_at, is_zero_block, joined, limited, spanned, stretches}
use Rattle.diva_image.specs.Segments.{behind, memory_from}
use Rattle.diva_image.proofs.Tables.{placed-wider}
use Rattle.diva_image.specs.declared.segment.Segment.{Segment}

-- segments in order, apart, and within these bytes, of which they hold all that are not 0; the first byte has an address
abbrev pub Show : ℕ → List ℕ → List Segment → Type 0
Show addr bytes [] = bytes ≡ replicate (length bytes) 0
Show addr bytes (s ∷ rest) =
    (0 < s.len) × (addr ≤ s.addr) × (behind s ≤ addr + length bytes)
    × (take (s.addr - addr) bytes ≡ replicate (s.addr - addr) 0)
    × Show (behind s) (drop (behind s - addr) bytes) rest

-- from the same address, in the same bytes
moved : (addr addr' : ℕ) (bytes bytes' : List ℕ) (ss : List Segment) → addr ≡ addr' → bytes ≡ bytes' → Show addr bytes ss → Show addr' bytes' ss
moved addr addr' bytes bytes' ss p q shown =
    subst (λ (a : ℕ). Show a bytes' ss) p (subst (λ (bs : List ℕ). Show addr bs ss) q shown)

-- such segments lie in order
pub show-placed : (addr : ℕ) (bytes : List ℕ) (ss : List Segment) → Show addr bytes ss → ArePlaced addr (addr + length bytes) ss
show-placed addr bytes [] shown = tt
show-placed addr bytes (s ∷ rest) shown =
    let after = drop (behind s - addr) bytes in
    let len = length-drop (behind s - addr) bytes in (
      shown.0,
      shown.1,
      shown.2,
      placed-wider (behind s) (behind s) (behind s + length after) (addr + length bytes) rest (omega arith) (omega arith) (show-placed (behind s) after rest shown.4),
    )

zeros_before : (n : ℕ) (block rest : List ℕ) → block ≡ replicate (length block) 0 → rest ≡ replicate n 0 → block ++ rest ≡ replicate (length block + n) 0
zeros_before n block rest blank none =
    ap (λ (b : List ℕ). b ++ rest) blank ∙ ap (λ (r : List ℕ). replicate (length block) 0 ++ r) none ∙ replicate-append-replicate (length block) n 0

-- a block of zeros in front
blank_before : (addr : ℕ) (block rest : List ℕ) (ss : List Segment) → block ≡ replicate (length block) 0
    → Show (addr + length block) rest ss → Show addr (block ++ rest) ss
blank_before addr block rest [] blank shown =
    zeros_before (length rest) block rest blank shown ∙ ap (λ (n : ℕ). replicate n 0) (sym (length-append block rest))
blank_before addr block rest (s ∷ ss) blank shown =
    let total = length-append block rest in
    let gap : s.addr - addr ≡ length block + (s.addr - (addr + length block)) = omega arith in
    let past : behind s - addr ≡ length block + (behind s - (addr + length block)) = omega arith in (
      shown.0,
      omega arith,
      omega arith,
      rw (gap, take-append-add block rest (s.addr - (addr + length block))) (zeros_before (s.addr - (addr + length block)) block (take (s.addr - (addr + length block)) rest) blank shown.3),
      rw (past, drop-append-add block rest (behind s - (addr + length block))) shown.4,
    )

-- a segment before others, joined with the first of them where that begins at its end
joined_before : (addr : ℕ) (block rest : List ℕ) (s : Segment) (ss : List Segment) → 0 < length block → Show (addr + length block) rest (s ∷ ss)
    → (addr + length block ≡ s.addr) → Show addr (block ++ rest) (record { addr = addr; len = length block + s.len } ∷ ss)
joined_before addr block rest s ss some shown here =
    let total = length-append block rest in
    let none : addr - addr ≡ 0 = omega arith in
    let past : addr + (length block + s.len) - addr ≡ length block + (behind s - (addr + length block)) = omega arith in (
      omega arith,
      omega arith,
      omega arith,
      rw none refl,
      moved (behind s) (addr + (length block + s.len)) (drop (behind s - (addr + length block)) rest) (drop (addr + (length block + s.len) - addr) (block ++ rest)) ss
          (omega arith)
          (sym (ap (λ (n : ℕ). drop n (block ++ rest)) past ∙ drop-append-add block rest (behind s - (addr + length block)))) shown.4,
    )

apart_before : (addr : ℕ) (block rest : List ℕ) (ss : List Segment) → 0 < length block → Show (addr + length block) rest ss
    → Show addr (block ++ rest) (record { addr = addr; len = length block } ∷ ss)
apart_before addr block rest ss some shown =
    let total = length-append block rest in
    let none : addr - addr ≡ 0 = omega arith in
    let past : addr + length block - addr ≡ length block = omega arith in (
      some,
      omega arith,
      omega arith,
      rw none refl,
      moved (addr + length block) (addr + length block) rest (drop (addr + length block - addr) (block ++ rest)) ss refl
          (sym (ap (λ (n : ℕ). drop n (block ++ rest)) past ∙ drop_at block rest (length block) refl)) shown,
    )

joined-if : (addr : ℕ) (block rest : List ℕ) (s : Segment) (ss : List Segment) (b : Bool) → (addr + length block == s.addr) ≡ b → 0 < length block
    → Show (addr + length block) rest (s ∷ ss)
    → Show addr (block ++ rest) (if b then record { addr = addr; len = length block + s.len } ∷ ss else record { addr = addr; len = length block } ∷ s ∷ ss)
joined-if addr block rest s ss true same some shown = joined_before addr block rest s ss some shown (eqb-true _ _ same)
joined-if addr block rest s ss false other some shown = apart_before addr block rest (s ∷ ss) some shown

-- a block in front that is a segment, or a part of one
block_before : (addr : ℕ) (block rest : List ℕ) (ss : List Segment) → 0 < length block
    → Show (addr + length block) rest ss → Show addr (block ++ rest) (joined (record { addr = addr; len = length block }) ss)
block_before addr block rest [] some shown = apart_before addr block rest [] some shown
block_before addr block rest (s ∷ ss) some shown = joined-if addr block rest s ss (addr + length block == s.addr) refl some shown

-- the stretches of blocks show them
blank-zeros : (block : List ℕ) → is_zero_block block ≡ true → block ≡ replicate (length block) 0
blank-zeros [] blank = refl
blank-zeros (zero ∷ block) blank = ap (λ (xs : List ℕ). 0 ∷ xs) (blank-zeros block blank)
blank-zeros (suc b ∷ block) blank = grind (arith, common_steps)

some_byte : (block : List ℕ) → is_zero_block block ≡ false → 0 < length block
some_byte [] some = cc
some_byte (b ∷ block) some = omega arith

show-if : (addr : ℕ) (block rest : List ℕ) (ss : List Segment) (b : Bool) → is_zero_block block ≡ b → Show (addr + length block) rest ss
    → Show addr (block ++ rest) (if b then ss else joined (record { addr = addr; len = length block }) ss)
show-if addr block rest ss true blank shown = blank_before addr block rest ss (blank-zeros block blank) shown
show-if addr block rest ss false some shown = block_before addr block rest ss (some_byte block some) shown

pub show-stretches : (addr : ℕ) (blocks : List (List ℕ)) → Show addr (concat blocks) (stretches addr blocks)
show-stretches addr [] = refl
show-stretches addr (block ∷ blocks) =
    show-if addr block (concat blocks) (stretches (addr + length block) blocks) (is_zero_block block) refl (show-stretches (addr + length block) blocks)

-- and so do fewer segments that go on over what is between them
show-spanned : (addr : ℕ) (bytes : List ℕ) (s : Segment) (rest : List Segment) → Show addr bytes (s ∷ rest) → Show addr bytes (spanned s rest ∷ [])
show-spanned addr bytes s [] shown = shown
show-spanned addr bytes s (t ∷ rest) shown =
    let len = length-drop (behind s - addr) bytes in
    let reach : s.addr + (behind t - s.addr) ≡ behind t = omega arith in
    let past : behind s - addr + (behind t - behind s) ≡ s.addr + (behind t - s.addr) - addr = omega arith in
    show-spanned addr bytes (record { addr = s.addr; len = behind t - s.addr }) rest (
      omega arith,
      shown.1,
      omega arith,
      shown.3,
      moved (behind t) (s.addr + (behind t - s.addr)) (drop (behind t - behind s) (drop (behind s - addr) bytes)) (drop (s.addr + (behind t - s.addr) - addr) bytes) rest
          (sym reach) (drop-drop (behind t - behind s) (behind s - addr) bytes ∙ ap (λ (n : ℕ). drop n bytes) past) shown.4.4,
    )

pub show-limited : (n addr : ℕ) (bytes : List ℕ) (ss : List Segment) → Show addr bytes ss → Show addr bytes (limited n ss)
show-limited n addr bytes [] shown = shown
show-limited zero addr bytes (s ∷ rest) shown = show-spanned addr bytes s rest shown
show-limited (suc n) addr bytes (s ∷ rest) shown =
    (shown.0, shown.1, shown.2, shown.3, show-limited n (behind s) (drop (behind s - addr) bytes) rest shown.4)

-- so the segments of a payload lie in order, in it
pub canonical-placed : (n base : ℕ) (blocks : List (List ℕ)) → ArePlaced base (base + length (concat blocks)) (limited n (stretches base blocks))
canonical-placed n base blocks =
    show-placed base (concat blocks) (limited n (stretches base blocks))
    (show-limited n base (concat blocks) (stretches base blocks) (show-stretches base blocks))

-- the blocks of bytes are the bytes
concat-blocks_in : (n : ℕ) (bytes : List ℕ) → length bytes ≤ block_size * n → concat (blocks_in n bytes) ≡ bytes
concat-blocks_in zero bytes short = sym (nil_from_length bytes (omega arith))
concat-blocks_in (suc n) bytes short =
    let len = length-drop block_size bytes in
    ap (λ (rest : List ℕ). take block_size bytes ++ rest) (concat-blocks_in n (drop block_size bytes) (omega arith)) ∙ take-append-drop block_size bytes

pub concat-blocks : (bytes : List ℕ) → concat (blocks_of bytes) ≡ bytes
concat-blocks bytes = concat-blocks_in ((length bytes + 63) / 64) bytes (omega arith)

-- these bytes are the memory, and zeros behind it
abbrev pub Makes : List ℕ → List ℕ → Type 0
Makes bytes memory = (k : ℕ) × (bytes ≡ memory ++ replicate k 0)

-- what the segments hold of a payload makes the payload again, but for zeros at its end
pub memory-shown : (base addr : ℕ) (payload bytes : List ℕ) (ss : List Segment) → base ≤ addr → drop (addr - base) payload ≡ bytes → Show addr bytes ss
    → Makes bytes (memory_from addr ss (flat_map (bytes_at base payload) ss))
memory-shown base addr payload bytes [] below from shown = (length bytes, shown)
memory-shown base addr payload bytes (s ∷ rest) below from shown =
    let gap = s.addr - addr in
    let part = bytes_at base payload s in
    let others = flat_map (bytes_at base payload) rest in
    let after = drop (behind s - addr) bytes in
    let len : length bytes ≡ length payload - (addr - base) = sym (ap length from) ∙ length-drop (addr - base) payload in
    let here : drop (s.addr - base) payload ≡ drop gap bytes
    = ap (λ (n : ℕ). drop n payload) (omega arith) ∙ sym (drop-drop gap (addr - base) payload) ∙ ap (drop gap) from in
    let there : drop (behind s - base) payload ≡ after
    = ap (λ (n : ℕ). drop n payload) (omega arith) ∙ sym (drop-drop (behind s - addr) (addr - base) payload) ∙ ap (drop (behind s - addr)) from in
    let room = length-drop gap bytes in
    let whole : length part ≡ s.len
    = ap (λ (xs : List ℕ). length (take s.len xs)) here ∙ length-take-le s.len (drop gap bytes) (omega arith) in
    let ih = memory-shown base (behind s) payload after rest (omega arith) there shown.4 in
    let past : drop s.len (drop gap bytes) ≡ after = drop-drop s.len gap bytes ∙ ap (λ (n : ℕ). drop n bytes) (omega arith) in
    let split : bytes ≡ replicate gap 0 ++ (part ++ (memory_from (behind s) rest others ++ replicate ih.0 0))
    = sym (take-append-drop gap bytes)
    ∙ ap (λ (xs : List ℕ). xs ++ drop gap bytes) shown.3
    ∙ ap (λ (xs : List ℕ). replicate gap 0 ++ xs)
    (sym (take-append-drop s.len (drop gap bytes))
    ∙ ap (λ (xs : List ℕ). take s.len xs ++ drop s.len (drop gap bytes)) (sym here)
    ∙ ap (λ (xs : List ℕ). part ++ xs) (past ∙ ih.1)) in
    (ih.0, rw (take_at part others s.len whole, drop_at part others s.len whole) (rw (append_assoc, append_assoc) split))

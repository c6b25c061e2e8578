-- The stretches of blocks that are not of zeros alone, one block after another.
use Rattle.std.proofs.Common.{◌≡◌, ◌≤◌, ◌<◌, ℕ, zero, suc, ◌+◌, ◌-◌, ◌/◌, ◌==◌, ◌||◌, inl, inr, min, List, [], ◌∷◌, ◌++◌, length, true, false, if◌then◌else◌, refl, arith, ap, subst, sym, ◌∙◌}
use Rattle.std.specs.List.{concat}
use Rattle.std.proofs.lemmas.Bool.{cases_eq, ne_eqb}
use Rattle.std.proofs.lemmas.Grind.{common_steps}
use Rattle.std.proofs.lemmas.List.{append-nil, append_assoc, drop_at, length-append, nil_from_length, take_all, take_at}
use Rattle.diva_image.specs.Inner.{extended}
use Rattle.diva_image.specs.Migrated.{block_size, blocks_of, is_zero_block, joined, limited, spanned, stretches}
use Rattle.diva_image.specs.Segments.{behind}
use Rattle.diva_image.specs.declared.segment.Segment.{Segment}

-- segments with a block behind them, as many as there are: the block goes on the last one where that ends at the block
abbrev pub with_block : List Segment → Segment → List Segment
with_block [] block = block ∷ []
with_block (s ∷ []) block = joined s (block ∷ [])
with_block (s ∷ t ∷ rest) block = s ∷ with_block (t ∷ rest) block

-- a segment in front and a block behind change nothing of one another
joined-with_block : (s : Segment) (ss : List Segment) (block : Segment) → joined s (with_block ss block) ≡ with_block (joined s ss) block
joined-with_block s [] block = refl
joined-with_block s (t ∷ []) block = grind (arith, common_steps)
joined-with_block s (t ∷ u ∷ rest) block = grind (arith, common_steps)

-- one block more at the end
pub one_block_more : (addr : ℕ) (blocks : List (List ℕ)) (block : List ℕ) → is_zero_block block ≡ false
    → stretches addr (blocks ++ block ∷ []) ≡ with_block (stretches addr blocks) (record { addr = addr + length (concat blocks); len = length block })
one_block_more addr [] block some = grind (arith, common_steps)
one_block_more addr (b ∷ blocks) block some =
    let ih = one_block_more (addr + length b) blocks block some in
    grind (arith, common_steps, ih, joined-with_block)

pub one_blank_more : (addr : ℕ) (blocks : List (List ℕ)) (block : List ℕ) → is_zero_block block ≡ true
    → stretches addr (blocks ++ block ∷ []) ≡ stretches addr blocks
one_blank_more addr [] block blank = rw blank refl
one_blank_more addr (b ∷ blocks) block blank = rw (one_blank_more (addr + length b) blocks block blank) refl

spanned-addr : (s : Segment) (rest : List Segment) → (spanned s rest).addr ≡ s.addr
spanned-addr s [] = refl
spanned-addr s (t ∷ rest) = spanned-addr (record { addr = s.addr; len = behind t - s.addr }) rest

-- the limit, one block after another
spanned-with_block : (s t : Segment) (rest : List Segment) (block : Segment)
    → spanned s (with_block (t ∷ rest) block) ≡ record { addr = s.addr; len = behind block - s.addr }
spanned-with_block s t [] block = grind (arith, common_steps)
spanned-with_block s t (u ∷ rest) block = spanned-with_block (record { addr = s.addr; len = behind t - s.addr }) u rest block

pub limited-with_block : (n : ℕ) (ss : List Segment) (block : Segment) → limited n (with_block ss block) ≡ extended n (limited n ss) block
limited-with_block zero [] block = refl
limited-with_block (suc n) [] block = refl
limited-with_block zero (s ∷ []) block = grind (arith, common_steps)
limited-with_block zero (s ∷ t ∷ rest) block =
    let from = spanned-addr (record { addr = s.addr; len = behind t - s.addr }) rest in
    let to = spanned-with_block s t rest block in
    grind (arith, common_steps, from, to)
limited-with_block (suc n) (s ∷ []) block = grind (arith, common_steps)
limited-with_block (suc zero) (s ∷ t ∷ rest) block =
    ap (λ (ss : List Segment). s ∷ ss) (limited-with_block zero (t ∷ rest) block)
limited-with_block (suc (suc n)) (s ∷ t ∷ rest) block =
    ap (λ (ss : List Segment). s ∷ ss) (limited-with_block (suc n) (t ∷ rest) block)

-- what is done to the last of a list
pub extended_last : (n : ℕ) (front : List Segment) (last block : Segment) → length front ≤ n
    → extended n (front ++ last ∷ []) block
    ≡ (if behind last == block.addr || length front == n then front ++ record { addr = last.addr; len = behind block - last.addr } ∷ []
    else front ++ last ∷ block ∷ [])
extended_last zero [] last block few = refl
extended_last (suc n) [] last block few = grind (arith, common_steps)
extended_last zero (s ∷ front) last block few = absurd (omega arith)
extended_last (suc n) (s ∷ []) last block few = grind (arith, common_steps)
extended_last (suc n) (s ∷ t ∷ front) last block few =
    let ih = extended_last n (t ∷ front) last block (omega arith) in grind (arith, common_steps, ih)

last_block : (block : List ℕ) → 0 < length block → length block ≤ block_size → blocks_of (block ++ []) ≡ block ∷ blocks_of []
last_block block some short =
    let count : (length block + 63) / 64 ≡ suc zero = omega arith in
    rw (append-nil block, count, take_all block_size block short) refl

-- bytes cut into a first block and the rest
pub first_block : (block rest : List ℕ) → 0 < length (block ++ rest) → length block ≡ min block_size (length (block ++ rest))
    → blocks_of (block ++ rest) ≡ block ∷ blocks_of rest
first_block block rest some len =
    let total = length-append block rest in
    elim (cases_eq (length block) block_size) [
      | inl whole ↦
          let count : (length (block ++ rest) + 63) / 64 ≡ suc ((length rest + 63) / 64) = omega arith in
          rw (count, take_at block rest block_size whole, drop_at block rest block_size whole) refl
      | inr less ↦
          let none : rest ≡ [] = nil_from_length rest (omega arith) in
          subst (λ (r : List ℕ). blocks_of (block ++ r) ≡ block ∷ blocks_of r) (sym none) (last_block block (omega arith) (omega arith))
    ]

-- what is done where the last of a list neither ends at the block nor is the last that there may be
pub put_behind : (n : ℕ) (front : List Segment) (last block : Segment) → length front < n → (behind last == block.addr) ≡ false
    → extended n (front ++ last ∷ []) block ≡ front ++ last ∷ [] ++ block ∷ []
put_behind n front last block few apart =
    let e = extended_last n front last block (omega arith) in
    let other : (length front == n) ≡ false = ne_eqb _ _ (λ same. omega arith) in
    e ∙ rw (apart, other) (sym (append_assoc front (last ∷ []) (block ∷ [])))

-- one block more in a list of blocks
pub length-concat_push : (blocks : List (List ℕ)) (block : List ℕ) → length (concat (blocks ++ block ∷ [])) ≡ length (concat blocks) + length block
length-concat_push [] block = rw append-nil (omega arith)
length-concat_push (b ∷ blocks) block =
    let ih = length-concat_push blocks block in
    let left = length-append b (concat (blocks ++ block ∷ [])) in
    let right = length-append b (concat blocks) in
    omega arith

-- a block more that is not of zeros alone, and one that is
pub made_more : (base addr : ℕ) (blocks : List (List ℕ)) (block : List ℕ) (ss more : List Segment) → ss ≡ limited 15 (stretches base blocks)
    → addr ≡ base + length (concat blocks) → is_zero_block block ≡ false → more ≡ extended 15 ss (record { addr = addr; len = length block })
    → more ≡ limited 15 (stretches base (blocks ++ block ∷ []))
made_more base addr blocks block ss more made here some extends =
    extends
    ∙ ap (λ (ts : List Segment). extended 15 ts (record { addr = addr; len = length block })) made
    ∙ ap (λ (a : ℕ). extended 15 (limited 15 (stretches base blocks)) (record { addr = a; len = length block })) here
    ∙ sym (limited-with_block 15 (stretches base blocks) (record { addr = base + length (concat blocks); len = length block }))
    ∙ ap (limited 15) (sym (one_block_more base blocks block some))

pub made_same : (base : ℕ) (blocks : List (List ℕ)) (block : List ℕ) (ss : List Segment) → ss ≡ limited 15 (stretches base blocks)
    → is_zero_block block ≡ true → ss ≡ limited 15 (stretches base (blocks ++ block ∷ []))
made_same base blocks block ss made blank = made ∙ ap (limited 15) (sym (one_blank_more base blocks block blank))

-- a chunk of 64 bytes, or of those that are left, is the next block
pub next_block : (payload : List ℕ) (before : List (List ℕ)) (left block rest : List ℕ) (size : ℕ) → blocks_of payload ≡ before ++ blocks_of left
    → left ≡ block ++ rest → length block ≡ min size (length left) → 0 < length left → size ≡ block_size
    → blocks_of payload ≡ (before ++ block ∷ []) ++ blocks_of rest
next_block payload before left block rest size cut split len some same =
    let first = first_block block rest (subst (λ (xs : List ℕ). 0 < length xs) split some)
    (len ∙ ap (λ (n : ℕ). min n (length left)) same ∙ ap (λ (xs : List ℕ). min block_size (length xs)) split) in
    cut ∙ ap (λ (xs : List ℕ). before ++ blocks_of xs) split ∙ ap (λ (bs : List (List ℕ)). before ++ bs) first
    ∙ sym (append_assoc before (block ∷ []) (blocks_of rest))

-- What bytes that are put change, and what they leave as it is.
use Rattle.std.proofs.Common.{◌≡◌, ◌≤◌, ◌<◌, ℕ, zero, suc, ◌+◌, ◌-◌, List, [], ◌∷◌, ◌⊎◌, length, Option, Some, None, ◌==◌, false, if◌then◌else◌, slice_get, get_or, nat_le, true, refl, ap, sym, ◌∙◌, arith}
use Rattle.std.proofs.lemmas.Grind.{common_steps}
use Rattle.std.proofs.lemmas.Bool.Decides.{nat_tests}
use Rattle.std.proofs.lemmas.List.{take-append-drop}
use Rattle.std.proofs.lemmas.Option.{slice_get_within, slice_get-get_or}
use Rattle.std.specs.Prelude.{slice_set}
use Rattle.std.specs.Option.{option_or}
use borrow.Rule.Slice.PartMut.{put_mid}
use Rattle.diva_memory.specs.Bytes.{Bytes, IsInside, byte_at, number_at, put, put_all}

abbrev pub bytes_from : ℕ → List ℕ → Bytes
bytes_from base items = record { base = base; items = items }

-- ---- the list as a whole

put_is : (base : ℕ) (items : List ℕ) (at b : ℕ) → put (bytes_from base items) (base + at) b ≡ bytes_from base (slice_set items at b)
put_is base items at b = grind (arith, nat_tests)

mid_more : (items bs : List ℕ) (at b : ℕ) → at + suc (length bs) ≤ length items → put_mid (suc at) (length bs) (slice_set items at b) bs ≡ put_mid at (suc (length bs)) items (b ∷ bs)
mid_more [] bs at b h = absurd (omega arith)
mid_more (x ∷ items) bs zero b h = refl
mid_more (x ∷ items) bs (suc at) b h = ap (λ (ys : List ℕ). x ∷ ys) (mid_more items bs at b (omega arith))

length-set : (items : List ℕ) (at b : ℕ) → length (slice_set items at b) ≡ length items
length-set items at b = grind (arith, common_steps)

put_all_from : (base : ℕ) (items : List ℕ) (at : ℕ) (bs : List ℕ) → at + length bs ≤ length items → put_all (bytes_from base items) (base + at) bs ≡ bytes_from base (put_mid at (length bs) items bs)
put_all_from base items at [] h = ap (bytes_from base) (sym (take-append-drop at items))
put_all_from base items at (b ∷ bs) h =
    let next : base + at + 1 ≡ base + suc at = omega arith in
    rw (put_is base items at b, next)
    (put_all_from base (slice_set items at b) (suc at) bs (rw length-set (omega arith)) ∙ ap (bytes_from base) (mid_more items bs at b h))

-- the bytes stand between those before and those behind them
pub put_all_items : (m : Bytes) (addr : ℕ) (bs : List ℕ) → IsInside m addr (length bs) → put_all m addr bs ≡ record m { items = put_mid (addr - m.base) (length bs) m.items bs }
put_all_items m addr bs h =
    let from : m.base + (addr - m.base) ≡ addr = omega arith in
    rw from at (put_all_from m.base m.items (addr - m.base) bs (omega arith))

-- and there are as many as before
pub length_put_mid : (items bs : List ℕ) (at : ℕ) → at + length bs ≤ length items → length (put_mid at (length bs) items bs) ≡ length items
length_put_mid items bs at h = grind (arith, common_steps)

-- ---- the range

put_base : (m : Bytes) (at b : ℕ) → (put m at b).base ≡ m.base
put_base m at b = grind (arith, nat_tests)

put_length : (m : Bytes) (at b : ℕ) → length (put m at b).items ≡ length m.items
put_length m at b = grind (arith, nat_tests, length-set)

pub put_all_base : (m : Bytes) (at : ℕ) (bs : List ℕ) → (put_all m at bs).base ≡ m.base
put_all_base m at [] = refl
put_all_base m at (b ∷ bs) = put_all_base (put m at b) (at + 1) bs ∙ put_base m at b

pub put_all_length : (m : Bytes) (at : ℕ) (bs : List ℕ) → length (put_all m at bs).items ≡ length m.items
put_all_length m at [] = refl
put_all_length m at (b ∷ bs) = put_all_length (put m at b) (at + 1) bs ∙ put_length m at b

-- ---- each byte

-- a byte of memory with a newer one over it, where there is one
abbrev pub over : Option ℕ → Option ℕ → Option ℕ
over None newer = None
over (Some b) None = Some b
over (Some b) (Some c) = Some c

over_none : (x : Option ℕ) → over x None ≡ x
over_none None = refl
over_none (Some x) = refl

same_suc : (i j : ℕ) → (suc i == suc j) ≡ (i == j)
same_suc i j = grind (arith, nat_tests)

get_set : (xs : List ℕ) (i j b : ℕ) → slice_get (slice_set xs i b) j ≡ over (slice_get xs j) (if i == j then Some b else None)
get_set [] i j b = refl
get_set (x ∷ xs) zero zero b = refl
get_set (x ∷ xs) zero (suc j) b = let no : (0 == suc j) ≡ false = grind (arith, nat_tests) in rw (no, over_none (slice_get xs j)) refl
get_set (x ∷ xs) (suc i) zero b = let no : (suc i == 0) ≡ false = grind (arith, nat_tests) in rw no refl
get_set (x ∷ xs) (suc i) (suc j) b = rw (same_suc i j) (get_set xs i j b)

one_byte : (at a b : ℕ) → byte_at (bytes_from at (b ∷ [])) a ≡ (if at == a then Some b else None)
one_byte at a b = grind (arith, common_steps)

put_byte : (m : Bytes) (at a b : ℕ) → byte_at (put m at b) a ≡ over (byte_at m a) (byte_at (bytes_from at (b ∷ [])) a)
put_byte m at a b = rw (one_byte at a b) (grind (arith, nat_tests, get_set m.items (at - m.base) (a - m.base) b))

over_twice : (x y z : Option ℕ) → over (over x y) z ≡ over x (option_or z y)
over_twice None y z = refl
over_twice (Some x) None None = refl
over_twice (Some x) None (Some z) = refl
over_twice (Some x) (Some y) None = refl
over_twice (Some x) (Some y) (Some z) = refl

first_or_rest : (b : ℕ) (bs : List ℕ) (at a : ℕ) → option_or (byte_at (bytes_from (at + 1) bs) a) (byte_at (bytes_from at (b ∷ [])) a) ≡ byte_at (bytes_from at (b ∷ bs)) a
first_or_rest b bs at a = grind (arith, common_steps)

none_in : (at a : ℕ) → byte_at (bytes_from at []) a ≡ None
none_in at a = grind (arith, common_steps)

-- a byte is the one that was put there, or else the one that was there
pub put_all_byte : (m : Bytes) (at a : ℕ) (bs : List ℕ) → byte_at (put_all m at bs) a ≡ over (byte_at m a) (byte_at (bytes_from at bs) a)
put_all_byte m at a [] = rw (none_in at a) (sym (over_none (byte_at m a)))
put_all_byte m at a (b ∷ bs) =
    put_all_byte (put m at b) (at + 1) a bs
    ∙ ap (λ (x : Option ℕ). over x (byte_at (bytes_from (at + 1) bs) a)) (put_byte m at a b)
    ∙ over_twice (byte_at m a) (byte_at (bytes_from at (b ∷ [])) a) (byte_at (bytes_from (at + 1) bs) a)
    ∙ ap (over (byte_at m a)) (first_or_rest b bs at a)

-- a byte is there only where it is inside
pub byte_within : (m : Bytes) (a b : ℕ) → byte_at m a ≡ Some b → IsInside m a 1
byte_within m a b h =
    let within : m.base ≤ a = grind (arith, nat_tests) in
    let there : slice_get m.items (a - m.base) ≡ Some b = grind (arith, nat_tests) in
    let below : a - m.base < length m.items = slice_get_within m.items (a - m.base) b there in
    record { from = within; to = omega arith }

none_unless : (o : Option ℕ) → ((b : ℕ) → o ≡ Some b → ⊥) → o ≡ None
none_unless None h = refl
none_unless (Some b) h = absurd (h b refl)

pub byte_outside : (m : Bytes) (a : ℕ) → (IsInside m a 1 → ⊥) → byte_at m a ≡ None
byte_outside m a h = none_unless (byte_at m a) (λ b e. h (byte_within m a b e))

pub byte_inside : (m : Bytes) (a : ℕ) → IsInside m a 1 → byte_at m a ≡ Some (get_or m.items (a - m.base) 0)
byte_inside m a h =
    let within : (nat_le m.base a) ≡ true = grind (arith, nat_tests) in
    rw within (slice_get-get_or m.items (a - m.base) 0 (omega arith))

-- a byte that is put
pub put_all_covered : (m : Bytes) (at a : ℕ) (bs : List ℕ) → IsInside m a 1 → IsInside (bytes_from at bs) a 1 → byte_at (put_all m at bs) a ≡ byte_at (bytes_from at bs) a
put_all_covered m at a bs h k = rw (put_all_byte m at a bs, byte_inside m a h, byte_inside (bytes_from at bs) a k) refl

-- any other byte
pub put_all_others : (m : Bytes) (at a : ℕ) (bs : List ℕ) → (IsInside (bytes_from at bs) a 1 → ⊥) → byte_at (put_all m at bs) a ≡ byte_at m a
put_all_others m at a bs h = rw (put_all_byte m at a bs, byte_outside (bytes_from at bs) a h) (over_none (byte_at m a))

-- the same by places
pub put_all_written : (m : Bytes) (at : ℕ) (bs : List ℕ) → IsInside m at (length bs) → (i : ℕ) → i < length bs → byte_at (put_all m at bs) (at + i) ≡ slice_get bs i
put_all_written m at bs h i lt =
    let place : at + i - at ≡ i = omega arith in
    let from : (nat_le at (at + i)) ≡ true = grind (arith, nat_tests) in
    let e = put_all_covered m at (at + i) bs (record { from = omega arith; to = omega arith }) (record { from = omega arith; to = omega arith }) in
    rw e (rw (from, place) refl)

pub put_all_beside : (m : Bytes) (at : ℕ) (bs : List ℕ) (a : ℕ) → (a < at) ⊎ (at + length bs ≤ a) → byte_at (put_all m at bs) a ≡ byte_at m a
put_all_beside m at bs a h = put_all_others m at a bs (λ k. let from = k.from in let to = k.to in omega arith)

-- ---- numbers

-- equal bytes make equal numbers
pub same_number : (m n : Bytes) (k a : ℕ) → ((i : ℕ) → i < k → byte_at m (a + i) ≡ byte_at n (a + i)) → number_at m k a ≡ number_at n k a
same_number m n zero a h = refl
same_number m n (suc k) a h =
    let here : a + 0 ≡ a = omega arith in
    let low : byte_at m a ≡ byte_at n a = rw here at (h 0 (omega arith)) in
    let high : number_at m k (a + 1) ≡ number_at n k (a + 1) =
    same_number m n k (a + 1) (λ i lt. let next : a + 1 + i ≡ a + suc i = omega arith in rw next (h (suc i) (omega arith))) in
    rw (low, high) refl

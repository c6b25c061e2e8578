-- What an entry writes to memory, byte by byte.
use Rattle.std.proofs.Common.{◌≡◌, ◌≤◌, ◌<◌, ℕ, zero, suc, ◌+◌, ◌-◌, ◌==◌, ◌&&◌, nat_le, nat_lt, [], ◌∷◌, length, Option, Some, None, Bool, true, false, if◌then◌else◌, refl, ap, sym, ◌∙◌, arith}
use Rattle.std.proofs.lemmas.Grind.{common_steps}
use Rattle.std.proofs.lemmas.Bool.Decides.{nat_tests}
use Rattle.std.specs.Int.{bit_at}
use Rattle.diva_memory.specs.Bytes.{Bytes, byte_at, put, word_byte}
use Rattle.diva_memory.proofs.Writing.{over, put_all_base, put_all_length, put_all_byte}
use Rattle.diva_storeq.specs.declared.masked.Masked.{Masked}
use Rattle.diva_storeq.specs.Masked.{byte_lane, byte_in, put_byte_lane, merge, WritesInside}

-- ---- the range

test_base : (c : Bool) (m : Bytes) (at b : ℕ) → (if c then put m at b else m).base ≡ m.base
test_base true m at b = put_all_base m at (b ∷ [])
test_base false m at b = refl

test_length : (c : Bool) (m : Bytes) (at b : ℕ) → length (if c then put m at b else m).items ≡ length m.items
test_length true m at b = put_all_length m at (b ∷ [])
test_length false m at b = refl

lane_base : (e : Masked) (i : ℕ) (m : Bytes) → (put_byte_lane e i m).base ≡ m.base
lane_base e i m = test_base (bit_at e.mask i == 1) m (e.addr + i) (word_byte e.bytes i)

lane_length : (e : Masked) (i : ℕ) (m : Bytes) → length (put_byte_lane e i m).items ≡ length m.items
lane_length e i m = test_length (bit_at e.mask i == 1) m (e.addr + i) (word_byte e.bytes i)

pub merge_base : (m : Bytes) (e : Masked) → (merge m e).base ≡ m.base
unfolding merge
merge_base m e = lane_base e 3 _ ∙ lane_base e 2 _ ∙ lane_base e 1 _ ∙ lane_base e 0 m

pub merge_length : (m : Bytes) (e : Masked) → length (merge m e).items ≡ length m.items
unfolding merge
merge_length m e = lane_length e 3 _ ∙ lane_length e 2 _ ∙ lane_length e 1 _ ∙ lane_length e 0 m

-- what is inside stays inside
pub lane_within : (e f : Masked) (i : ℕ) (m : Bytes) → WritesInside m f → WritesInside (put_byte_lane e i m) f
lane_within e f i m h = λ k lt set. let j = h k lt set in let from = j.from in let to = j.to in
    record { from = omega (arith, lane_base e i m); to = omega (arith, lane_base e i m, lane_length e i m) }

-- ---- each byte

one_byte : (at a b : ℕ) → byte_at (record { base = at; items = b ∷ [] }) a ≡ (if at == a then Some b else None)
one_byte at a b = grind (arith, common_steps)

pub over_nothing : (x : Option ℕ) → over x None ≡ x
over_nothing None = refl
over_nothing (Some x) = refl

put_byte : (m : Bytes) (at a b : ℕ) → byte_at (put m at b) a ≡ over (byte_at m a) (if at == a then Some b else None)
put_byte m at a b = put_all_byte m at a (b ∷ []) ∙ ap (over (byte_at m a)) (one_byte at a b)

test_here : (c : Bool) (m : Bytes) (at b : ℕ) → byte_at (if c then put m at b else m) at ≡ over (byte_at m at) (if c then Some b else None)
test_here true m at b = let same : (at == at) ≡ true = grind (arith, nat_tests) in rw same at (put_byte m at at b)
test_here false m at b = sym (over_nothing (byte_at m at))

test_apart : (c : Bool) (m : Bytes) (at a b : ℕ) → (at ≡ a → ⊥) → byte_at (if c then put m at b else m) a ≡ byte_at m a
test_apart true m at a b h = let other : (at == a) ≡ false = grind (arith, nat_tests) in (rw other at (put_byte m at a b)) ∙ over_nothing (byte_at m a)
test_apart false m at a b h = refl

lane_here : (e : Masked) (i : ℕ) (m : Bytes) → byte_at (put_byte_lane e i m) (e.addr + i) ≡ over (byte_at m (e.addr + i)) (byte_lane e i)
lane_here e i m = test_here (bit_at e.mask i == 1) m (e.addr + i) (word_byte e.bytes i)

lane_apart : (e : Masked) (i a : ℕ) (m : Bytes) → (e.addr + i ≡ a → ⊥) → byte_at (put_byte_lane e i m) a ≡ byte_at m a
lane_apart e i a m h = test_apart (bit_at e.mask i == 1) m (e.addr + i) a (word_byte e.bytes i) h

-- a place of the word: the byte that is written there, or else memory's
merge_at : (m : Bytes) (e : Masked) (i : ℕ) → i < 4 → byte_at (merge m e) (e.addr + i) ≡ over (byte_at m (e.addr + i)) (byte_lane e i)
unfolding merge
merge_at m e zero lt =
    lane_apart e 3 (e.addr + 0) _ (λ h. omega arith) ∙ lane_apart e 2 (e.addr + 0) _ (λ h. omega arith) ∙ lane_apart e 1 (e.addr + 0) _ (λ h. omega arith)
    ∙ lane_here e 0 m
merge_at m e (suc zero) lt =
    lane_apart e 3 (e.addr + 1) _ (λ h. omega arith) ∙ lane_apart e 2 (e.addr + 1) _ (λ h. omega arith) ∙ lane_here e 1 _
    ∙ ap (λ (x : Option ℕ). over x (byte_lane e 1)) (lane_apart e 0 (e.addr + 1) m (λ h. omega arith))
merge_at m e (suc (suc zero)) lt =
    lane_apart e 3 (e.addr + 2) _ (λ h. omega arith) ∙ lane_here e 2 _
    ∙ ap (λ (x : Option ℕ). over x (byte_lane e 2)) (lane_apart e 1 (e.addr + 2) _ (λ h. omega arith) ∙ lane_apart e 0 (e.addr + 2) m (λ h. omega arith))
merge_at m e (suc (suc (suc zero))) lt =
    lane_here e 3 _
    ∙ ap (λ (x : Option ℕ). over x (byte_lane e 3)) (lane_apart e 2 (e.addr + 3) _ (λ h. omega arith) ∙ lane_apart e 1 (e.addr + 3) _ (λ h. omega arith) ∙ lane_apart e 0 (e.addr + 3) m (λ h. omega arith))
merge_at m e (suc (suc (suc (suc i)))) lt = absurd (omega arith)

-- any other address
pub merge_apart : (m : Bytes) (e : Masked) (a : ℕ) → (e.addr ≤ a → a < e.addr + 4 → ⊥) → byte_at (merge m e) a ≡ byte_at m a
unfolding merge
merge_apart m e a h =
    lane_apart e 3 a _ (λ k. h (omega arith) (omega arith)) ∙ lane_apart e 2 a _ (λ k. h (omega arith) (omega arith))
    ∙ lane_apart e 1 a _ (λ k. h (omega arith) (omega arith)) ∙ lane_apart e 0 a m (λ k. h (omega arith) (omega arith))

by_range : (m : Bytes) (e : Masked) (a : ℕ) (c : Bool) → (nat_le e.addr a && nat_lt a (e.addr + 4)) ≡ c → byte_at (merge m e) a ≡ over (byte_at m a) (if c then byte_lane e (a - e.addr) else None)
by_range m e a true h =
    let from : e.addr ≤ a = grind (arith, nat_tests) in
    let to : a < e.addr + 4 = grind (arith, nat_tests) in
    let here : e.addr + (a - e.addr) ≡ a = omega arith in
    rw here at (merge_at m e (a - e.addr) (omega arith))
by_range m e a false h = merge_apart m e a (λ from to. let both : (nat_le e.addr a && nat_lt a (e.addr + 4)) ≡ true = grind (arith, nat_tests) in cc) ∙ sym (over_nothing (byte_at m a))

-- a byte is the one that the entry writes, or else memory's
pub merge_byte : (m : Bytes) (e : Masked) (a : ℕ) → byte_at (merge m e) a ≡ over (byte_at m a) (byte_in e a)
merge_byte m e a = by_range m e a (nat_le e.addr a && nat_lt a (e.addr + 4)) refl

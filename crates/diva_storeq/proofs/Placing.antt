-- A store stands in one word, and its entry writes there what it writes.
use Rattle.std.proofs.Common.{◌≡◌, ◌≤◌, ◌<◌, ℕ, zero, suc, ◌+◌, ◌-◌, ◌*◌, ◌/◌, ◌%◌, ◌^◌, true, refl, ap, inl, inr, arith}
use Rattle.std.proofs.lemmas.Bool.Decides.{nat_tests}
use Rattle.std.proofs.lemmas.Bool.{cases_lt}
use Rattle.std.proofs.lemmas.Nat.Bits.{bit_at_mask_below, bit_at_mask_above}
use Rattle.std.specs.Int.{bit_at, to_le_bytes, w32}
use Rattle.diva_memory.specs.Bytes.{Bytes, IsInside, low_bytes, put, put_all, word_byte}
use Rattle.diva_storeq.specs.declared.masked.Masked.{Masked}
use Rattle.diva_storeq.specs.declared.store.Store.{Store}
use Rattle.diva_storeq.specs.Width.{is_width}
use Rattle.diva_storeq.specs.Masked.{merge, IsMasked, WritesInside}
use Rattle.diva_storeq.specs.Stores.{lay, masked}

-- the entry of the low w bytes of v at place k of the word at q
abbrev pub entry_at : (q v w k : ℕ) → Masked
entry_at q v w k = record { addr = q; mask = 2 ^ (k + w) - 2 ^ k; bytes = v % 2 ^ (8 * w) * 2 ^ (8 * k) }

-- the seven ways in which a store can stand in its word: its width, and its place there
pub placed : (P : ℕ → ℕ → Type 0) (w k a : ℕ) → is_width w ≡ true → a % w ≡ 0 → a % 4 ≡ k
    → P 1 0 → P 1 1 → P 1 2 → P 1 3 → P 2 0 → P 2 2 → P 4 0 → P w k
placed P (suc zero) zero a h z is p10 p11 p12 p13 p20 p22 p40 = p10
placed P (suc zero) (suc zero) a h z is p10 p11 p12 p13 p20 p22 p40 = p11
placed P (suc zero) (suc (suc zero)) a h z is p10 p11 p12 p13 p20 p22 p40 = p12
placed P (suc zero) (suc (suc (suc zero))) a h z is p10 p11 p12 p13 p20 p22 p40 = p13
placed P (suc zero) (suc (suc (suc (suc k)))) a h z is p10 p11 p12 p13 p20 p22 p40 = absurd (omega arith)
placed P (suc (suc zero)) zero a h z is p10 p11 p12 p13 p20 p22 p40 = p20
placed P (suc (suc zero)) (suc zero) a h z is p10 p11 p12 p13 p20 p22 p40 = absurd (omega arith)
placed P (suc (suc zero)) (suc (suc zero)) a h z is p10 p11 p12 p13 p20 p22 p40 = p22
placed P (suc (suc zero)) (suc (suc (suc k))) a h z is p10 p11 p12 p13 p20 p22 p40 = absurd (omega arith)
placed P (suc (suc (suc (suc zero)))) zero a h z is p10 p11 p12 p13 p20 p22 p40 = p40
placed P (suc (suc (suc (suc zero)))) (suc k) a h z is p10 p11 p12 p13 p20 p22 p40 = absurd (omega arith)
placed P zero k a h z is p10 p11 p12 p13 p20 p22 p40 = absurd (cc)
placed P (suc (suc (suc zero))) k a h z is p10 p11 p12 p13 p20 p22 p40 = absurd (cc)
placed P (suc (suc (suc (suc (suc w))))) k a h z is p10 p11 p12 p13 p20 p22 p40 = absurd (grind (arith, nat_tests))

-- ---- what it writes

abbrev IsLaid : Bytes → ℕ → ℕ → Type 0
IsLaid m w k = (q v : ℕ) → merge m (entry_at q v w k) ≡ put_all m (q + k) (low_bytes w v)

byte_0 : (m : Bytes) → IsLaid m 1 0
unfolding merge
byte_0 m q v = let e : word_byte (v % 2 ^ 8 * 2 ^ 0) 0 ≡ v % 256 = omega arith in ap (put m (q + 0)) e

byte_1 : (m : Bytes) → IsLaid m 1 1
unfolding merge
byte_1 m q v = let e : word_byte (v % 2 ^ 8 * 2 ^ 8) 1 ≡ v % 256 = omega arith in ap (put m (q + 1)) e

byte_2 : (m : Bytes) → IsLaid m 1 2
unfolding merge
byte_2 m q v = let e : word_byte (v % 2 ^ 8 * 2 ^ 16) 2 ≡ v % 256 = omega arith in ap (put m (q + 2)) e

byte_3 : (m : Bytes) → IsLaid m 1 3
unfolding merge
byte_3 m q v = let e : word_byte (v % 2 ^ 8 * 2 ^ 24) 3 ≡ v % 256 = omega arith in ap (put m (q + 3)) e

half_0 : (m : Bytes) → IsLaid m 2 0
unfolding merge
half_0 m q v =
    let b0 : word_byte (v % 2 ^ 16 * 2 ^ 0) 0 ≡ v % 256 = omega arith in
    let b1 : word_byte (v % 2 ^ 16 * 2 ^ 0) 1 ≡ v / 256 % 256 = omega arith in
    let a1 : q + 1 ≡ q + 0 + 1 = omega arith in
    rw (b0, b1, a1) refl

half_2 : (m : Bytes) → IsLaid m 2 2
unfolding merge
half_2 m q v =
    let b2 : word_byte (v % 2 ^ 16 * 2 ^ 16) 2 ≡ v % 256 = omega arith in
    let b3 : word_byte (v % 2 ^ 16 * 2 ^ 16) 3 ≡ v / 256 % 256 = omega arith in
    let a3 : q + 3 ≡ q + 2 + 1 = omega arith in
    rw (b2, b3, a3) refl

word_0 : (m : Bytes) → IsLaid m 4 0
unfolding merge
word_0 m q v =
    let b0 : word_byte (v % 2 ^ 32 * 2 ^ 0) 0 ≡ v % 256 = omega arith in
    let b1 : word_byte (v % 2 ^ 32 * 2 ^ 0) 1 ≡ v / 256 % 256 = omega arith in
    let b2 : word_byte (v % 2 ^ 32 * 2 ^ 0) 2 ≡ v / 65536 % 256 = omega arith in
    let b3 : word_byte (v % 2 ^ 32 * 2 ^ 0) 3 ≡ v / 16777216 % 256 = omega arith in
    let a1 : q + 1 ≡ q + 0 + 1 = omega arith in
    let a2 : q + 2 ≡ q + 0 + 1 + 1 = omega arith in
    let a3 : q + 3 ≡ q + 0 + 1 + 1 + 1 = omega arith in
    cc

pub merge_masked : (m : Bytes) (s : Store) → s.addr % s.width ≡ 0 → merge m (masked s) ≡ lay m s
unfolding lay masked
merge_masked m s h =
    let here : s.addr - s.addr % 4 + s.addr % 4 ≡ s.addr = omega arith in
    rw here at (placed (IsLaid m) s.width (s.addr % 4) s.addr s.sized h refl (byte_0 m) (byte_1 m) (byte_2 m) (byte_3 m) (half_0 m) (half_2 m) (word_0 m) (s.addr - s.addr % 4) s.value)

-- ---- its bytes are inside memory

-- the bits of the mask are those of its places
set_inside : (w k i : ℕ) → bit_at (2 ^ (k + w) - 2 ^ k) i ≡ 1 → (k ≤ i) × (i < k + w)
set_inside w k i set = (
  elim (cases_lt i k) [ inl below ↦ absurd (omega (arith, bit_at_mask_below k (k + w) i below)) | inr from ↦ from ],
  elim (cases_lt i (k + w)) [ inl to ↦ to | inr above ↦ absurd (omega (arith, bit_at_mask_above k (k + w) i above)) ],
)

pub within_masked : (m : Bytes) (s : Store) → IsInside m s.addr s.width → WritesInside m (masked s)
unfolding masked
within_masked m s h = λ i lt set.
    let from = h.from in let to = h.to in
    let place = set_inside s.width (s.addr % 4) i set in
    let low = place.0 in let high = place.1 in
    record { from = omega arith; to = omega arith }

-- ---- an entry that writes all four bytes

pub whole_word : (m : Bytes) (e : Masked) → e.mask ≡ 15 → put_all m e.addr (to_le_bytes w32 e.bytes) ≡ merge m e
unfolding merge
whole_word m e full =
    let b0 : word_byte e.bytes 0 ≡ e.bytes % 256 = omega arith in
    let a0 : e.addr + 0 ≡ e.addr = omega arith in
    let a2 : e.addr + 2 ≡ e.addr + 1 + 1 = omega arith in
    let a3 : e.addr + 3 ≡ e.addr + 1 + 1 + 1 = omega arith in
    rw (full, b0, a0, a2, a3) refl

pub whole_inside : (m : Bytes) (e : Masked) → e.mask ≡ 15 → WritesInside m e → IsInside m e.addr 4
whole_inside m e full h =
    let low = h 0 (omega arith) (rw full refl) in
    let high = h 3 (omega arith) (rw full refl) in
    let from = low.from in
    let to = high.to in
    record { from = omega arith; to = omega arith }

-- ---- the bytes that it does not write are 0

four : (P : ℕ → Type 0) → P 0 → P 1 → P 2 → P 3 → (i : ℕ) → i < 4 → P i
four P p0 p1 p2 p3 zero lt = p0
four P p0 p1 p2 p3 (suc zero) lt = p1
four P p0 p1 p2 p3 (suc (suc zero)) lt = p2
four P p0 p1 p2 p3 (suc (suc (suc zero))) lt = p3
four P p0 p1 p2 p3 (suc (suc (suc (suc i)))) lt = absurd (omega arith)

abbrev IsZero : ℕ → ℕ → ℕ → ℕ → Type 0
IsZero v w k i = bit_at (2 ^ (k + w) - 2 ^ k) i ≡ 0 → word_byte (v % 2 ^ (8 * w) * 2 ^ (8 * k)) i ≡ 0

abbrev IsClear : ℕ → ℕ → ℕ → Type 0
IsClear v w k = (i : ℕ) → i < 4 → IsZero v w k i

clear_byte_0 : (v : ℕ) → IsClear v 1 0
clear_byte_0 v = four (IsZero v 1 0) (λ h. absurd (cc)) (λ h. omega arith) (λ h. omega arith) (λ h. omega arith)

clear_byte_1 : (v : ℕ) → IsClear v 1 1
clear_byte_1 v = four (IsZero v 1 1) (λ h. omega arith) (λ h. absurd (cc)) (λ h. omega arith) (λ h. omega arith)

clear_byte_2 : (v : ℕ) → IsClear v 1 2
clear_byte_2 v = four (IsZero v 1 2) (λ h. omega arith) (λ h. omega arith) (λ h. absurd (cc)) (λ h. omega arith)

clear_byte_3 : (v : ℕ) → IsClear v 1 3
clear_byte_3 v = four (IsZero v 1 3) (λ h. omega arith) (λ h. omega arith) (λ h. omega arith) (λ h. absurd (cc))

clear_half_0 : (v : ℕ) → IsClear v 2 0
clear_half_0 v = four (IsZero v 2 0) (λ h. absurd (cc)) (λ h. absurd (cc)) (λ h. omega arith) (λ h. omega arith)

clear_half_2 : (v : ℕ) → IsClear v 2 2
clear_half_2 v = four (IsZero v 2 2) (λ h. omega arith) (λ h. omega arith) (λ h. absurd (cc)) (λ h. absurd (cc))

clear_word_0 : (v : ℕ) → IsClear v 4 0
clear_word_0 v = four (IsZero v 4 0) (λ h. absurd (cc)) (λ h. absurd (cc)) (λ h. absurd (cc)) (λ h. absurd (cc))

abbrev IsSmall : ℕ → ℕ → Type 0
IsSmall w k = 2 ^ (k + w) - 2 ^ k < 2 ^ 4

pub masked_sound : (s : Store) → s.addr % s.width ≡ 0 → IsMasked (masked s)
unfolding masked
masked_sound s h = record {
  aligned = omega arith;
  mask = placed IsSmall s.width (s.addr % 4) s.addr s.sized h refl (omega arith) (omega arith) (omega arith) (omega arith) (omega arith) (omega arith) (omega arith);
  clear = placed (IsClear s.value) s.width (s.addr % 4) s.addr s.sized h refl (clear_byte_0 s.value) (clear_byte_1 s.value) (clear_byte_2 s.value) (clear_byte_3 s.value) (clear_half_0 s.value) (clear_half_2 s.value) (clear_word_0 s.value);
}

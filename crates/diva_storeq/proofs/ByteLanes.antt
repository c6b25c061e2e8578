-- A word with an entry laid over it, byte lane by byte lane.
use Rattle.std.proofs.Common.{◌≡◌, ◌<◌, ℕ, zero, suc, ◌+◌, ◌-◌, ◌*◌, ◌/◌, ◌%◌, ◌^◌, ◌==◌, ◌&&◌, Bool, true, false, Some, None, if◌then◌else◌, bit_and, bit_or, refl, inl, inr, ap, ◌∙◌, arith}
use Rattle.std.proofs.lemmas.Bool.Decides.{nat_tests}
use Rattle.std.proofs.lemmas.Nat.{and_shr, or_shr, and_mod, or_mod, and_mask}
use Rattle.std.proofs.lemmas.Bool.{cases_lt}
use lib.Bits.{and_zero_r, or_zero_l, or_zero_r}
use Rattle.std.specs.Int.{bit_at}
use Rattle.std.specs.Option.{unwrap_or}
use Rattle.diva_memory.specs.Bytes.{word_byte}
use Rattle.diva_storeq.specs.declared.masked.Masked.{Masked}
use Rattle.diva_storeq.specs.Masked.{byte_lane, byte_in, IsMasked}

-- ---- the byte lanes of a mask

-- the word whose byte i is all ones where bit i of a mask is set
abbrev pub lanes_of : ℕ → ℕ
lanes_of mask = bit_and (mask * 2113665) 16843009 * 255

abbrev lane_ones : ℕ → ℕ → ℕ
lane_ones mask i = if bit_at mask i == 1 then 255 else 0

abbrev is_lane : ℕ → ℕ → Bool
is_lane mask i = word_byte (lanes_of mask) i == lane_ones mask i

abbrev all_below : ℕ → (ℕ → Bool) → Bool
all_below zero p = true
all_below (suc n) p = p n && all_below n p

both : (b c : Bool) → (b && c) ≡ true → (b ≡ true) × (c ≡ true)
both true c h = (refl, h)
both false c h = absurd (cc)

each_below : (n : ℕ) (p : ℕ → Bool) → all_below n p ≡ true → (i : ℕ) → i < n → p i ≡ true
each_below zero p h i lt = absurd (omega arith)
each_below (suc n) p h i lt =
    let split = both (p n) (all_below n p) h in
    elim (cases_lt i n) [
      | inl below ↦ each_below n p split.1 i below
      | inr from ↦ (let e : n ≡ i = omega arith in rw e at split.0)
    ]

-- tried on each of the sixteen masks
all_lanes : all_below 16 (λ mask. all_below 4 (is_lane mask)) ≡ true
all_lanes = refl

same : (a b : ℕ) → (a == b) ≡ true → a ≡ b
same a b h = grind (arith, nat_tests)

pub lanes_are : (mask i : ℕ) → mask < 16 → i < 4 → word_byte (lanes_of mask) i ≡ lane_ones mask i
lanes_are mask i small lt =
    same _ _ (each_below 4 (is_lane mask) (each_below 16 (λ n. all_below 4 (is_lane n)) all_lanes mask small) i lt)

-- ---- a merge

unset_byte : (l i : ℕ) → l < 2 ^ 32 → i < 4 → word_byte (2 ^ 32 - 1 - l) i ≡ 255 - word_byte l i
unset_byte l zero small lt = omega arith
unset_byte l (suc zero) small lt = omega arith
unset_byte l (suc (suc zero)) small lt = omega arith
unset_byte l (suc (suc (suc zero))) small lt = omega arith
unset_byte l (suc (suc (suc (suc i)))) small lt = absurd (omega arith)

and_byte : (a b i : ℕ) → word_byte (bit_and a b) i ≡ bit_and (word_byte a i) (word_byte b i)
and_byte a b i = ap (λ (n : ℕ). n % 2 ^ 8) (and_shr a b (8 * i)) ∙ and_mod (a / 2 ^ (8 * i)) (b / 2 ^ (8 * i)) 8

or_byte : (a b i : ℕ) → word_byte (bit_or a b) i ≡ bit_or (word_byte a i) (word_byte b i)
or_byte a b i = ap (λ (n : ℕ). n % 2 ^ 8) (or_shr a b (8 * i)) ∙ or_mod (a / 2 ^ (8 * i)) (b / 2 ^ (8 * i)) 8

-- old where the byte lane is not set, and new there
chosen : (c : Bool) (old new ones : ℕ) → ones ≡ (if c then 255 else 0) → (c ≡ false → new ≡ 0) → old < 256
    → bit_or (bit_and old (255 - ones)) new ≡ unwrap_or (if c then Some new else None) old
chosen true old new ones e clear lt = rw (e, and_zero_r old) (or_zero_l new)
chosen false old new ones e clear lt = rw (e, clear refl, or_zero_r) (and_mask old 8 ∙ omega arith)

pub merged_byte : (e : Masked) (w l i : ℕ) → IsMasked e → l < 2 ^ 32 → i < 4 → word_byte l i ≡ (if bit_at e.mask i == 1 then 255 else 0)
    → word_byte (bit_or (bit_and w (2 ^ 32 - 1 - l)) e.bytes) i ≡ unwrap_or (byte_lane e i) (word_byte w i)
merged_byte e w l i sound small lt ones =
    or_byte (bit_and w (2 ^ 32 - 1 - l)) e.bytes i
    ∙ ap (λ (n : ℕ). bit_or n (word_byte e.bytes i)) (and_byte w (2 ^ 32 - 1 - l) i ∙ ap (bit_and (word_byte w i)) (unset_byte l i small lt))
    ∙ chosen (bit_at e.mask i == 1) (word_byte w i) (word_byte e.bytes i) (word_byte l i) ones
    (λ no. sound.clear i lt (let z : bit_at e.mask i ≡ 0 = grind (arith, nat_tests) in z)) (omega arith)

-- an address of the entry's word
pub byte_here : (e : Masked) (i : ℕ) → i < 4 → byte_in e (e.addr + i) ≡ byte_lane e i
byte_here e i lt = grind (arith, nat_tests)

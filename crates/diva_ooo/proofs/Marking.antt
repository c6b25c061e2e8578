-- Sets of places, and the entries whose places they are.
use Rattle.std.proofs.Common.{◌≡◌, ◌≢◌, ◌<◌, ◌≤◌, ℕ, zero, suc, ◌+◌, ◌-◌, ◌*◌, ◌/◌, ◌%◌, ◌^◌, ◌==◌, Bool, true, false, ◌&&◌, ◌||◌, not, List, [], ◌∷◌, ◌++◌, length, take, drop, min, max, Some, refl, ap, sym, ◌∙◌, arith, slice_get, if◌then◌else◌, w64}
use Rattle.std.specs.Prelude.{slice_set, nat_le, nat_lt}
use Rattle.std.specs.Int.{bit_at, bit_not, trailing_zeros}
use Rattle.std.specs.Int.Bits.{bit_and, bit_or, bit_xor}
use Rattle.std.proofs.lemmas.Bool.{true≢false}
use Rattle.std.proofs.lemmas.Bool.Decides.{nat_tests}
use Rattle.std.proofs.lemmas.Grind.{common_steps}
use Rattle.std.proofs.lemmas.Nat.{div_below, le-div, mod_below, one_shl, pow_pos, shr-shr, shr_split}
use Rattle.std.proofs.Math.Nat.{add-zero, pow-suc, suc-mul}
use Rattle.std.proofs.lemmas.Nat.Bits.{bit_at-zero, bit_at-lt, bit_at_above, bit_at_and, bit_at_or, bit_at_ones, bit_at_ones_above, bit_at_cat_high, bit_at_cat_low, bit_at_lowest, bit_at_mask_below, bit_at_mask_inside, bit_at_not, bit_at-suc, bit_at_xor, bit_at_set_same, bit_at_set_other, bit_at_clear_same, bit_at_clear_other, bit_at-trailing_zeros, ones_shl, same_from_bits, same_from_bits_below, shr_and_one}
use mir.Val.{bool_byte}
use Rattle.diva_ooo.specs.WindowEntry.{WindowEntry}
use Rattle.diva_ooo.specs.declared.mark_set.MarkSet.{MarkSet}
use Rattle.diva_ooo.specs.MarkSets.{AreThose, IsLast, IsNext, has, holds_at}

-- ---- the bits

pub has_bit : (n i : ℕ) → (bit_and (n / 2 ^ i) 1 == 1) ≡ (bit_at n i == 1)
has_bit n i = rw (shr_and_one n i) refl

put_by : (b : Bool) (n at i : ℕ) → at < 64 → (i == at) ≡ b → (bit_at (bit_or n (1 * 2 ^ at % 2 ^ 64)) i == 1) ≡ (if b then true else (bit_at n i == 1))
put_by true n at i h is =
    let same : i ≡ at = grind (arith, nat_tests) in
    rw (same, bit_at_set_same w64 n at h) refl
put_by false n at i h is =
    let other : i ≢ at = grind (arith, nat_tests) in
    rw (bit_at_set_other w64 n at h i other) refl

pub put_one : (n at : ℕ) → at < 64 → (i : ℕ) → (bit_at (bit_or n (1 * 2 ^ at % 2 ^ 64)) i == 1) ≡ (if i == at then true else (bit_at n i == 1))
put_one n at h i = put_by (i == at) n at i h refl

put_zero : (b : Bool) (n at i : ℕ) → (i == at) ≡ b → (bit_at n i == 1) ≡ (if b then (bit_at n at == 1) else (bit_at n i == 1))
put_zero true n at i is = let same : i ≡ at = grind (arith, nat_tests) in rw same refl
put_zero false n at i is = refl

pub put_none : (n at i : ℕ) → (bit_at n i == 1) ≡ (if i == at then (bit_at n at == 1) else (bit_at n i == 1))
put_none n at i = put_zero (i == at) n at i refl

times_zero : (k : ℕ) → 0 * k ≡ 0
times_zero k = omega arith

or_zero : (b : Bool) → (b || false) ≡ b
or_zero true = refl
or_zero false = refl

or_one : (a b : ℕ) → a < 2 → b < 2 → (max a b == 1) ≡ ((a == 1) || (b == 1))
or_one zero zero h k = refl
or_one zero (suc zero) h k = refl
or_one (suc zero) zero h k = refl
or_one (suc zero) (suc zero) h k = refl
or_one a (suc (suc b)) h k = absurd (omega arith)
or_one (suc (suc a)) b h k = absurd (omega arith)

and_one : (a b : ℕ) → a < 2 → b < 2 → (min a b == 1) ≡ ((a == 1) && (b == 1))
and_one zero zero h k = refl
and_one zero (suc zero) h k = refl
and_one (suc zero) zero h k = refl
and_one (suc zero) (suc zero) h k = refl
and_one a (suc (suc b)) h k = absurd (omega arith)
and_one (suc (suc a)) b h k = absurd (omega arith)

pub or_has : (m n i : ℕ) → (bit_at (bit_or m n) i == 1) ≡ ((bit_at m i == 1) || (bit_at n i == 1))
or_has m n i = rw (bit_at_or m n i) (or_one (bit_at m i) (bit_at n i) (bit_at-lt m i) (bit_at-lt n i))

pub and_has : (m n i : ℕ) → (bit_at (bit_and m n) i == 1) ≡ ((bit_at m i == 1) && (bit_at n i == 1))
and_has m n i = rw (bit_at_and m n i) (and_one (bit_at m i) (bit_at n i) (bit_at-lt m i) (bit_at-lt n i))

min_zero : (n : ℕ) → min 0 n ≡ 0
min_zero n = omega arith

minus_one : (a b : ℕ) → a < 2 → b < 2 → (min a (1 - b) == 1) ≡ ((a == 1) && not (b == 1))
minus_one zero zero h k = refl
minus_one zero (suc zero) h k = refl
minus_one (suc zero) zero h k = refl
minus_one (suc zero) (suc zero) h k = refl
minus_one a (suc (suc b)) h k = absurd (omega arith)
minus_one (suc (suc a)) b h k = absurd (omega arith)

except_by : (c : Bool) (m n i : ℕ) → m < 2 ^ 64 → n < 2 ^ 64 → nat_lt i 64 ≡ c → (bit_at (bit_and m (bit_not w64 n)) i == 1) ≡ ((bit_at m i == 1) && not (bit_at n i == 1))
except_by true m n i h k is =
    let within : i < 64 = grind (arith, nat_tests) in
    rw (bit_at_and m (bit_not w64 n) i, bit_at_not w64 n i k within) (minus_one (bit_at m i) (bit_at n i) (bit_at-lt m i) (bit_at-lt n i))
except_by false m n i h k is =
    let far : 64 ≤ i = grind (arith, nat_tests) in
    rw (bit_at_and m (bit_not w64 n) i, bit_at_above m 64 i h far, min_zero (bit_at (bit_not w64 n) i)) refl

pub except_has : (m n i : ℕ) → m < 2 ^ 64 → n < 2 ^ 64 → (bit_at (bit_and m (bit_not w64 n)) i == 1) ≡ ((bit_at m i == 1) && not (bit_at n i == 1))
except_has m n i h k = except_by (nat_lt i 64) m n i h k refl

high_by : (c d : Bool) (n from i : ℕ) → n < 2 ^ 64 → nat_lt i 64 ≡ c → nat_le from i ≡ d → ((bit_at n i == 1) && (bit_at (2 ^ 64 - 2 ^ from) i == 1)) ≡ ((bit_at n i == 1) && d)
high_by true true n from i h is here =
    let within : i < 64 = grind (arith, nat_tests) in
    let behind : from ≤ i = grind (arith, nat_tests) in
    rw (bit_at_mask_inside from 64 i behind within) refl
high_by c false n from i h is here =
    let before : i < from = grind (arith, nat_tests) in
    rw (bit_at_mask_below from 64 i before) refl
high_by false true n from i h is here =
    let far : 64 ≤ i = grind (arith, nat_tests) in
    rw (bit_at_above n 64 i h far) refl

pub high_has : (n from i : ℕ) → from < 64 → n < 2 ^ 64 → (bit_at (bit_and n ((2 ^ 64 - 1) * 2 ^ from % 2 ^ 64)) i == 1) ≡ ((bit_at n i == 1) && nat_le from i)
high_has n from i k h = rw (ones_shl 64 from (omega arith)) (and_has n (2 ^ 64 - 2 ^ from) i ∙ high_by (nat_lt i 64) (nat_le from i) n from i h refl refl)

pub put_member : (b : Bool) (m n at : ℕ) → m ≡ bool_byte b → at < 64 → (i : ℕ) → (bit_at (bit_or n (m * 2 ^ at % 2 ^ 64)) i == 1) ≡ (if i == at then b || (bit_at n at == 1) else (bit_at n i == 1))
put_member true m n at is h i = rw is (put_one n at h i)
put_member false m n at is h i =
    rw (is, times_zero (2 ^ at)) (or_has n 0 i ∙ ap (λ (z : ℕ). (bit_at n i == 1) || (z == 1)) (bit_at-zero i) ∙ or_zero (bit_at n i == 1) ∙ put_none n at i)

remove_by : (b : Bool) (n at i : ℕ) → at < 64 → n < 2 ^ 64 → (i == at) ≡ b → (nat_lt i 64) ≡ true → (bit_at (bit_and n (bit_not w64 (1 * 2 ^ at % 2 ^ 64))) i == 1) ≡ (if b then false else (bit_at n i == 1))
remove_by true n at i h below is within =
    let same : i ≡ at = grind (arith, nat_tests) in
    rw (same, bit_at_clear_same w64 n at h) refl
remove_by false n at i h below is within =
    let other : i ≢ at = grind (arith, nat_tests) in
    let in_word : i < 64 = grind (arith, nat_tests) in
    rw (bit_at_clear_other w64 n at h i in_word other) refl

-- behind the word there is no bit
remove_far : (b : Bool) (n at i : ℕ) → at < 64 → n < 2 ^ 64 → (i == at) ≡ b → 64 ≤ i → (bit_at (bit_and n (bit_not w64 (1 * 2 ^ at % 2 ^ 64))) i == 1) ≡ (if b then false else (bit_at n i == 1))
remove_far true n at i h below is far = let same : i ≡ at = grind (arith, nat_tests) in absurd (omega arith)
remove_far false n at i h below is far =
    rw (bit_at_and n (bit_not w64 (1 * 2 ^ at % 2 ^ 64)) i, bit_at_above n 64 i below far, min_zero (bit_at (bit_not w64 (1 * 2 ^ at % 2 ^ 64)) i)) refl

remove_at : (b : Bool) (n at i : ℕ) → at < 64 → n < 2 ^ 64 → nat_lt i 64 ≡ b → (bit_at (bit_and n (bit_not w64 (1 * 2 ^ at % 2 ^ 64))) i == 1) ≡ (if i == at then false else (bit_at n i == 1))
remove_at true n at i h below within = remove_by (i == at) n at i h below refl within
remove_at false n at i h below far = let high : 64 ≤ i = grind (arith, nat_tests) in remove_far (i == at) n at i h below refl high

pub remove_has : (n at : ℕ) → at < 64 → n < 2 ^ 64 → (i : ℕ) → (bit_at (bit_and n (bit_not w64 (1 * 2 ^ at % 2 ^ 64))) i == 1) ≡ (if i == at then false else (bit_at n i == 1))
remove_has n at h below i = remove_at (nat_lt i 64) n at i h below refl

keep_by : (b : Bool) (n most i : ℕ) → nat_lt i most ≡ b → (bit_at (bit_and n (2 ^ most - 1)) i == 1) ≡ (if b then (bit_at n i == 1) else false)
keep_by true n most i is =
    let within : i < most = grind (arith, nat_tests) in
    let bit = bit_at-lt n i in
    let same : min (bit_at n i) 1 ≡ bit_at n i = omega arith in
    rw (bit_at_and n (2 ^ most - 1) i, bit_at_ones most i within, same) refl
keep_by false n most i is =
    let far : most ≤ i = grind (arith, nat_tests) in
    let same : min (bit_at n i) 0 ≡ 0 = omega arith in
    rw (bit_at_and n (2 ^ most - 1) i, bit_at_ones_above most i far, same) refl

pub keep_has : (n most : ℕ) → most < 64 → (i : ℕ) → (bit_at (bit_and n (1 * 2 ^ most % 2 ^ 64 - 1)) i == 1) ≡ (if nat_lt i most then (bit_at n i == 1) else false)
keep_has n most h i = rw (one_shl most 64 h) (keep_by (nat_lt i most) n most i refl)

-- ---- the lowest from a place on

shifted : (n from i : ℕ) → bit_at (n / 2 ^ from) i ≡ bit_at n (from + i)
shifted n from i = rw (shr-shr n from i) refl

pub lowered_has : (n by i : ℕ) → (bit_at (n / 2 ^ by) i == 1) ≡ (bit_at n (by + i) == 1)
lowered_has n by i = ap (λ (b : ℕ). b == 1) (shifted n by i)

unset : (n : ℕ) → n ≡ 0 → (n == 1) ≡ false
unset n is = rw is refl

pub next_none : (n from i : ℕ) → n / 2 ^ from ≡ 0 → from ≤ i → (bit_at n i == 1) ≡ false
next_none n from i is h =
    let at : from + (i - from) ≡ i = omega arith in
    let bit : bit_at n (from + (i - from)) ≡ 0 = sym (shifted n from (i - from)) ∙ ap (λ (m : ℕ). bit_at m (i - from)) is ∙ bit_at-zero (i - from) in
    unset (bit_at n i) (ap (bit_at n) (sym at) ∙ bit)

first_bit : (n from i : ℕ) → ((k : ℕ) → k < trailing_zeros w64 (n / 2 ^ from) → bit_at (n / 2 ^ from) k ≡ 0) → from ≤ i → i < from + trailing_zeros w64 (n / 2 ^ from) → (bit_at n i == 1) ≡ false
first_bit n from i lower h k =
    let at : from + (i - from) ≡ i = omega arith in
    let bit : bit_at n (from + (i - from)) ≡ 0 = sym (shifted n from (i - from)) ∙ lower (i - from) (omega arith) in
    unset (bit_at n i) (ap (bit_at n) (sym at) ∙ bit)

pub next_some : (s : MarkSet) (from : ℕ) → 0 < s.bits / 2 ^ from → s.bits / 2 ^ from < 2 ^ 64 → IsNext s from (from + trailing_zeros w64 (s.bits / 2 ^ from))
next_some s from some below =
    let lowest = bit_at-trailing_zeros w64 (s.bits / 2 ^ from) some below in
    record {
      behind = omega arith;
      there = ap (λ (n : ℕ). n == 1) (sym (shifted s.bits from (trailing_zeros w64 (s.bits / 2 ^ from))) ∙ lowest.1);
      first = λ i h k. first_bit s.bits from i lowest.2 h k;
    }

below_by : (c : Bool) (n i : ℕ) → n < 2 ^ 64 → nat_lt i 64 ≡ c → (bit_at n i == 1) ≡ true → i < 64
below_by true n i h is there = grind (arith, nat_tests)
below_by false n i h is there =
    let far : 64 ≤ i = grind (arith, nat_tests) in
    let none : (bit_at n i == 1) ≡ false = unset (bit_at n i) (bit_at_above n 64 i h far) in
    absurd (cc)

pub set_below : (n i : ℕ) → n < 2 ^ 64 → (bit_at n i == 1) ≡ true → i < 64
set_below n i h there = below_by (nat_lt i 64) n i h refl there

-- ---- the highest below an end

top_bit : (n k : ℕ) → 2 ^ k ≤ n → n < 2 * 2 ^ k → bit_at n k ≡ 1
top_bit n k low high =
    let some : 0 < 2 ^ k = pow_pos k in
    let one : 1 * 2 ^ k ≤ n = omega arith in
    let at_least : 1 ≤ n / 2 ^ k = le-div 1 n (2 ^ k) some one in
    let below : n / 2 ^ k < 2 = div_below n (2 ^ k) 2 some high in
    let exact : n / 2 ^ k ≡ 1 = omega arith in
    rw exact refl

pub last_none : (n end i : ℕ) → end < 64 → bit_and n (1 * 2 ^ end % 2 ^ 64 - 1) ≡ 0 → i < end → (bit_at n i == 1) ≡ false
last_none n end i h is lt =
    let yes : nat_lt i end ≡ true = grind (arith, nat_tests) in
    let here : (bit_at (bit_and n (1 * 2 ^ end % 2 ^ 64 - 1)) i == 1) ≡ (bit_at n i == 1) = keep_has n end h i ∙ rw yes refl in
    sym here ∙ unset (bit_at (bit_and n (1 * 2 ^ end % 2 ^ 64 - 1)) i) (ap (λ (m : ℕ). bit_at m i) is ∙ bit_at-zero i)

last_within : (b : Bool) (n end k : ℕ) → nat_lt k end ≡ b → (if b then (bit_at n k == 1) else false) ≡ true → (k < end) × ((bit_at n k == 1) ≡ true)
last_within true n end k is there = (grind (arith, nat_tests), there)
last_within false n end k is there = absurd (cc)

pub last_some : (s : MarkSet) (end k : ℕ) → end < 64 → 2 ^ k ≤ bit_and s.bits (1 * 2 ^ end % 2 ^ 64 - 1) → bit_and s.bits (1 * 2 ^ end % 2 ^ 64 - 1) < 2 * 2 ^ k → IsLast s end k
last_some s end k h low high =
    let m = bit_and s.bits (1 * 2 ^ end % 2 ^ 64 - 1) in
    let top : (bit_at m k == 1) ≡ true = rw (top_bit m k low high) refl in
    let both = last_within (nat_lt k end) s.bits end k refl (sym (keep_has s.bits end h k) ∙ top) in
    record {
      before = both.0;
      there = both.1;
      last = λ i lt below.
          let yes : nat_lt i end ≡ true = grind (arith, nat_tests) in
          let here : (bit_at m i == 1) ≡ (bit_at s.bits i == 1) = keep_has s.bits end h i ∙ rw yes refl in
          let under : m < 2 ^ (suc k) = rw (pow-suc 2 k) (omega arith) in
          sym here ∙ unset (bit_at m i) (bit_at_above m (suc k) i under (omega arith));
    }

pub highest_none : (n i : ℕ) → n ≡ 0 → (bit_at n i == 1) ≡ false
highest_none n i is = unset (bit_at n i) (ap (λ (m : ℕ). bit_at m i) is ∙ bit_at-zero i)

pub highest_some : (s : MarkSet) (k : ℕ) → s.bits < 2 ^ 64 → 2 ^ k ≤ s.bits → s.bits < 2 * 2 ^ k → IsLast s 64 k
highest_some s k fits low high =
    let top : (bit_at s.bits k == 1) ≡ true = rw (top_bit s.bits k low high) refl in
    record {
      before = set_below s.bits k fits top;
      there = top;
      last = λ i lt below.
          let under : s.bits < 2 ^ (suc k) = rw (pow-suc 2 k) (omega arith) in
          unset (bit_at s.bits i) (bit_at_above s.bits (suc k) i under (omega arith));
    }

-- ---- the bits up to the lowest

pub and_off : (b : Bool) → (b && false) ≡ false
and_off true = refl
and_off false = refl

pub and_on : (b : Bool) → (b && true) ≡ b
and_on true = refl
and_on false = refl

low_bit : (n k i : ℕ) → i < k → bit_at (n % 2 ^ k) i ≡ bit_at n i
low_bit n k i h = sym (bit_at_cat_low (n / 2 ^ k) k (n % 2 ^ k) i h) ∙ ap (λ (m : ℕ). bit_at m i) (shr_split n k)

-- a number with no bit below a place
lowest_at : (n k : ℕ) → ((i : ℕ) → i < k → bit_at n i ≡ 0) → n ≡ n / 2 ^ k * 2 ^ k
lowest_at n k none =
    let low : n % 2 ^ k ≡ 0 = same_from_bits_below k (n % 2 ^ k) 0 (mod_below n (2 ^ k) (pow_pos k)) (pow_pos k) (λ i h. low_bit n k i h ∙ none i h ∙ sym (bit_at-zero i)) in
    let split : n / 2 ^ k * 2 ^ k + n % 2 ^ k ≡ n = shr_split n k in
    omega arith

-- and the number below it
less_one : (n k m : ℕ) → n ≡ suc m * 2 ^ k → n - 1 ≡ m * 2 ^ k + (2 ^ k - 1)
less_one n k m is =
    let some : 0 < 2 ^ k = pow_pos k in
    let more : suc m * 2 ^ k ≡ m * 2 ^ k + 2 ^ k = suc-mul m (2 ^ k) in
    omega arith

odd_bit : (m j : ℕ) → m % 2 ≡ 0 → bit_at (suc m) (suc j) ≡ bit_at m (suc j)
odd_bit m j even =
    let half : suc m / 2 ≡ m / 2 = omega arith in
    bit_at-suc (suc m) j ∙ ap (λ (h : ℕ). bit_at h j) half ∙ sym (bit_at-suc m j)

bits_xor : (m n i a b : ℕ) → bit_at m i ≡ a → bit_at n i ≡ b → bit_at (bit_xor m n) i ≡ (a + b) % 2
bits_xor m n i a b here there = bit_at_xor m n i ∙ rw (here, there) refl

twice_over : (a : ℕ) → (a + a) % 2 ≡ 0
twice_over a = omega arith

up_low : (n k m i : ℕ) → n ≡ suc m * 2 ^ k → i < k → bit_at (bit_xor n (n - 1)) i ≡ 1
up_low n k m i is h =
    bits_xor n (n - 1) i 0 1
    (ap (λ (x : ℕ). bit_at x i) (is ∙ sym (add-zero (suc m * 2 ^ k))) ∙ bit_at_cat_low (suc m) k 0 i h ∙ bit_at-zero i)
    (ap (λ (x : ℕ). bit_at x i) (less_one n k m is) ∙ bit_at_cat_low m k (2 ^ k - 1) i h ∙ bit_at_ones k i h)

high_bit : (n k m i : ℕ) → n ≡ suc m * 2 ^ k → k ≤ i → bit_at n i ≡ bit_at (suc m) (i - k)
high_bit n k m i is h = ap (λ (x : ℕ). bit_at x i) (is ∙ sym (add-zero (suc m * 2 ^ k))) ∙ bit_at_cat_high (suc m) k 0 i (pow_pos k) h

high_less : (n k m i : ℕ) → n ≡ suc m * 2 ^ k → k ≤ i → bit_at (n - 1) i ≡ bit_at m (i - k)
high_less n k m i is h =
    let some : 0 < 2 ^ k = pow_pos k in
    ap (λ (x : ℕ). bit_at x i) (less_one n k m is) ∙ bit_at_cat_high m k (2 ^ k - 1) i (omega arith) h

up_high_by : (n k m i j : ℕ) → n ≡ suc m * 2 ^ k → m % 2 ≡ 0 → k ≤ i → i - k ≡ j → (bit_at (bit_xor n (n - 1)) i == 1) ≡ nat_lt i (k + 1)
up_high_by n k m i zero is even h at =
    let same : nat_lt i (k + 1) ≡ true = grind (arith, nat_tests) in
    let one : suc m % 2 ≡ 1 = omega arith in
    let bit : bit_at (bit_xor n (n - 1)) i ≡ 1 =
    bits_xor n (n - 1) i 1 0
    (high_bit n k m i is h ∙ ap (bit_at (suc m)) at ∙ bit_at_lowest (suc m) ∙ one)
    (high_less n k m i is h ∙ ap (bit_at m) at ∙ bit_at_lowest m ∙ even) in
    ap (λ (x : ℕ). x == 1) bit ∙ sym same
up_high_by n k m i (suc j) is even h at =
    let far : nat_lt i (k + 1) ≡ false = grind (arith, nat_tests) in
    let bit : bit_at (bit_xor n (n - 1)) i ≡ 0 =
    bits_xor n (n - 1) i (bit_at m (suc j)) (bit_at m (suc j))
    (high_bit n k m i is h ∙ ap (bit_at (suc m)) at ∙ odd_bit m j even)
    (high_less n k m i is h ∙ ap (bit_at m) at)
    ∙ twice_over (bit_at m (suc j)) in
    ap (λ (x : ℕ). x == 1) bit ∙ sym far

up_by : (c : Bool) (n k m i : ℕ) → n ≡ suc m * 2 ^ k → m % 2 ≡ 0 → nat_lt i k ≡ c → (bit_at (bit_xor n (n - 1)) i == 1) ≡ nat_lt i (k + 1)
up_by true n k m i is even below =
    let h : i < k = grind (arith, nat_tests) in
    let same : nat_lt i (k + 1) ≡ true = grind (arith, nat_tests) in
    ap (λ (x : ℕ). x == 1) (up_low n k m i is h) ∙ sym same
up_by false n k m i is even far = let h : k ≤ i = grind (arith, nat_tests) in up_high_by n k m i (i - k) is even h refl

-- the mask of a number is the bits up to its lowest
up_mask : (n k i : ℕ) → bit_at n k ≡ 1 → ((j : ℕ) → j < k → bit_at n j ≡ 0) → (bit_at (bit_xor n (n - 1)) i == 1) ≡ nat_lt i (k + 1)
up_mask n k i there none =
    let odd : n / 2 ^ k % 2 ≡ 1 = there in
    let m = n / 2 ^ k - 1 in
    let more : suc m ≡ n / 2 ^ k = omega arith in
    let even : m % 2 ≡ 0 = omega arith in
    up_by (nat_lt i k) n k m i (lowest_at n k none ∙ ap (λ (q : ℕ). q * 2 ^ k) (sym more)) even refl

bit_on : (b : ℕ) → (b == 1) ≡ true → b ≡ 1
bit_on b h = grind (arith, nat_tests)

bit_off : (b : ℕ) → b < 2 → (b == 1) ≡ false → b ≡ 0
bit_off b h k = let other : b ≢ 1 = grind (arith, nat_tests) in omega (arith, other)

and_if : (a b : Bool) → (a && b) ≡ (if b then a else false)
and_if true true = refl
and_if true false = refl
and_if false true = refl
and_if false false = refl

set_some : (n k : ℕ) → bit_at n k ≡ 1 → 0 < n
set_some zero k is = let none = bit_at-zero k in absurd (omega arith)
set_some (suc n) k is = omega arith

none_by : (d : Bool) (o : MarkSet) (from i : ℕ) → nat_le from i ≡ d → ((k : ℕ) → from ≤ k → has o k ≡ false) → (has o i && d) ≡ false
none_by true o from i is none = let behind : from ≤ i = grind (arith, nat_tests) in rw (none i behind) refl
none_by false o from i is none = and_off (has o i)

-- the same, where 0 wraps
wrapped : (n : ℕ) → 0 < n → n < 2 ^ 64 → (n + (2 ^ 64 - 1)) % 2 ^ 64 ≡ n - 1
wrapped n some fits = omega arith

-- what is behind a place has the lowest bit from there on, and none below
behind_off : (d : Bool) (o : MarkSet) (from n i : ℕ) → nat_le from i ≡ d → IsNext o from n → i < n → (has o i && d) ≡ false
behind_off true o from n i is next h = let behind : from ≤ i = grind (arith, nat_tests) in rw (next.first i behind h) refl
behind_off false o from n i is next h = and_off (has o i)

pub up_some : (s o : MarkSet) (b from n i : ℕ) → b < 2 ^ 64 → ((k : ℕ) → (bit_at b k == 1) ≡ (has o k && nat_le from k)) → IsNext o from n
    → (bit_at (bit_and s.bits (bit_xor b ((b + (2 ^ 64 - 1)) % 2 ^ 64))) i == 1) ≡ (if nat_lt i (n + 1) then has s i else false)
up_some s o b from n i fits behind next =
    let is : nat_le from n ≡ true = let h = next.behind in grind (arith, nat_tests) in
    let there : bit_at b n ≡ 1 = bit_on (bit_at b n) (behind n ∙ rw (next.there, is) refl) in
    let none : (k : ℕ) → k < n → bit_at b k ≡ 0 = λ k h. bit_off (bit_at b k) (bit_at-lt b k) (behind k ∙ behind_off (nat_le from k) o from n k refl next h) in
    let some : 0 < b = set_some b n there in
    and_has s.bits (bit_xor b ((b + (2 ^ 64 - 1)) % 2 ^ 64)) i
    ∙ ap (λ (m : ℕ). has s i && (bit_at (bit_xor b m) i == 1)) (wrapped b some fits)
    ∙ ap (λ (c : Bool). has s i && c) (up_mask b n i there none)
    ∙ and_if (has s i) (nat_lt i (n + 1))

all_by : (c : Bool) (s : MarkSet) (i : ℕ) → s.bits < 2 ^ 64 → nat_lt i 64 ≡ c → (has s i && (bit_at (bit_xor 0 (2 ^ 64 - 1)) i == 1)) ≡ has s i
all_by true s i fits is =
    let within : i < 64 = grind (arith, nat_tests) in
    rw (bits_xor 0 (2 ^ 64 - 1) i 0 1 (bit_at-zero i) (bit_at_ones 64 i within)) (and_on (has s i))
all_by false s i fits is =
    let far : 64 ≤ i = grind (arith, nat_tests) in
    rw (bit_at_above s.bits 64 i fits far) refl

pub up_none : (s o : MarkSet) (b from i : ℕ) → s.bits < 2 ^ 64 → ((k : ℕ) → (bit_at b k == 1) ≡ (has o k && nat_le from k)) → ((k : ℕ) → from ≤ k → has o k ≡ false)
    → (bit_at (bit_and s.bits (bit_xor b ((b + (2 ^ 64 - 1)) % 2 ^ 64))) i == 1) ≡ has s i
up_none s o b from i fits behind none =
    let zero' : b ≡ 0 = same_from_bits b 0 (λ k. bit_off (bit_at b k) (bit_at-lt b k) (behind k ∙ none_by (nat_le from k) o from k refl none) ∙ sym (bit_at-zero k)) in
    and_has s.bits (bit_xor b ((b + (2 ^ 64 - 1)) % 2 ^ 64)) i
    ∙ ap (λ (m : ℕ). has s i && (bit_at (bit_xor m ((m + (2 ^ 64 - 1)) % 2 ^ 64)) i == 1)) zero'
    ∙ all_by (nat_lt i 64) s i fits refl

-- ---- the entries

pub holds_end : (p : WindowEntry → Bool) (w : List WindowEntry) (i : ℕ) → length w ≤ i → holds_at p w i ≡ false
holds_end p [] i h = refl
holds_end p (e ∷ w) zero h = absurd (omega arith)
holds_end p (e ∷ w) (suc i) h = holds_end p w i (omega arith)

holds_new : (p : WindowEntry → Bool) (w : List WindowEntry) (e : WindowEntry) (i : ℕ) → i ≡ length w → holds_at p (w ++ e ∷ []) i ≡ p e
holds_new p [] e zero is = refl
holds_new p [] e (suc i) is = absurd (omega arith)
holds_new p (x ∷ w) e zero is = absurd (omega arith)
holds_new p (x ∷ w) e (suc i) is = holds_new p w e i (omega arith)

holds_other : (p : WindowEntry → Bool) (w : List WindowEntry) (e : WindowEntry) (i : ℕ) → (i ≡ length w → ⊥) → holds_at p (w ++ e ∷ []) i ≡ holds_at p w i
holds_other p [] e zero other = absurd (other refl)
holds_other p [] e (suc i) other = refl
holds_other p (x ∷ w) e zero other = refl
holds_other p (x ∷ w) e (suc i) other = holds_other p w e i (λ is. other (omega arith))

pub holds_take : (p : WindowEntry → Bool) (w : List WindowEntry) (n i : ℕ) → i < n → holds_at p (take n w) i ≡ holds_at p w i
holds_take p [] zero i h = refl
holds_take p [] (suc n) i h = refl
holds_take p (e ∷ w) zero i h = absurd (omega arith)
holds_take p (e ∷ w) (suc n) zero h = refl
holds_take p (e ∷ w) (suc n) (suc i) h = holds_take p w n i (omega arith)

pub holds_set : (p : WindowEntry → Bool) (w : List WindowEntry) (at i : ℕ) (x y : WindowEntry) → slice_get w at ≡ Some x → holds_at p (slice_set w at y) i ≡ (if i == at then p y else holds_at p w i)
holds_set p [] at i x y is = absurd (cc)
holds_set p (e ∷ w) zero zero x y is = refl
holds_set p (e ∷ w) zero (suc i) x y is = let other : (suc i == 0) ≡ false = grind (arith, nat_tests) in rw other refl
holds_set p (e ∷ w) (suc at) zero x y is = let other : (0 == suc at) ≡ false = grind (arith, nat_tests) in rw other refl
holds_set p (e ∷ w) (suc at) (suc i) x y is = let same : (suc i == suc at) ≡ (i == at) = grind (arith, nat_tests) in rw same (holds_set p w at i x y is)

holds_same : (p : WindowEntry → Bool) (w : List WindowEntry) (at i : ℕ) (x y : WindowEntry) → slice_get w at ≡ Some x → p y ≡ p x → holds_at p (slice_set w at y) i ≡ holds_at p w i
holds_same p [] at i x y is same = absurd (cc)
holds_same p (e ∷ w) zero zero x y is same = let here : e ≡ x = cc in same ∙ ap p (sym here)
holds_same p (e ∷ w) zero (suc i) x y is same = refl
holds_same p (e ∷ w) (suc at) zero x y is same = refl
holds_same p (e ∷ w) (suc at) (suc i) x y is same = holds_same p w at i x y is same

pub holds_here : (p : WindowEntry → Bool) (w : List WindowEntry) (at : ℕ) (x : WindowEntry) → slice_get w at ≡ Some x → holds_at p w at ≡ p x
holds_here p [] at x is = absurd (cc)
holds_here p (e ∷ w) zero x is = let here : e ≡ x = cc in ap p here
holds_here p (e ∷ w) (suc at) x is = holds_here p w at x is

pub holds_within : (p : WindowEntry → Bool) (w : List WindowEntry) (n : ℕ) → holds_at p w n ≡ true → n < length w
holds_within p [] n there = absurd (cc)
holds_within p (e ∷ w) zero there = omega arith
holds_within p (e ∷ w) (suc n) there = let more = holds_within p w n there in omega arith

-- ---- the set of a window that changes

pub those_none : (p : WindowEntry → Bool) (base : ℕ) → AreThose p [] base (record { bits = 0 })
those_none p base = λ i. rw (bit_at-zero (base + i)) refl

pub those_pop : (p : WindowEntry → Bool) (w : List WindowEntry) (e : WindowEntry) (base : ℕ) (s : MarkSet) → AreThose p (e ∷ w) base s → AreThose p w (base + 1) s
those_pop p w e base s those = λ i. let at : base + 1 + i ≡ base + suc i = omega arith in ap (has s) at ∙ those (suc i)

push_by : (c : Bool) (p : WindowEntry → Bool) (w : List WindowEntry) (e : WindowEntry) (base : ℕ) (s : MarkSet) (b : Bool) (i : ℕ) → AreThose p w base s → b ≡ p e → (base + i == base + length w) ≡ c
    → (if c then b || has s (base + length w) else has s (base + i)) ≡ holds_at p (w ++ e ∷ []) i
push_by true p w e base s b i those is here =
    let at : i ≡ length w = grind (arith, nat_tests) in
    ap (λ (k : Bool). b || k) (those (length w) ∙ holds_end p w (length w) (omega arith)) ∙ or_zero b ∙ is ∙ sym (holds_new p w e i at)
push_by false p w e base s b i those is here =
    let other : i ≡ length w → ⊥ = λ at. absurd (grind (arith, nat_tests)) in
    those i ∙ sym (holds_other p w e i other)

pub those_push : (p : WindowEntry → Bool) (w : List WindowEntry) (e : WindowEntry) (base : ℕ) (s t : MarkSet) (b : Bool) → AreThose p w base s → b ≡ p e
    → ((i : ℕ) → has t i ≡ (if i == base + length w then b || has s (base + length w) else has s i)) → AreThose p (w ++ e ∷ []) base t
those_push p w e base s t b those is puts = λ i. puts (base + i) ∙ push_by (base + i == base + length w) p w e base s b i those is refl

kept_by : (c : Bool) (p : WindowEntry → Bool) (w : List WindowEntry) (base most : ℕ) (s : MarkSet) (i : ℕ) → AreThose p w base s → nat_lt (base + i) (base + most) ≡ c
    → (if c then has s (base + i) else false) ≡ holds_at p (take most w) i
kept_by true p w base most s i those is =
    let within : i < most = grind (arith, nat_tests) in
    those i ∙ sym (holds_take p w most i within)
kept_by false p w base most s i those is =
    let far : most ≤ i = grind (arith, nat_tests) in
    let long : length (take most w) ≤ i = grind (arith, common_steps) in
    sym (holds_end p (take most w) i long)

-- of the oldest
pub those_kept : (p : WindowEntry → Bool) (w : List WindowEntry) (base most : ℕ) (s t : MarkSet) → AreThose p w base s
    → ((i : ℕ) → has t i ≡ (if nat_lt i (base + most) then has s i else false)) → AreThose p (take most w) base t
those_kept p w base most s t those keeps = λ i. keeps (base + i) ∙ kept_by (nat_lt (base + i) (base + most)) p w base most s i those refl

-- where the marks are lower by 32
pub those_lowered : (p : WindowEntry → Bool) (w : List WindowEntry) (base : ℕ) (s t : MarkSet) → base ≡ 32 → AreThose p w base s → ((i : ℕ) → has t i ≡ has s (32 + i)) → AreThose p w 0 t
those_lowered p w base s t is those lowers = λ i.
    let at : 32 + (0 + i) ≡ base + i = omega arith in
    lowers (0 + i) ∙ ap (has s) at ∙ those i

same_mark : (base i at : ℕ) → (base + i == base + at) ≡ (i == at)
same_mark base i at = grind (arith, nat_tests)

pub those_set : (p : WindowEntry → Bool) (w : List WindowEntry) (at : ℕ) (x y : WindowEntry) (base : ℕ) (b : Bool) (s t : MarkSet) → AreThose p w base s → slice_get w at ≡ Some x → p y ≡ b
    → ((i : ℕ) → has t i ≡ (if i == base + at then b else has s i)) → AreThose p (slice_set w at y) base t
those_set p w at x y base b s t those is now sets =
    λ i.
    sets (base + i)
    ∙ ap (λ (c : Bool). if c then b else has s (base + i)) (same_mark base i at)
    ∙ ap (λ (c : Bool). if i == at then b else c) (those i)
    ∙ ap (λ (c : Bool). if i == at then c else holds_at p w i) (sym now)
    ∙ sym (holds_set p w at i x y is)

pub those_same : (p : WindowEntry → Bool) (w : List WindowEntry) (at : ℕ) (x y : WindowEntry) (base : ℕ) (s : MarkSet) → AreThose p w base s → slice_get w at ≡ Some x → p y ≡ p x → AreThose p (slice_set w at y) base s
those_same p w at x y base s those is same = λ i. those i ∙ sym (holds_same p w at i x y is same)

-- ---- those from a place on

pub holds_drop : (p : WindowEntry → Bool) (w : List WindowEntry) (at i : ℕ) → holds_at p (drop at w) i ≡ holds_at p w (at + i)
holds_drop p w zero i = let e : 0 + i ≡ i = omega arith in rw e refl
holds_drop p [] (suc at) i = refl
holds_drop p (e ∷ w) (suc at) i = let e' : suc at + i ≡ suc (at + i) = omega arith in rw e' (holds_drop p w at i)

-- ---- a set whose lowest mark is taken out

behind_by : (c : Bool) (s t : MarkSet) (at i : ℕ) → (i == at) ≡ c → has t i ≡ (if c then false else has s i) → (i ≡ at → ⊥) → has t i ≡ has s i
behind_by true s t at i is gone other = absurd (other (grind (arith, nat_tests)))
behind_by false s t at i is gone other = gone

-- those behind it stay
pub without_first : (s t : MarkSet) (at i : ℕ) → ((k : ℕ) → has t k ≡ (if k == at then false else has s k)) → at + 1 ≤ i → has t i ≡ has s i
without_first s t at i gone h = behind_by (i == at) s t at i refl (gone i) (λ same. omega arith)

was_by : (c : Bool) (s t : MarkSet) (at i : ℕ) → (i == at) ≡ c → has t i ≡ (if c then false else has s i) → has t i ≡ true → (has s i ≡ true) × ((i == at) ≡ false)
was_by true s t at i is gone there = absurd (true≢false (sym there ∙ gone))
was_by false s t at i is gone there = (sym gone ∙ there, is)

was_there : (s t : MarkSet) (at i : ℕ) → ((k : ℕ) → has t k ≡ (if k == at then false else has s k)) → has t i ≡ true → (has s i ≡ true) × ((i == at) ≡ false)
was_there s t at i gone there = was_by (i == at) s t at i refl (gone i) there

past_by : (c : Bool) (s t : MarkSet) (at i : ℕ) → nat_lt i (at + 1) ≡ c → ((k : ℕ) → has t k ≡ (if k == at then false else has s k)) → ((k : ℕ) → k < at → has s k ≡ false) → has t i ≡ true → at + 1 ≤ i
past_by true s t at i is gone none there =
    let near : i < at + 1 = grind (arith, nat_tests) in
    let both = was_there s t at i gone there in
    let other : i ≡ at → ⊥ = λ same. absurd (grind (arith, nat_tests)) in
    absurd (true≢false (sym both.0 ∙ none i (omega (arith, other))))
past_by false s t at i is gone none there = grind (arith, nat_tests)

-- the rest lies behind it
pub rest_past : (s t : MarkSet) (at i : ℕ) → ((k : ℕ) → has t k ≡ (if k == at then false else has s k)) → ((k : ℕ) → k < at → has s k ≡ false) → has t i ≡ true → at + 1 ≤ i
rest_past s t at i gone none there = past_by (nat_lt i (at + 1)) s t at i refl gone none there

-- a mark of the rest is one of the set
pub rest_among : (s t : MarkSet) (at i : ℕ) → ((k : ℕ) → has t k ≡ (if k == at then false else has s k)) → has t i ≡ true → has s i ≡ true
rest_among s t at i gone there = (was_there s t at i gone there).0

first_by : (c : Bool) (s t : MarkSet) (at next : ℕ) → nat_lt next 64 ≡ c → ((k : ℕ) → has t k ≡ (if k == at then false else has s k)) → ((k : ℕ) → k < at → has s k ≡ false)
    → (next < 64 → has t next ≡ true) → at < 64 → at + 1 ≤ next
first_by true s t at next is gone none there few = rest_past s t at next gone none (there (grind (arith, nat_tests)))
first_by false s t at next is gone none there few = let far : 64 ≤ next = grind (arith, nat_tests) in omega arith

-- so does the lowest of the rest, or 64 where there is none
pub past_first : (s t : MarkSet) (at next : ℕ) → ((k : ℕ) → has t k ≡ (if k == at then false else has s k)) → ((k : ℕ) → k < at → has s k ≡ false)
    → (next < 64 → has t next ≡ true) → at < 64 → at + 1 ≤ next
past_first s t at next gone none there few = first_by (nat_lt next 64) s t at next refl gone none there few

-- Numbers that are read digit by digit.
use Rattle.std.proofs.Common.{◌≡◌, ◌≤◌, ◌<◌, ℕ, ◌+◌, ◌*◌, ◌^◌, List, length, drop, get_or, nat_lt, true, refl, add-one, drop-cons, arith, lit<}
use Rattle.std.proofs.Math.Nat.{mul-le-mul_left, pow-suc, pow-le-pow_right}
use Rattle.std.proofs.lemmas.Bool.{lt-ltb}
use Rattle.std.specs.Char.{digit_value, is_digit}
use Rattle.std.specs.List.{list_all}
use Rattle.std.specs.Str.Parse.{digits_value_after}

-- with one more digit a number stays small
pub digit_room : (number digit radix i : ℕ) → radix ≤ 16 → digit < radix → number < 16 ^ i → number * radix + digit < 16 ^ (i + 1)
digit_room number digit radix i high below small =
    let fewer : number * radix ≤ number * 16 = mul-le-mul_left number high in
    let more : 16 ^ (i + 1) ≡ 16 ^ i * 16 = simp add-one (pow-suc 16 i) in
    omega (arith, fewer, more)

-- and with as many digits as there may be
pub digits_room : (number i most : ℕ) → number < 16 ^ i → i ≤ most → number < 16 ^ most
digits_room number i most small le =
    let wider : 16 ^ i ≤ 16 ^ most = pow-le-pow_right (lit< tt) le in
    omega (arith, wider)

-- what is left of the word, after a digit
pub digits_after : (radix i : ℕ) (word : List ℕ) → i < length word → digit_value (get_or word i 0) < radix
    → list_all (λ byte. is_digit byte radix) (drop i word) ≡ list_all (λ byte. is_digit byte radix) (drop (i + 1) word)
digits_after radix i word inside below =
    let test : nat_lt (digit_value (get_or word i 0)) radix ≡ true = lt-ltb _ _ below in
    rw (add-one, drop-cons word i 0, test) refl

pub value_after : (radix number i : ℕ) (word : List ℕ) → i < length word
    → digits_value_after radix number (drop i word) ≡ digits_value_after radix (number * radix + digit_value (get_or word i 0)) (drop (i + 1) word)
value_after radix number i word inside = rw (add-one, drop-cons word i 0) refl

-- The flips of some cycles, one after another, are those of their places.
use Rattle.std.proofs.Common.{◌≡◌, ℕ, zero, suc, ◌+◌, ◌*◌, ◌/◌, ◌%◌, ◌<◌, List, ◌∷◌, ◌++◌, map, refl, ap, ap₂, ◌∙◌, arith}
use Rattle.std.specs.List.{flat_map, range_with_len}
use Rattle.std.proofs.lemmas.List.{map-append}
use Rattle.diva_faults.specs.declared.rows.Row.{Row}
use Rattle.diva_faults.specs.Flips.{flip_at, flip_of_cycle, flips_in, flips_to}

-- two functions that agree on numbers in a row
same_in_row : (f g : ℕ → Row) (a b n : ℕ) → ((k : ℕ) → k < n → f (a + k) ≡ g (b + k)) → map f (range_with_len a n) ≡ map g (range_with_len b n)
same_in_row f g a b zero same = refl
same_in_row f g a b (suc n) same =
    let here : f a ≡ g b = ap f (omega arith) ∙ same 0 (omega arith) ∙ ap g (omega arith) in
    ap₂ (λ (x : Row) (xs : List Row). x ∷ xs) here
    (same_in_row f g (a + 1) (b + 1) n (λ k lt.
    let left : a + 1 + k ≡ a + (k + 1) = omega arith in
    let right : b + (k + 1) ≡ b + 1 + k = omega arith in
    ap f left ∙ same (k + 1) (omega arith) ∙ ap g right))

-- a row of numbers, and the numbers behind it
in_two : (a m n : ℕ) → range_with_len a (m + n) ≡ range_with_len a m ++ range_with_len (a + m) n
in_two a zero n =
    let none : zero + n ≡ n = omega arith in
    let here : a ≡ a + zero = omega arith in
    ap (range_with_len a) none ∙ ap (λ b. range_with_len b n) here
in_two a (suc m) n =
    let one : suc m + n ≡ suc (m + n) = omega arith in
    let further : a + 1 + m ≡ a + suc m = omega arith in
    ap (range_with_len a) one
    ∙ ap (λ (xs : List ℕ). a ∷ xs) (in_two (a + 1) m n ∙ ap (λ b. range_with_len (a + 1) m ++ range_with_len b n) further)

-- those of one cycle
by_place : (cycle : ℕ) → map (flip_of_cycle cycle) (range_with_len 0 256) ≡ flips_in cycle
by_place cycle = refl

one_cycle : (n : ℕ) → map flip_at (range_with_len (256 * n) 256) ≡ flips_in (n + 1)
one_cycle n =
    same_in_row flip_at (flip_of_cycle (n + 1)) (256 * n) 0 256
    (λ k lt.
    let cycle : (256 * n + k) / 256 + 1 ≡ n + 1 = omega arith in
    let place : (256 * n + k) % 256 ≡ 0 + k = omega arith in
    ap₂ flip_of_cycle cycle place)
    ∙ by_place (n + 1)

from_cycle : (n many : ℕ) → map flip_at (range_with_len (256 * n) (256 * many)) ≡ flat_map flips_in (range_with_len (n + 1) many)
from_cycle n zero = refl
from_cycle n (suc many) =
    let all : 256 * suc many ≡ 256 + 256 * many = omega arith in
    let behind : 256 * n + 256 ≡ 256 * (n + 1) = omega arith in
    ap (λ k. map flip_at (range_with_len (256 * n) k)) all
    ∙ ap (map flip_at) (in_two (256 * n) 256 (256 * many))
    ∙ map-append flip_at (range_with_len (256 * n) 256) (range_with_len (256 * n + 256) (256 * many))
    ∙ ap₂ (λ (xs ys : List Row). xs ++ ys) (one_cycle n) (ap (λ k. map flip_at (range_with_len k (256 * many))) behind ∙ from_cycle (n + 1) many)

pub flips_by_place : (last : ℕ) → map flip_at (range_with_len 0 (256 * last)) ≡ flips_to last
flips_by_place last = from_cycle 0 last

-- The numbers of a part, one after the other.
use Rattle.std.proofs.Common.{◌≡◌, ◌≢◌, ◌≤◌, ◌<◌, ◌%◌, ◌+◌, ◌-◌, ℕ, zero, suc, List, [], ◌∷◌, ◌++◌, Bool, true, false, refl, ap, sym, subst, ◌∙◌, arith}
use Rattle.std.specs.Prelude.{◌==◌, nat_le, filter}
use Rattle.std.specs.List.{range_with_len}
use Rattle.std.proofs.lemmas.List.Elements.{filter-append}
use Rattle.diva_inject.specs.Parts.{IsIn, IsNext, Part, numbers_of}

run-append : (a n m : ℕ) → range_with_len a n ++ range_with_len (a + n) m ≡ range_with_len a (n + m)
run-append a zero m =
    let p : a + 0 ≡ a = omega arith in
    let q : 0 + m ≡ m = omega arith in
    λ t. range_with_len (p t) (sym q t)
run-append a (suc n) m =
    let same : (a + 1) + n ≡ a + suc n = omega arith in
    let count : suc (n + m) ≡ suc n + m = omega arith in
    ap (λ l. a ∷ l) (subst (λ k. range_with_len (a + 1) n ++ range_with_len k m ≡ range_with_len (a + 1) (n + m)) same (run-append (a + 1) n m))
    ∙ ap (range_with_len a) count

none_in : (part : Part) (from n : ℕ) → ((i : ℕ) → from ≤ i → i < from + n → i % part.of ≢ part.index) → filter (λ i. i % part.of == part.index) (range_with_len from n) ≡ []
none_in part from zero none = refl
none_in part from (suc n) none =
    let here : (from % part.of == part.index) ≡ false = grind (arith, none from (omega arith) (omega arith)) in
    rw here (none_in part (from + 1) n (λ i least most. none i (omega arith) (omega arith)))

-- numbers before the next one of a part are none of it
pub skip : (part : Part) (from next count : ℕ) → IsNext part from next → numbers_of part from count ≡ numbers_of part next count
skip part from next count is = by (nat_le next count) refl
  where
    by : (b : Bool) → nat_le next count ≡ b → numbers_of part from count ≡ numbers_of part next count
    by true within =
        let low : next ≤ count = grind arith in
        let least = is.no_earlier in
        let there : from + (next - from) ≡ next = omega arith in
        let long : (next - from) + (count - next) ≡ count - from = omega arith in
        let parts : range_with_len from (next - from) ++ range_with_len next (count - next) ≡ range_with_len from (count - from) =
        subst (λ k. range_with_len from (next - from) ++ range_with_len k (count - next) ≡ range_with_len from (count - from)) there
        (run-append from (next - from) (count - next) ∙ ap (range_with_len from) long) in
        sym (ap (filter (λ i. i % part.of == part.index)) parts)
        ∙ filter-append (λ i. i % part.of == part.index) (range_with_len from (next - from)) (range_with_len next (count - next))
        ∙ ap (λ (l : List ℕ). l ++ numbers_of part next count) (none_in part from (next - from) (λ i low high. is.none_before i low (omega arith)))
    by false past =
        let high : count < next = grind arith in
        let none : count - next ≡ 0 = omega arith in
        none_in part from (count - from) (λ i low below. is.none_before i low (omega arith))
        ∙ sym (ap (λ n. filter (λ i. i % part.of == part.index) (range_with_len next n)) none)

-- and then it is the first of those that are left
pub take_one : (part : Part) (number count : ℕ) → IsIn part number → number < count → numbers_of part number count ≡ number ∷ numbers_of part (number + 1) count
take_one part number count is below =
    let more : count - number ≡ suc (count - (number + 1)) = omega arith in
    let here : (number % part.of == part.index) ≡ true = grind (arith, is) in
    ap (λ n. filter (λ i. i % part.of == part.index) (range_with_len number n)) more ∙ rw here refl

-- none are left
pub none_left : (part : Part) (number count : ℕ) → count ≤ number → numbers_of part number count ≡ []
none_left part number count past =
    let none : count - number ≡ 0 = omega arith in
    ap (λ n. filter (λ i. i % part.of == part.index) (range_with_len number n)) none

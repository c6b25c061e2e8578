-- Each number is in its part once, and in no other one.
use Rattle.std.proofs.Common.{◌≡◌, ◌%◌, ◌+◌, ◌-◌, ℕ, zero, suc, List, ◌∷◌, Bool, true, false, cond, ◌&&◌, refl, ap, sym, ◌∙◌, arith}
use Rattle.std.specs.Prelude.{◌==◌, nat_le, nat_lt, count_by, filter}
use Rattle.std.specs.List.{range_with_len}
use Rattle.std.proofs.lemmas.List.Sums.{sum_by-cons}
use Rattle.std.proofs.lemmas.Grind.{common_steps}
use Rattle.diva_inject.specs.Parts.{numbers_of, times}

count_by-yes : (p : ℕ → Bool) (x : ℕ) (list : List ℕ) → p x ≡ true → count_by p (x ∷ list) ≡ suc (count_by p list)
count_by-yes p x list holds =
    let all : count_by p (x ∷ list) ≡ cond (p x) 1 0 + count_by p list = sum_by-cons (λ k. cond (p k) 1 0) x list in
    let one : cond {A = ℕ} (p x) 1 0 ≡ 1 = rw holds refl in
    omega (arith, all, one)

count_by-no : (p : ℕ → Bool) (x : ℕ) (list : List ℕ) → p x ≡ false → count_by p (x ∷ list) ≡ count_by p list
count_by-no p x list fails =
    let all : count_by p (x ∷ list) ≡ cond (p x) 1 0 + count_by p list = sum_by-cons (λ k. cond (p k) 1 0) x list in
    let none : cond {A = ℕ} (p x) 1 0 ≡ 0 = rw fails refl in
    omega (arith, all, none)

-- one more number in a row, by whether it is in the part, and whether it is the one that is counted; the others are counted already
one_more : (index of i a n : ℕ) (list : List ℕ) (h : Bool) → (a % of == index) ≡ h → (e : Bool) → (a == i) ≡ e
    → times i list ≡ cond ((i % of == index) && (nat_le (a + 1) i && nat_lt i (a + 1 + n))) 1 0
    → times i (cond h (a ∷ list) list) ≡ cond ((i % of == index) && (nat_le a i && nat_lt i (a + suc n))) 1 0
one_more index of i a n list true is true same others =
    let it : a ≡ i = grind arith in
    let here : (i % of == index) ≡ true = ap (λ k. k % of == index) (sym it) ∙ is in
    let out : (nat_le (a + 1) i && nat_lt i (a + 1 + n)) ≡ false = grind (arith, common_steps) in
    let now : (nat_le a i && nat_lt i (a + suc n)) ≡ true = grind (arith, common_steps) in
    let before : times i list ≡ zero = others ∙ rw (here, out) refl in
    let after : cond {A = ℕ} ((i % of == index) && (nat_le a i && nat_lt i (a + suc n))) 1 0 ≡ 1 = rw (here, now) refl in
    let counted : times i (a ∷ list) ≡ suc (times i list) = count_by-yes (λ k. k == i) a list same in
    omega (arith, before, after, counted)
one_more index of i a n list true is false other others =
    let same_range : (nat_le (a + 1) i && nat_lt i (a + 1 + n)) ≡ (nat_le a i && nat_lt i (a + suc n)) = grind (arith, common_steps) in
    count_by-no (λ k. k == i) a list other ∙ others ∙ ap (λ b. cond ((i % of == index) && b) 1 0) same_range
one_more index of i a n list false is true same others =
    let it : a ≡ i = grind arith in
    let here : (i % of == index) ≡ false = ap (λ k. k % of == index) (sym it) ∙ is in
    others ∙ rw here refl
one_more index of i a n list false is false other others =
    let same_range : (nat_le (a + 1) i && nat_lt i (a + 1 + n)) ≡ (nat_le a i && nat_lt i (a + suc n)) = grind (arith, common_steps) in
    others ∙ ap (λ b. cond ((i % of == index) && b) 1 0) same_range

none_of : (r b : Bool) → b ≡ false → zero ≡ cond (r && b) 1 0
none_of true b none = rw none refl
none_of false b none = refl

-- how often a number is in the numbers of a part that stand in a row
in_row : (index of i a n : ℕ) → times i (filter (λ k. k % of == index) (range_with_len a n)) ≡ cond ((i % of == index) && (nat_le a i && nat_lt i (a + n))) 1 0
in_row index of i a zero = none_of (i % of == index) (nat_le a i && nat_lt i (a + zero)) (grind (arith, common_steps))
in_row index of i a (suc n) =
    one_more index of i a n (filter (λ k. k % of == index) (range_with_len (a + 1) n)) (a % of == index) refl (a == i) refl (in_row index of i (a + 1) n)

pub in_its_part : (index of first count i : ℕ) → times i (numbers_of (record { index = index; of = of }) first count)
    ≡ cond ((i % of == index) && (nat_le first i && nat_lt i count)) 1 0
in_its_part index of first count i =
    let range : (nat_le first i && nat_lt i (first + (count - first))) ≡ (nat_le first i && nat_lt i count) = grind (arith, common_steps) in
    in_row index of i first (count - first) ∙ ap (λ b. cond ((i % of == index) && b) 1 0) range

-- The nearest rank in numbers that rise.
use Rattle.std.proofs.Common.{◌≡◌, ◌<◌, ◌≤◌, ◌+◌, ◌-◌, ◌*◌, ◌/◌, ℕ, zero, suc, min, Bool, true, false, cond, List, [], ◌∷◌, length, get_or, take, drop, refl, ap, sym, arith, ◌∙◌, nat_le, get_or-take, get_or-drop}
use Rattle.std.specs.Prelude.{Some, None}
use Rattle.std.specs.List.{count_by, filter, fold}
use Rattle.std.specs.List.Sorted.{IsNonDecreasing, IsPermutation}
use Rattle.std.proofs.lemmas.Bool.{leb-true, le-leb, lt-leb}
use Rattle.std.proofs.lemmas.Grind.{common_steps}
use Rattle.std.proofs.lemmas.Nat.{mul-le}
use Rattle.std.proofs.lemmas.List.{get_or_default}
use Rattle.std.proofs.lemmas.List.Elements.{Contains-get_or}
use Rattle.std.proofs.lemmas.List.Sorted.{Contains-permutation, IsPermutation-sym, length_permutation, sum_by-IsPermutation}
use Rattle.std.proofs.lemmas.List.Sums.{count_by-le-length, sum_by-cons, sum_by-take-drop}
use Rattle.diva_rate.specs.Latencies.{count_to, least, percentile, reaches}

-- ---- the least of those that pass a test

module _ (p : ℕ → Bool) (v : ℕ) (passes : p v ≡ true) (lowest : (x : ℕ) → p x ≡ true → v ≤ x) where
  keeps-step : (x : ℕ) (xs : List ℕ) (t : Bool) → p x ≡ t → fold min v (filter p xs) ≡ v → fold min v (cond t (x ∷ filter p xs) (filter p xs)) ≡ v
  keeps-step x xs true is more = let low = lowest x is in let e : min v x ≡ v = omega (arith, low) in ap (λ (b : ℕ). fold min b (filter p xs)) e ∙ more
  keeps-step x xs false is more = more

  keeps : (xs : List ℕ) → fold min v (filter p xs) ≡ v
  keeps [] = refl
  keeps (x ∷ xs) = keeps-step x xs (p x) refl (keeps xs)

  takes-step : (x : ℕ) (xs : List ℕ) (a : ℕ) (t : Bool) → p x ≡ t → v ≤ a → ((b : ℕ) → v ≤ b → fold min b (filter p xs) ≡ v)
      → fold min a (cond t (x ∷ filter p xs) (filter p xs)) ≡ v
  takes-step x xs a true is above more = let low = lowest x is in more (min a x) (omega (arith, low, above))
  takes-step x xs a false is above more = more a above

  takes : (xs : List ℕ) (a i : ℕ) → v ≤ a → i < length xs → get_or xs i 0 ≡ v → fold min a (filter p xs) ≡ v
  takes [] a i above inside at = absurd (omega arith)
  takes (x ∷ xs) a zero above inside at =
      let is : p x ≡ true = ap p at ∙ passes in let e : min a x ≡ v = omega (arith, at, above) in
      rw is (ap (λ (b : ℕ). fold min b (filter p xs)) e ∙ keeps xs)
  takes (x ∷ xs) a (suc i) above inside at = takes-step x xs a (p x) refl above (λ b low. takes xs b i low (omega arith) at)

  least-step : (x : ℕ) (xs : List ℕ) (i : ℕ) (t : Bool) → p x ≡ t → i < length xs → get_or xs i 0 ≡ v → least (filter p xs) ≡ Some v
      → least (cond t (x ∷ filter p xs) (filter p xs)) ≡ Some v
  least-step x xs i true is inside at more = let low = lowest x is in ap (λ (n : ℕ). Some n) (takes xs x i low inside at)
  least-step x xs i false is inside at more = more

  least_is : (xs : List ℕ) (i : ℕ) → i < length xs → get_or xs i 0 ≡ v → least (filter p xs) ≡ Some v
  least_is [] i inside at = absurd (omega arith)
  least_is (x ∷ xs) zero inside at =
      let is : p x ≡ true = ap p at ∙ passes in rw is (ap (λ (n : ℕ). Some n) (rw at (keeps xs)))
  least_is (x ∷ xs) (suc i) inside at =
      least-step x xs i (p x) refl (omega arith) at (least_is xs i (omega arith) at)

-- ---- how many are no greater

count_all : (p : ℕ → Bool) (xs : List ℕ) → ((k : ℕ) → k < length xs → p (get_or xs k 0) ≡ true) → count_by p xs ≡ length xs
count_all p [] each = refl
count_all p (x ∷ xs) each =
    let more = count_all p xs (λ k h. each (suc k) (omega arith)) in
    let one = sum_by-cons (λ (x : ℕ). cond (p x) 1 0) x xs in
    let is : p x ≡ true = each 0 (omega arith) in
    let e : ◌≡◌ {A = ℕ} (cond (p x) 1 0) 1 = rw is refl in
    omega (arith, more, one, e)

count_none : (p : ℕ → Bool) (xs : List ℕ) → ((k : ℕ) → k < length xs → p (get_or xs k 0) ≡ false) → count_by p xs ≡ 0
count_none p [] each = refl
count_none p (x ∷ xs) each =
    let more = count_none p xs (λ k h. each (suc k) (omega arith)) in
    let one = sum_by-cons (λ (x : ℕ). cond (p x) 1 0) x xs in
    let is : p x ≡ false = each 0 (omega arith) in
    let e : ◌≡◌ {A = ℕ} (cond (p x) 1 0) 0 = rw is refl in
    omega (arith, more, one, e)

module _ (sorted : List ℕ) (rises : IsNonDecreasing sorted) (i : ℕ) (inside : i < length sorted) where
  -- up to its own value there are all before it, and itself
  counts_own : i + 1 ≤ count_to (get_or sorted i 0) sorted
  counts_own =
      let p = λ (m : ℕ). nat_le m (get_or sorted i 0) in
      let front : length (take (i + 1) sorted) ≡ i + 1 = grind (arith, common_steps) in
      let all : count_by p (take (i + 1) sorted) ≡ length (take (i + 1) sorted) =
      count_all p (take (i + 1) sorted) (λ k h. let before : k ≤ i = omega (arith, front, h) in
      rw (get_or-take (i + 1) sorted k 0 (omega (arith, before))) (le-leb _ _ (rises k i 0 before inside))) in
      let both = sum_by-take-drop (λ (x : ℕ). cond (p x) 1 0) sorted (i + 1) in
      omega (arith, front, all, both)

  -- up to a lesser value there are at most those before it
  counts_less : (x : ℕ) → x < get_or sorted i 0 → count_to x sorted ≤ i
  counts_less x less =
      let p = λ (m : ℕ). nat_le m x in
      let few = count_by-le-length p (take i sorted) in
      let front : length (take i sorted) ≤ i = grind (arith, common_steps) in
      let none : count_by p (drop i sorted) ≡ 0 =
      count_none p (drop i sorted) (λ k h. let within : i + k < length sorted = grind (arith, common_steps) in
      let above = rises i (i + k) 0 (omega arith) within in
      rw (get_or-drop i sorted k 0) (lt-leb _ _ (omega (arith, above, less)))) in
      let both = sum_by-take-drop (λ (x : ℕ). cond (p x) 1 0) sorted i in
      omega (arith, few, front, none, both)

-- ---- the nearest rank

pub rank_inside : (percent size : ℕ) → percent ≤ 100 → 0 < size → (percent * size + 99) / 100 - 1 < size
rank_inside percent size most some =
    let few : percent * size ≤ 100 * size = mul-le percent size 100 size most (omega arith) in
    omega (arith, few, some)

module _ (numbers sorted : List ℕ) (moved : IsPermutation numbers sorted) (rises : IsNonDecreasing sorted)
    (percent i : ℕ) (inside : i < length sorted) where
  same_count : (n : ℕ) → count_to n sorted ≡ count_to n numbers
  same_count n = sum_by-IsPermutation (λ (m : ℕ). cond (nat_le m n) 1 0) numbers sorted moved

  reaches_own : percent * length sorted ≤ 100 * (i + 1) → reaches percent numbers (get_or sorted i 0) ≡ true
  reaches_own enough =
      let size = length_permutation numbers sorted moved in
      let own = counts_own sorted rises i inside in
      let same = same_count (get_or sorted i 0) in
      le-leb _ _ (rw (sym size) (omega (arith, enough, own, same)))

  reaches_above : 100 * i < percent * length sorted → (x : ℕ) → reaches percent numbers x ≡ true → get_or sorted i 0 ≤ x
  reaches_above many x reached =
      let size = length_permutation numbers sorted moved in
      let same = same_count x in
      let enough : percent * length numbers ≤ 100 * count_to x numbers = leb-true _ _ reached in
      let enough' : percent * length sorted ≤ 100 * count_to x numbers = rw size enough in
      above (λ less. let few = counts_less sorted rises i inside x less in omega (arith, few, same, enough', many))
    where
      above : (x < get_or sorted i 0 → ⊥) → get_or sorted i 0 ≤ x
      above never = omega (arith, never)

  pub percentile_is : percent * length sorted ≤ 100 * (i + 1) → 100 * i < percent * length sorted → percentile percent numbers ≡ Some (get_or sorted i 0)
  unfolding percentile
  percentile_is enough many =
      let found = Contains-permutation sorted numbers (get_or sorted i 0) (IsPermutation-sym numbers sorted moved) (Contains-get_or sorted i 0 inside) in
      least_is (reaches percent numbers) (get_or sorted i 0) (reaches_own enough) (reaches_above many) numbers found.0 found.1
      (get_or_default numbers found.0 0 (get_or sorted i 0) found.1 ∙ found.2)

-- of numbers of which there are none
pub percentile_none : (percent : ℕ) (numbers : List ℕ) → length numbers ≡ 0 → percentile percent numbers ≡ None
unfolding percentile
percentile_none percent [] none = refl
percentile_none percent (n ∷ numbers) none = absurd (omega (arith, none))

-- the number at the rank
pub percentile_at : (percent : ℕ) (sorted : List ℕ) → IsNonDecreasing sorted → 0 < percent → percent ≤ 100 → 0 < length sorted
    → (numbers : List ℕ) → IsPermutation numbers sorted
    → percentile percent numbers ≡ Some (get_or sorted ((percent * length sorted + 99) / 100 - 1) 0)
percentile_at percent sorted rises some most many numbers moved =
    let product : 1 * 1 ≤ percent * length sorted = mul-le 1 1 percent (length sorted) some many in
    percentile_is numbers sorted moved rises percent ((percent * length sorted + 99) / 100 - 1) (rank_inside percent (length sorted) most many)
    (omega (arith, product)) (omega (arith, product))

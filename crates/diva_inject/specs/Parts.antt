-- The parts of a campaign: the faults whose numbers leave the same rest.
-- Cited by `Part::new`, `Part::next` and `parts_make_the_whole`.
use Rattle.std.specs.Prelude.{ℕ, ◌≡◌, ◌≢◌, ◌<◌, ◌≤◌, ◌-◌, ◌%◌, ◌==◌, List, count_by, filter}
use Rattle.std.specs.List.{range_with_len}

-- the part `index` of so many
pub record Part : Type 0 where
  pub index : ℕ
  pub of : ℕ

-- a number is one of a part
abbrev pub IsIn : Part → ℕ → Type 0
IsIn part i = i % part.of ≡ part.index

-- the numbers of a part from one on and below another, in rising order
abbrev pub numbers_of : Part → (first count : ℕ) → List ℕ
numbers_of part first count = filter (λ i. i % part.of == part.index) (range_with_len first (count - first))

-- how often a number is in a list
abbrev pub times : ℕ → List ℕ → ℕ
times i list = count_by (λ n. n == i) list

-- the next number of a part from one on
pub record IsNext (part : Part) (from next : ℕ) : Type 0 where
  pub no_earlier : from ≤ next
  pub one : IsIn part next
  pub none_before : (i : ℕ) → from ≤ i → i < next → i % part.of ≢ part.index

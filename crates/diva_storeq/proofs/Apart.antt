-- Bytes that are apart from the words that the entries go to.
use Rattle.std.proofs.Common.{◌≡◌, ◌≤◌, ◌<◌, ℕ, ◌+◌, ◌%◌, ◌==◌, List, [], ◌∷◌, Option, None, Bool, true, false, inl, inr, if◌then◌else◌, refl, ◌∙◌, arith}
use Rattle.std.specs.List.{All}
use Rattle.std.proofs.lemmas.List.Elements.{All-head, All-tail, All-weaker}
use Rattle.diva_memory.specs.declared.interval.Interval.{Interval}
use Rattle.diva_memory.specs.Bytes.{Bytes, byte_at, number_at, word_at}
use Rattle.diva_memory.specs.Interval.{AreApart, LiesIn}
use Rattle.diva_memory.proofs.Writing.{same_number}
use Rattle.diva_storeq.specs.declared.masked.Masked.{Masked}
use Rattle.diva_storeq.specs.Masked.{merge}
use Rattle.diva_storeq.specs.Stores.{laid}
use Rattle.diva_storeq.proofs.Merging.{merge_apart}

outside_word : (e : Masked) (a n i : ℕ) → AreApart e.addr 4 a n → i < n → e.addr ≤ a + i → a + i < e.addr + 4 → ⊥
outside_word e a n i (inl before) lt from to = omega arith
outside_word e a n i (inr behind) lt from to = omega arith

bytes_stay : (m : Bytes) (entries : List Masked) (a n i : ℕ) → All (λ e. AreApart e.addr 4 a n) entries → i < n → byte_at (laid m entries) (a + i) ≡ byte_at m (a + i)
bytes_stay m [] a n i apart lt = refl
bytes_stay m (e ∷ entries) a n i apart lt =
    bytes_stay (merge m e) entries a n i (All-tail (λ d. AreApart d.addr 4 a n) e entries apart) lt
    ∙ merge_apart m e (a + i) (outside_word e a n i (All-head (λ d. AreApart d.addr 4 a n) e entries apart) lt)

test_same : (c : Bool) (p q : Option ℕ) → p ≡ q → (if c then p else None) ≡ (if c then q else None)
test_same true p q h = h
test_same false p q h = refl

-- bytes that are apart from all that lies in the interval of the entries
module _ (interval : Interval) (entries : List Masked) (a n : ℕ) (within : All (λ e. LiesIn interval e.addr 4) entries) (apart : (b k : ℕ) → LiesIn interval b k → AreApart b k a n) where
  abbrev each : All (λ e. AreApart e.addr 4 a n) entries
  each = All-weaker (λ e. LiesIn interval e.addr 4) (λ e. AreApart e.addr 4 a n) (λ e lies. apart e.addr 4 lies) entries within

  pub apart_byte : 1 ≤ n → (m : Bytes) → byte_at (laid m entries) a ≡ byte_at m a
  apart_byte some m = let here : a + 0 ≡ a = omega arith in rw here at (bytes_stay m entries a n 0 each (omega arith))

  pub apart_half : 2 ≤ n → (m : Bytes) → number_at (laid m entries) 2 a ≡ number_at m 2 a
  apart_half two m = same_number (laid m entries) m 2 a (λ i lt. bytes_stay m entries a n i each (omega arith))

  pub apart_word : 4 ≤ n → (m : Bytes) → word_at (laid m entries) a ≡ word_at m a
  apart_word four m =
      test_same (a % 4 == 0) (number_at (laid m entries) 4 a) (number_at m 4 a) (same_number (laid m entries) m 4 a (λ i lt. bytes_stay m entries a n i each (omega arith)))

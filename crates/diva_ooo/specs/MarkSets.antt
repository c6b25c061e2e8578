-- Sets of marks, and the entries whose marks they are.
-- Only private contracts of this crate cite this: a reader of its promises can pass over it.
use Rattle.std.specs.Prelude.{◌≡◌, ℕ, zero, suc, ◌+◌, ◌==◌, ◌<◌, ◌≤◌, List, [], ◌∷◌, Bool, true, false}
use Rattle.std.specs.Int.{bit_at}
use Rattle.diva_ooo.specs.WindowEntry.{WindowEntry}
use Rattle.diva_ooo.specs.declared.mark_set.MarkSet.{MarkSet}

abbrev pub has : MarkSet → ℕ → Bool
has s i = bit_at s.bits i == 1

-- n is the lowest mark of the set from one on
pub record IsNext (s : MarkSet) (from n : ℕ) : Type 0 where
  pub behind : from ≤ n
  pub there : has s n ≡ true
  pub first : (i : ℕ) → from ≤ i → i < n → has s i ≡ false

-- n is the highest mark of the set below one
pub record IsLast (s : MarkSet) (end n : ℕ) : Type 0 where
  pub before : n < end
  pub there : has s n ≡ true
  pub last : (i : ℕ) → n < i → i < end → has s i ≡ false

-- whether the entry at a place has a property
abbrev pub holds_at : (WindowEntry → Bool) → List WindowEntry → ℕ → Bool
holds_at p [] i = false
holds_at p (e ∷ w) zero = p e
holds_at p (e ∷ w) (suc i) = holds_at p w i

-- the set is that of the entries with a property, where the mark of the oldest is base
abbrev pub AreThose : (WindowEntry → Bool) → List WindowEntry → (base : ℕ) → MarkSet → Type 0
AreThose p w base s = (i : ℕ) → has s (base + i) ≡ holds_at p w i

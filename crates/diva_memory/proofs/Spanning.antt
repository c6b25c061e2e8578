-- The span of a list's stores, where the list changes.
use Rattle.std.proofs.Common.{◌≡◌, ◌<◌, ℕ, zero, suc, ◌+◌, List, [], ◌∷◌, ◌++◌, ◌⊎◌, inl, inr, Bool, true, length, drop, slice_get, Some, refl, ap, arith}
use Rattle.std.specs.Prelude.{slice_set}
use Rattle.std.specs.List.{list_all}
use Rattle.std.proofs.lemmas.Option.{none-some, same_Some}
use Rattle.diva_memory.specs.declared.span.Span.{Span}
use Rattle.diva_memory.specs.Interval.{AreApart}
use Rattle.diva_memory.specs.Span.{Spans, IsSpan}

-- ---- the item at a place

module _ {X : Type 0} where
  at_push : (xs : List X) (x y : X) (p : ℕ) → slice_get (xs ++ x ∷ []) p ≡ Some y → ((p < length xs) × (slice_get xs p ≡ Some y)) ⊎ ((p ≡ length xs) × (x ≡ y))
  at_push [] x y zero h = inr (refl, same_Some _ _ h)
  at_push [] x y (suc p) h = absurd (none-some _ h)
  at_push (z ∷ xs) x y zero h = inl (omega arith, h)
  at_push (z ∷ xs) x y (suc p) h = elim (at_push xs x y p h) [ inl k ↦ inl (omega (arith, k.0), k.1) | inr k ↦ inr (ap suc k.0, k.1) ]

  at_drop : (n : ℕ) (xs : List X) (p : ℕ) → slice_get (drop n xs) p ≡ slice_get xs (n + p)
  at_drop zero xs p = let e : 0 + p ≡ p = omega arith in rw e refl
  at_drop (suc n) [] p = refl
  at_drop (suc n) (x ∷ xs) p = let e : suc n + p ≡ suc (n + p) = omega arith in rw e (at_drop n xs p)

  at_set : (xs : List X) (at : ℕ) (x y : X) (p : ℕ) → slice_get (slice_set xs at x) p ≡ Some y → ((p ≡ at) × (x ≡ y)) ⊎ (slice_get xs p ≡ Some y)
  at_set [] at x y p h = absurd (none-some _ h)
  at_set (z ∷ xs) zero x y zero h = inl (refl, same_Some _ _ h)
  at_set (z ∷ xs) zero x y (suc p) h = inr h
  at_set (z ∷ xs) (suc at) x y zero h = inr h
  at_set (z ∷ xs) (suc at) x y (suc p) h = elim (at_set xs at x y p h) [ inl k ↦ inl (ap suc k.0, k.1) | inr k ↦ inr k ]

  each_passes : (f : X → Bool) (xs : List X) → ((p : ℕ) (x : X) → slice_get xs p ≡ Some x → f x ≡ true) → list_all f xs ≡ true
  each_passes f [] h = refl
  each_passes f (x ∷ xs) h = rw (h 0 x refl, each_passes f xs (λ p y e. h (suc p) y e)) refl

-- ---- what changes a list

module _ {X : Type 0} (MayStore : X → (addr n : ℕ) → Type 0) where
  -- one item more
  pub span_push : (old new : Span) (xs : List X) (x : X) → IsSpan MayStore old xs
      → ((p a k : ℕ) → p < length xs → Spans old p a k → Spans new p a k)
      → ((a k : ℕ) → MayStore x a k → Spans new (length xs) a k) → IsSpan MayStore new (xs ++ x ∷ [])
  span_push old new xs x all older youngest = λ p y a k here may. elim (at_push xs x y p here) [
    | inl h ↦ older p a k h.0 (all p y a k h.1 may)
    | inr h ↦ rw h.0 (youngest a k (rw h.1 may))
  ]

  -- one that stores nothing
  pub span_quiet : (r : Span) (xs : List X) (x : X) → ((a k : ℕ) → MayStore x a k → ⊥) → IsSpan MayStore r xs → IsSpan MayStore r (xs ++ x ∷ [])
  span_quiet r xs x none all = span_push r r xs x all (λ p a k lt h. h) (λ a k may. absurd (none a k may))

  -- the oldest are dropped
  pub span_drop : (old new : Span) (n : ℕ) (xs : List X) → IsSpan MayStore old xs
      → ((p a k : ℕ) → Spans old (n + p) a k → Spans new p a k) → IsSpan MayStore new (drop n xs)
  span_drop old new n xs all fewer = λ p x a k here may. fewer p a k (all (n + p) x a k (rw at_drop at here) may)

  -- another item stands at a place, and may store no more than the one before
  pub span_set : (r : Span) (xs : List X) (at : ℕ) (x y : X) → slice_get xs at ≡ Some x → ((a k : ℕ) → MayStore y a k → MayStore x a k)
      → IsSpan MayStore r xs → IsSpan MayStore r (slice_set xs at y)
  span_set r xs at x y there no_more all = λ p z a k here may. elim (at_set xs at y z p here) [
    | inl h ↦ all p x a k (rw h.0 there) (no_more a k (rw h.1 may))
    | inr h ↦ all p z a k h may
  ]

  -- ---- what is apart

  -- bytes that are apart from all that is in the span are so from what each item may store
  pub span_apart : (f : X → Bool) (r : Span) (xs : List X) (a n : ℕ) → ((x : X) → ((b k : ℕ) → MayStore x b k → AreApart b k a n) → f x ≡ true)
      → IsSpan MayStore r xs → ((p b k : ℕ) → Spans r p b k → AreApart b k a n) → list_all f xs ≡ true
  span_apart f r xs a n one all apart = each_passes f xs (λ p x here. one x (λ b k may. apart p b k (all p x b k here may)))

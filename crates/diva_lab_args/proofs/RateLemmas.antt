-- The words before and after the first that passes a test, if a list is seen through a function.
use Rattle.std.proofs.Common.{◌≡◌, ◌∙◌, ◌||◌, ◌≤◌, ◌+◌, ◌-◌, ℕ, Bool, not, List, [], ◌∷◌, length, map, take, drop, refl, ap, sym, cond, Some, None, arith}
use Rattle.std.specs.List.{after_first, before_first, list_any, position, position_or_len}
use Rattle.std.proofs.lemmas.List.{drop-map, drop_all, length-drop, length-map, take-map, take_all}

module _ {X Y : Type 0} (f : X → Y) (p : Y → Bool) where
  pub place_map : (xs : List X) → position_or_len p (map f xs) ≡ position_or_len (λ x. p (f x)) xs
  place_map [] = refl
  place_map (x ∷ xs) = λ i. cond (not (p (f x))) (1 + place_map xs i) 0

  pub any_map : (xs : List X) → list_any p (map f xs) ≡ list_any (λ x. p (f x)) xs
  any_map [] = refl
  any_map (x ∷ xs) = ap (λ (b : Bool). p (f x) || b) (any_map xs)

  -- the place that is found
  found : (xs : List X) (i : ℕ) → position (λ x. p (f x)) xs ≡ Some i → position_or_len p (map f xs) ≡ i
  found xs i e = place_map xs ∙ grind (arith, e)

  none : (xs : List X) → position (λ x. p (f x)) xs ≡ None → length xs ≤ position_or_len p (map f xs)
  none xs e = let h = place_map xs in grind (arith, e, h)

  pub before : (xs : List X) (i : ℕ) → position (λ x. p (f x)) xs ≡ Some i → map f (take i xs) ≡ before_first p (map f xs)
  before xs i e = sym (take-map f i xs) ∙ ap (λ (n : ℕ). take n (map f xs)) (sym (found xs i e))

  pub after : (xs : List X) (i : ℕ) → position (λ x. p (f x)) xs ≡ Some i → map f (take (length xs - (i + 1)) (drop (i + 1) xs)) ≡ after_first p (map f xs)
  after xs i e =
      ap (map f) (take_all _ (drop (i + 1) xs) (omega (arith, length-drop (i + 1) xs)))
      ∙ sym (drop-map f (i + 1) xs) ∙ ap (λ (n : ℕ). drop (n + 1) (map f xs)) (sym (found xs i e))

  pub all_before : (xs : List X) → position (λ x. p (f x)) xs ≡ None → map f xs ≡ before_first p (map f xs)
  all_before xs e = sym (take_all _ (map f xs) (omega (arith, none xs e, length-map xs f)))

  pub none_after : (xs : List X) → position (λ x. p (f x)) xs ≡ None → [] ≡ after_first p (map f xs)
  none_after xs e = sym (drop_all _ (map f xs) (omega (arith, none xs e, length-map xs f)))

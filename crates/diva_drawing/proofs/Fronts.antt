-- The first of some items, and one more.
use Rattle.std.proofs.Common.{◌≡◌, ℕ, zero, suc, ◌+◌, List, [], ◌∷◌, ◌++◌, map, take, slice_get, Some, refl, ap, ◌∙◌, add-one, arith}
use Rattle.std.specs.List.{flat_map, range_with_len}
use Rattle.diva_trace.proofs.Numbered.{flat_map_range_more}

pub take_more : {A : Type 0} (xs : List A) (at : ℕ) (x : A) → slice_get xs at ≡ Some x → take (at + 1) xs ≡ take at xs ++ x ∷ []
take_more [] at x e = absurd (cc)
take_more (y ∷ xs) zero x e = cc
take_more (y ∷ xs) (suc at) x e = simp add-one (ap (λ (zs : List _). y ∷ zs) (simp add-one at (take_more xs at x e)))

map_push : {A B : Type 0} (f : A → B) (xs : List A) (x : A) → map f (xs ++ x ∷ []) ≡ map f xs ++ f x ∷ []
map_push f [] x = refl
map_push f (y ∷ xs) x = ap (λ (zs : List _). f y ∷ zs) (map_push f xs x)

pub map_more : {A B : Type 0} (f : A → B) (xs : List A) (at : ℕ) (x : A) → slice_get xs at ≡ Some x → map f (take (at + 1) xs) ≡ map f (take at xs) ++ f x ∷ []
map_more f xs at x e = ap (map f) (take_more xs at x e) ∙ map_push f (take at xs) x

-- the texts of the numbers from 0 on, and of one more
pub texts_more : (f : ℕ → List ℕ) (n : ℕ) → flat_map f (range_with_len 0 (n + 1)) ≡ flat_map f (range_with_len 0 n) ++ f n
texts_more f n = flat_map_range_more f 0 n ∙ ap (λ k. flat_map f (range_with_len 0 n) ++ f k) (omega arith)

-- Chains of undos.
use Rattle.std.proofs.Common.{◌≡◌, ℕ, zero, suc, ◌-◌, List, [], ◌∷◌, length, take, drop, refl, ap, sym, ◌∙◌, subst, arith}
use Rattle.diva_isa.specs.State.{State}
use Rattle.diva_isa.specs.Step.{step, steps}
use Rattle.diva_isa.specs.Undo.{IsUndo, restore}
use Rattle.diva_isa.specs.declared.undo.Undo.{Undo}
use Rattle.diva_debug.specs.Undos.{AreUndos, origin_of}

-- from the state that they restore, as many steps as there are undos lead back
pub stands : (s : State) (rows : List Undo) → AreUndos s rows → steps (length rows) (origin_of s rows) ≡ s
stands s [] are = refl
stands s (u ∷ rows) are = ap step (stands (restore s u) rows are.1) ∙ are.0.stepped

-- the newest undos alone
pub are_first : (n : ℕ) (s : State) (rows : List Undo) → AreUndos s rows → AreUndos s (take n rows)
are_first zero s rows are = tt
are_first (suc n) s [] are = tt
are_first (suc n) s (u ∷ rows) are = (are.0, are_first n (restore s u) rows are.1)

-- the others, from the state that the newest restore
pub are_rest : (n : ℕ) (s : State) (rows : List Undo) → AreUndos s rows → AreUndos (origin_of s (take n rows)) (drop n rows)
are_rest zero s rows are = are
are_rest (suc n) s [] are = tt
are_rest (suc n) s (u ∷ rows) are = are_rest n (restore s u) rows are.1

pub origin_rest : (n : ℕ) (s : State) (rows : List Undo) → origin_of (origin_of s (take n rows)) (drop n rows) ≡ origin_of s rows
origin_rest zero s rows = refl
origin_rest (suc n) s [] = refl
origin_rest (suc n) s (u ∷ rows) = origin_rest n (restore s u) rows

-- the newest restore a state that is as many steps later as undos are left
pub origin_first : (n : ℕ) (s : State) (rows : List Undo) → AreUndos s rows → origin_of s (take n rows) ≡ steps (length rows - length (take n rows)) (origin_of s rows)
origin_first zero s rows are =
    let all : length rows - 0 ≡ length rows = omega arith in
    rw all (sym (stands s rows are))
origin_first (suc n) s [] are = refl
origin_first (suc n) s (u ∷ rows) are =
    let same : suc (length rows) - suc (length (take n rows)) ≡ length rows - length (take n rows) = omega arith in
    rw same (origin_first n (restore s u) rows are.1)

-- a row more, as far as there is room
module _ (s : State) (u : Undo) (rows : List Undo) (are : AreUndos s rows) (back : restore (step s) u ≡ s) (last : IsUndo (step s) u) where
  more : AreUndos (step s) (u ∷ rows)
  more = (last, subst (λ (t : State). AreUndos t rows) (sym back) are)

  pub are_kept : (room : ℕ) → AreUndos (step s) (take room (u ∷ rows))
  are_kept room = are_first room (step s) (u ∷ rows) more

  pub origin_kept : (room : ℕ) → origin_of (step s) (take room (u ∷ rows)) ≡ steps (suc (length rows) - length (take room (u ∷ rows))) (origin_of s rows)
  origin_kept room =
      origin_first room (step s) (u ∷ rows) more
      ∙ ap (λ (t : State). steps (suc (length rows) - length (take room (u ∷ rows))) (origin_of t rows)) back

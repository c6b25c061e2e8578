-- Instructions that are taken back, the newest first.
use Rattle.std.proofs.Common.{◌≡◌, ℕ, zero, suc, ◌+◌, ◌-◌, ◌≤◌, ◌++◌, List, [], ◌∷◌, Some, length, take, drop, slice_get, refl, ap, sym, ◌∙◌, subst, arith}
use Rattle.std.proofs.lemmas.List.{drop-drop, length-drop, length-take-le}
use Rattle.std.proofs.Math.Seq.{take-add}
use Rattle.diva_isa.specs.State.{State}
use Rattle.diva_isa.specs.Step.{steps}
use Rattle.diva_isa.specs.declared.undo.Undo.{Undo}
use Rattle.diva_core.specs.Machine.{IsMachine}
use Rattle.diva_core.specs.Timed.{Config, Timed}
use Rattle.diva_core.specs.Undone.{CanUndo, CanUndoAll, undone, undone_all}
use Rattle.diva_core.proofs.Undoing.{undone_stays}
use Rattle.diva_debug.specs.Rewindable.{GoesBack, IsRewindable, Rewindable, session_origin, kept_of}
use Rattle.diva_debug.specs.Undos.{AreUndos, origin_of}
use Rattle.diva_debug.proofs.Chains.{are_rest, origin_first, origin_rest}

-- ---- what undos make of a machine

can_first : (n : ℕ) (m : Timed) (rows : List Undo) → AreUndos m.arch rows → length rows ≤ m.count → CanUndoAll m (take n rows)
unfolding undone
can_first zero m rows are few = tt
can_first (suc n) m [] are few = tt
can_first (suc n) m (u ∷ rows) are few =
    (record { counted = omega arith; last = are.0 }, can_first n (undone m u) rows are.1 (omega arith))

undone_all-append : (m : Timed) (rows more : List Undo) → undone_all m (rows ++ more) ≡ undone_all (undone_all m rows) more
undone_all-append m [] more = refl
undone_all-append m (u ∷ rows) more = undone_all-append (undone m u) rows more

undone_all-arch : (m : Timed) (rows : List Undo) → (undone_all m rows).arch ≡ origin_of m.arch rows
unfolding undone
undone_all-arch m [] = refl
undone_all-arch m (u ∷ rows) = undone_all-arch (undone m u) rows

undone_all-count : (m : Timed) (rows : List Undo) → length rows ≤ m.count → (undone_all m rows).count + length rows ≡ m.count
unfolding undone
undone_all-count m [] few = omega arith
undone_all-count m (u ∷ rows) few = let e = undone_all-count (undone m u) rows (omega arith) in omega arith

undone_all-cycles : (m : Timed) (rows : List Undo) → (undone_all m rows).cycles ≡ m.cycles
unfolding undone
undone_all-cycles m [] = refl
undone_all-cycles m (u ∷ rows) = undone_all-cycles (undone m u) rows

undone_all-config : (m : Timed) (rows : List Undo) → (undone_all m rows).config ≡ m.config
unfolding undone
undone_all-config m [] = refl
undone_all-config m (u ∷ rows) = undone_all-config (undone m u) rows

undone_all-stays : (m : Timed) (rows : List Undo) → IsMachine m → CanUndoAll m rows → IsMachine (undone_all m rows)
undone_all-stays m [] inv can = inv
undone_all-stays m (u ∷ rows) inv can = undone_all-stays (undone m u) rows (undone_stays m u inv can.0.counted) can.1

-- ---- what going back leaves

module _ (n : ℕ) (r last : Rewindable) (b : GoesBack n r last) where
  pub back-config : last.machine.timed.config ≡ r.machine.timed.config
  back-config = ap (λ (m : Timed). m.config) b.undone ∙ undone_all-config r.machine.timed (take n r.undos)

  pub back-cycles : last.machine.timed.cycles ≡ r.machine.timed.cycles
  back-cycles = ap (λ (m : Timed). m.cycles) b.undone ∙ undone_all-cycles r.machine.timed (take n r.undos)

  pub back-machine : IsMachine r.machine.timed → IsMachine last.machine.timed
  back-machine inv = subst IsMachine (sym b.undone) (undone_all-stays r.machine.timed (take n r.undos) inv b.can)

  back-arch : last.machine.timed.arch ≡ origin_of r.machine.timed.arch (take n r.undos)
  back-arch = ap (λ (m : Timed). m.arch) b.undone ∙ undone_all-arch r.machine.timed (take n r.undos)

  -- what all undos restore stays
  pub back-origin : session_origin last ≡ session_origin r
  back-origin =
      ap (λ (s : State). origin_of s last.undos) back-arch
      ∙ ap (λ (rows : List Undo). origin_of (origin_of r.machine.timed.arch (take n r.undos)) rows) b.left
      ∙ origin_rest n r.machine.timed.arch r.undos

  pub back-kept : kept_of last ≡ kept_of r - n
  back-kept = ap length b.left ∙ length-drop n r.undos

  module _ (is : IsRewindable r) (few : n ≤ kept_of r) where
    length-first : length (take n r.undos) ≡ n
    length-first = length-take-le n r.undos few

    pub back-count : last.machine.timed.count + n ≡ r.machine.timed.count
    back-count =
        let all = is.counted in
        let e = undone_all-count r.machine.timed (take n r.undos) (let f = length-first in omega arith) in
        let c : last.machine.timed.count ≡ (undone_all r.machine.timed (take n r.undos)).count = ap (λ (m : Timed). m.count) b.undone in
        let f = length-first in
        omega arith

    pub back-state : last.machine.timed.arch ≡ steps (kept_of r - n) (session_origin r)
    back-state =
        back-arch
        ∙ origin_first n r.machine.timed.arch r.undos is.undos
        ∙ ap (λ k. steps (kept_of r - k) (session_origin r)) length-first

    pub back-is : last.keep ≡ r.keep → IsRewindable last
    back-is same =
        let c = back-count in
        let k = back-kept in
        let all = is.counted in
        let room = is.room in
        record {
          width = ap (λ (z : Config). z.width) back-config ∙ is.width;
          undos =
              subst (λ (rows : List Undo). AreUndos last.machine.timed.arch rows) (sym b.left)
              (subst (λ (s : State). AreUndos s (drop n r.undos)) (sym back-arch) (are_rest n r.machine.timed.arch r.undos is.undos));
          counted = omega arith;
          room = omega arith;
        }

-- the newest
module _ (r : Rewindable) (u : Undo) (is : IsRewindable r) where
  newest : (rows : List Undo) → slice_get rows 0 ≡ Some u → take 1 rows ≡ u ∷ []
  newest [] e = cc
  newest (v ∷ rows) e = cc

  pub can_newest : slice_get r.undos 0 ≡ Some u → CanUndo r.machine.timed u
  can_newest e = (subst (CanUndoAll r.machine.timed) (newest r.undos e) (can_first 1 r.machine.timed r.undos is.undos is.counted)).0

  pub back_one : (last : Rewindable) → slice_get r.undos 0 ≡ Some u → last.machine.timed ≡ undone r.machine.timed u → last.machine.last ≡ r.machine.last
      → last.undos ≡ drop 1 r.undos → GoesBack 1 r last
  back_one last e undone shows left =
      record {
        can = can_first 1 r.machine.timed r.undos is.undos is.counted;
        undone = undone ∙ sym (ap (undone_all r.machine.timed) (newest r.undos e));
        shows = shows;
        left = left;
      }

-- one more
pub back_then : (n : ℕ) (r mid last : Rewindable) → IsRewindable r → GoesBack n r mid → GoesBack 1 mid last → GoesBack (n + 1) r last
back_then n r mid last is b c =
    record {
      can = can_first (n + 1) r.machine.timed r.undos is.undos is.counted;
      undone =
          c.undone
          ∙ ap (λ (m : Timed). undone_all m (take 1 mid.undos)) b.undone
          ∙ ap (λ (rows : List Undo). undone_all (undone_all r.machine.timed (take n r.undos)) (take 1 rows)) b.left
          ∙ sym (undone_all-append r.machine.timed (take n r.undos) (take 1 (drop n r.undos)))
          ∙ ap (undone_all r.machine.timed) (sym (take-add n 1 r.undos));
      shows = c.shows ∙ b.shows;
      left = c.left ∙ ap (drop 1) b.left ∙ drop-drop 1 n r.undos;
    }

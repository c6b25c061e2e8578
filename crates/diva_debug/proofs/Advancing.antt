-- Instructions more, each of which is kept.
use Rattle.std.proofs.Common.{◌≡◌, ℕ, suc, ◌+◌, ◌-◌, ◌*◌, ◌≤◌, List, ◌∷◌, length, take, min, refl, inl, ap, sym, ◌∙◌, subst, arith}
use Rattle.std.proofs.Math.Nat.{add-mul}
use Rattle.std.proofs.lemmas.List.{length-take}
use Rattle.diva_isa.specs.State.{State}
use Rattle.diva_isa.specs.Step.{step, steps}
use Rattle.diva_isa.specs.Undo.{IsUndo, restore}
use Rattle.diva_isa.specs.declared.undo.Undo.{Undo}
use Rattle.diva_core.specs.History.{Meaning}
use Rattle.diva_core.specs.Timed.{Config, depth}
use Rattle.diva_core.proofs.Steps.{steps-add}
use Rattle.diva_machine.specs.Counts.{StopsAtOnce}
use Rattle.diva_machine.specs.Inner.{TakesTurns}
use Rattle.diva_machine.proofs.Driving.{no_turns, turns_then}
use Rattle.diva_debug.specs.Inner.{Advances}
use Rattle.diva_debug.specs.Moves.{Moves}
use Rattle.diva_debug.specs.Rewindable.{IsRewindable, Rewindable, session_origin, kept_of}
use Rattle.diva_debug.specs.Undos.{AreUndos, origin_of}
use Rattle.diva_debug.proofs.Chains.{are_kept, origin_kept}
use Rattle.diva_debug.proofs.Stepping.{Moves-then, at-once-then, moved-up}

-- none
pub advances_none : {C : Type 0} (gives : Meaning C) (r : Rewindable) (core : C) → IsRewindable r → Advances gives 0 r core r core
advances_none gives r core is =
    let room = is.room in
    let none : kept_of r + 0 - kept_of r ≡ 0 = omega arith in
    record {
      turns = no_turns gives r.machine core;
      moved = record { count = omega arith; arch = refl };
      at_once = inl refl;
      within = omega arith;
      config = refl;
      keep = refl;
      kept = omega arith;
      origin = sym (ap (λ k. steps k (session_origin r)) none);
    }

-- the cycles of a and of b instructions
cycles-then : (first mid last a b per : ℕ) → mid ≤ first + a * per → last ≤ mid + b * per → last ≤ first + (a + b) * per
cycles-then first mid last a b per h i = let e : (a + b) * per ≡ a * per + b * per = add-mul a b per in omega arith

-- what is dropped of a and of b instructions
dropped-then : (keep k0 k1 k2 a b : ℕ) → k1 ≡ min keep (k0 + a) → k2 ≡ min keep (k1 + b) → (k0 + a - k1) + (k1 + b - k2) ≡ k0 + (a + b) - k2
dropped-then keep k0 k1 k2 a b h i = omega arith

kept-then : (keep k0 k1 k2 a b : ℕ) → k1 ≡ min keep (k0 + a) → k2 ≡ min keep (k1 + b) → k2 ≡ min keep (k0 + (a + b))
kept-then keep k0 k1 k2 a b h i = omega arith

-- some, and then some more
pub advances_then :
    {C : Type 0} (gives : Meaning C) (a b : ℕ) (r : Rewindable) (core : C) (mid : Rewindable) (between : C) (last : Rewindable) (final : C)
    → Advances gives a r core mid between → Advances gives b mid between last final → Advances gives (a + b) r core last final
advances_then gives a b r core mid between last final v w =
    let kept_b : kept_of last ≡ min r.keep (kept_of mid + b) = w.kept ∙ ap (λ k. min k (kept_of mid + b)) v.keep in
    let same : mid.machine.timed.config.limit + depth ≡ r.machine.timed.config.limit + depth = ap (λ (z : Config). z.limit + depth) v.config in
    record {
      turns = turns_then gives r.machine core mid.machine between v.turns last.machine final w.turns;
      moved = Moves-then a b r.machine.timed mid.machine.timed last.machine.timed v.moved w.moved;
      at_once = at-once-then _ _ _ (moved-up a _ _ v.moved) v.at_once w.at_once;
      within =
          cycles-then _ mid.machine.timed.cycles _ a b (r.machine.timed.config.limit + depth) v.within
          (subst (λ per. last.machine.timed.cycles ≤ mid.machine.timed.cycles + b * per) same w.within);
      config = w.config ∙ v.config;
      keep = w.keep ∙ v.keep;
      kept = kept-then r.keep (kept_of r) (kept_of mid) (kept_of last) a b v.kept kept_b;
      origin =
          w.origin
          ∙ ap (steps (kept_of mid + b - kept_of last)) v.origin
          ∙ sym (steps-add (kept_of r + a - kept_of mid) (kept_of mid + b - kept_of last) (session_origin r))
          ∙ ap (λ k. steps k (session_origin r)) (dropped-then r.keep (kept_of r) (kept_of mid) (kept_of last) a b v.kept kept_b);
    }

-- one instruction, whose undo is kept
module _ {C : Type 0} (gives : Meaning C) (r : Rewindable) (core : C) (last : Rewindable) (final : C) (u : Undo) (is : IsRewindable r)
    (back : restore (step r.machine.timed.arch) u ≡ r.machine.timed.arch) (overwrote : IsUndo (step r.machine.timed.arch) u)
    (moved : Moves 1 r.machine.timed last.machine.timed)
    (rows : last.undos ≡ take r.keep (u ∷ r.undos)) (keep : last.keep ≡ r.keep)
    (config : last.machine.timed.config ≡ r.machine.timed.config) where
  length-kept : kept_of last ≡ min r.keep (kept_of r + 1)
  length-kept = ap length rows ∙ length-take r.keep (u ∷ r.undos) ∙ (omega arith)

  pub advances_one :
      TakesTurns gives r.machine core last.machine final
      → last.machine.timed.cycles ≤ r.machine.timed.cycles + (r.machine.timed.config.limit + depth)
      → StopsAtOnce r.machine.timed last.machine.timed
      → Advances gives 1 r core last final
  advances_one turns within at_once =
      let dropped : suc (kept_of r) - length (take r.keep (u ∷ r.undos)) ≡ kept_of r + 1 - kept_of last = (let e = ap length rows in omega arith) in
      record {
        turns = turns;
        moved = moved;
        at_once = at_once;
        within = omega arith;
        config = config;
        keep = keep;
        kept = length-kept;
        origin =
            ap (λ (s : State). origin_of s last.undos) moved.arch
            ∙ ap (origin_of (step r.machine.timed.arch)) rows
            ∙ origin_kept r.machine.timed.arch u r.undos is.undos back overwrote r.keep
            ∙ ap (λ k. steps k (session_origin r)) dropped;
      }

  -- its type is kept
  pub one_is : IsRewindable last
  one_is =
      let k = length-kept in
      let more = moved.count in
      let all = is.counted in
      let room = is.room in
      record {
        width = ap (λ (z : Config). z.width) config ∙ is.width;
        undos =
            subst (λ (list : List Undo). AreUndos last.machine.timed.arch list) (sym rows)
            (subst (λ (s : State). AreUndos s (take r.keep (u ∷ r.undos))) (sym moved.arch)
            (are_kept r.machine.timed.arch u r.undos is.undos back overwrote r.keep));
        counted = omega arith;
        room = omega arith;
      }

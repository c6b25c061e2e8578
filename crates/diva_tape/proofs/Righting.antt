-- The lists of the right cores are right.
use Rattle.std.proofs.Common.{◌≡◌, ◌≢◌, ℕ, zero, suc, Bool, true, ◌&&◌, ◌==◌, List, [], ◌∷◌, take, length, refl, ap, sym, ◌∙◌, ◌<◌, arith, subst, if◌then◌else◌}
use Rattle.std.specs.Prelude.{nat_lt, is_none}
use Rattle.std.proofs.lemmas.Bool.{cond_both, and_parts, eqb-true, ltb-true}
use Rattle.diva_isa.specs.State.{State, goes_on}
use Rattle.diva_isa.specs.declared.record.Record.{Record}
use Rattle.diva_isa.specs.Step.{record_of, step, steps}
use Rattle.diva_core.specs.Timed.{Timed, room_of}
use Rattle.diva_core.specs.Cycle.{cycle_of}
use Rattle.diva_core.specs.History.{IsHistory, FollowRule, lists_of}
use Rattle.diva_core.specs.Right.{AreDue, IsRight, AreRight}
use Rattle.diva_core.proofs.Calming.{AreDueFrom, due_at}
use Rattle.diva_core.proofs.Listing.{log_right}
use Rattle.diva_tape.specs.Lists.{lockstep_list, IsLockstepCall}
use Rattle.diva_tape.specs.Scalar.{scalar_list}

AreDueFrom-take : (r : ℕ) (s : State) (xs : List Record) → AreDueFrom s xs → AreDueFrom s (take r xs)
AreDueFrom-take zero s xs a = tt
AreDueFrom-take (suc r) s [] a = tt
AreDueFrom-take (suc r) s (p ∷ xs) a = (a.0, AreDueFrom-take r (step s) xs a.1)

steps-none : (n : ℕ) (s : State) → n ≡ 0 → steps n s ≡ s
steps-none n s e = rw e refl

-- a list that is handed over where a test holds
handed-where : (t : Bool) (p : Record) → t ≡ true → (if t then p ∷ [] else []) ≢ []
handed-where t p e h = absurd (grind (arith, e, h))

-- where there is room, the machine goes on
room_on : (m : Timed) → 0 < room_of m → goes_on m.arch ≡ true
room_on m h =
    cond_both (is_none m.under.solo && goes_on m.arch) _ _ (λ r. 0 < r → goes_on m.arch ≡ true)
    (λ t some. (and_parts _ _ t).1)
    (λ f some. absurd (omega arith))
    h

pub lockstep_right : (m : Timed) → IsRight m (lockstep_list m)
lockstep_right m =
    record {
      claims = cond_both ((length m.under.pending == 0) && nat_lt 0 (room_of m)) _ _ (λ list. AreDue (steps (length m.under.pending) m.arch) (take (room_of m) list))
          (λ t. due_at _ _ (AreDueFrom-take (room_of m) _ (record_of m.arch ∷ []) (λ on. ap record_of (sym (steps-none (length m.under.pending) m.arch (eqb-true _ _ (and_parts _ _ t).0))), tt)))
          (λ f. due_at _ _ (AreDueFrom-take (room_of m) _ [] tt));
      prompt = λ d. handed-where _ (record_of m.arch) (and_parts _ _ d).0;
    }

-- the record behind what is pending is right, where there is room and the machine goes on behind that
pub scalar_right : (m : Timed) → IsRight m (scalar_list m)
scalar_right m =
    let s : State = steps (length m.under.pending) m.arch in
    record {
      claims = cond_both (nat_lt 0 (room_of m) && goes_on s) _ _ (λ list. AreDue s (take (room_of m) list))
          (λ t. due_at _ _ (AreDueFrom-take (room_of m) _ (record_of s ∷ []) (λ on. refl, tt)))
          (λ f. due_at _ _ (AreDueFrom-take (room_of m) _ [] tt));
      prompt = λ d.
          let p = and_parts _ _ (and_parts _ _ d).0 in
          let on : goes_on s ≡ true = ap goes_on (steps-none (length m.under.pending) m.arch (eqb-true _ _ p.0)) ∙ room_on m (ltb-true 0 (room_of m) p.1) in
          handed-where _ (record_of s) (rw (p.1, on) refl);
    }

-- lists by a rule that is right at each machine are right
pub rule_right_by : (rule : Timed → List Record) → ((m : Timed) → IsRight m (rule m)) → (m : Timed) (lists : List (List Record)) → FollowRule rule m lists → AreRight m lists
rule_right_by rule each m [] h = tt
rule_right_by rule each m (list ∷ rest) h = (subst (IsRight m) (sym h.0) (each m), rule_right_by rule each (cycle_of m list) rest h.1)

pub rule_right : (m : Timed) (lists : List (List Record)) → FollowRule lockstep_list m lists → AreRight m lists
rule_right = rule_right_by lockstep_list lockstep_right

pub lockstep_history_right :
    {C : Type 0} (m : Timed) (core : C) (history : List (List Record × C)) (last : Timed) (final : C)
    → IsHistory IsLockstepCall m core history last final
    → AreRight m (lists_of history)
lockstep_history_right m core history last final h =
    log_right IsLockstepCall (λ n before list after given. subst (IsRight n) (sym given) (lockstep_right n)) m core history last final h

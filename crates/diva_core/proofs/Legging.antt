-- What follows of legs, and of the parts of a session.
use Rattle.std.proofs.Common.{◌≡◌, List, [], ◌∷◌, ◌++◌, map, refl, ap, ◌∙◌, subst}
use Rattle.diva_isa.specs.declared.record.Record.{Record}
use Rattle.diva_isa.specs.declared.undo.Undo.{Undo}
use Rattle.diva_core.specs.Timed.{Timed}
use Rattle.diva_core.specs.Cycle.{cycle_of, run_of}
use Rattle.diva_core.specs.Told.{told_of}
use Rattle.diva_core.specs.History.{Meaning, FollowRule, IsHistory, lists_of}
use Rattle.diva_core.specs.Legs.{AreLegs, EachPart, Handed, IsLeg, Leg, OfLists, Part, TakenBack, Turned, WentBack, core_after, core_behind, part_of, run_part, run_parts}
use Rattle.diva_core.specs.Machine.{IsMachine}
use Rattle.diva_core.specs.Right.{AreRight, IsCalm, StaysCalm}
use Rattle.diva_core.specs.Undone.{CanUndoAll, undone, undone_all}
use Rattle.diva_core.proofs.Listing.{run_calm}
use Rattle.diva_core.proofs.Progressing.{run-stays}
use Rattle.diva_core.proofs.Turning.{IsHistory-rule, IsHistory-run}
use Rattle.diva_core.proofs.Undoing.{undone_calm, undone_stays}

-- ---- a history as a leg

pub IsHistory-core : {C : Type 0} (gives : Meaning C) (m : Timed) (core : C) (history : List (List Record × C)) (last : Timed) (final : C)
    → IsHistory gives m core history last final → final ≡ core_behind core history
IsHistory-core gives m core [] last final h = h.1
IsHistory-core gives m core (turn ∷ rest) last final h = IsHistory-core gives (cycle_of m turn.0) turn.1 rest last final h.1.1

pub IsLeg-history : {C : Type 0} (gives : Meaning C) (m : Timed) (core : C) (history : List (List Record × C)) (last : Timed) (final : C)
    → IsHistory gives m core history last final → IsLeg gives m core (Turned history)
IsLeg-history gives m core history last final h =
    subst (λ c. IsHistory gives m core history (run_of m (lists_of history)) c) (IsHistory-core gives m core history last final h)
    (subst (λ (n : Timed). IsHistory gives m core history n final) (IsHistory-run gives m core history last final h) h)

-- ---- legs, one behind the other

pub AreLegs-run : {C : Type 0} (gives : Meaning C) (m : Timed) (core : C) (legs : List (Leg C)) (last : Timed) (final : C)
    → AreLegs gives m core legs last final → last ≡ run_parts m (map part_of legs)
AreLegs-run gives m core [] last final h = h.0
AreLegs-run gives m core (leg ∷ legs) last final h = AreLegs-run gives (run_part m (part_of leg)) (core_after core leg) legs last final h.1

pub AreLegs-more : {C : Type 0} (gives : Meaning C) (m : Timed) (core : C) (legs : List (Leg C)) (mid : Timed) (between : C) (leg : Leg C)
    → AreLegs gives m core legs mid between → IsLeg gives mid between leg
    → AreLegs gives m core (legs ++ leg ∷ []) (run_part mid (part_of leg)) (core_after between leg)
AreLegs-more gives m core [] mid between leg h one =
    (subst (λ (n : Timed). IsLeg gives n core leg) h.0 (subst (λ c. IsLeg gives mid c leg) h.1 one), (ap (λ (n : Timed). run_part n (part_of leg)) h.0, ap (λ c. core_after c leg) h.1))
AreLegs-more gives m core (first ∷ legs) mid between leg h one =
    (h.0, AreLegs-more gives (run_part m (part_of first)) (core_after core first) legs mid between leg h.1 one)

-- ---- instructions that are taken back

pub undone_all_stays : (m : Timed) (undos : List Undo) → IsMachine m → CanUndoAll m undos → IsMachine (undone_all m undos)
undone_all_stays m [] inv can = inv
undone_all_stays m (u ∷ undos) inv can = undone_all_stays (undone m u) undos (undone_stays m u inv can.0.counted) can.1

pub undone_all_cycles : (m : Timed) (undos : List Undo) → (undone_all m undos).cycles ≡ m.cycles
unfolding undone
undone_all_cycles m [] = refl
undone_all_cycles m (u ∷ undos) = undone_all_cycles (undone m u) undos

undone_one_calm : (m : Timed) (u : Undo) → IsMachine m → StaysCalm m (undone m u)
unfolding undone
undone_one_calm m u inv = record { calm = undone_calm m u inv.config; log = refl }

StaysCalm-then : (m mid last : Timed) → StaysCalm m mid → StaysCalm mid last → StaysCalm m last
StaysCalm-then m mid last a b = record { calm = b.calm; log = b.log ∙ a.log }

undone_all_calm : (m : Timed) (undos : List Undo) → IsMachine m → CanUndoAll m undos → IsCalm m → StaysCalm m (undone_all m undos)
undone_all_calm m [] inv can calm = record { calm = calm; log = refl }
undone_all_calm m (u ∷ undos) inv can calm =
    let one : StaysCalm m (undone m u) = undone_one_calm m u inv in
    StaysCalm-then m (undone m u) (undone_all (undone m u) undos) one (undone_all_calm (undone m u) undos (undone_stays m u inv can.0.counted) can.1 one.calm)

-- ---- what holds of each part

-- what is taken back in a part can be
abbrev pub IsGood : Timed → Part → Type 0
IsGood m (Handed lists) = Unit {0}
IsGood m (TakenBack undos) = CanUndoAll m undos

part_stays : (m : Timed) (part : Part) → IsMachine m → IsGood m part → IsMachine (run_part m part)
part_stays m (Handed lists) inv good = run-stays m lists inv
part_stays m (TakenBack undos) inv good = undone_all_stays m undos inv good

pub parts_stay : (m : Timed) (parts : List Part) → IsMachine m → EachPart IsGood m parts → IsMachine (run_parts m parts)
parts_stay m [] inv good = inv
parts_stay m (part ∷ parts) inv good = parts_stay (run_part m part) parts (part_stays m part inv good.0) good.1

-- what each run promises holds of the lists of each part
of_lists : (this : Timed → List (List Record) → Type 0) → ((m : Timed) (lists : List (List Record)) → IsMachine m → this m lists)
    → (m : Timed) (part : Part) → IsMachine m → OfLists this m part
of_lists this h m (Handed lists) inv = h m lists inv
of_lists this h m (TakenBack undos) inv = tt

pub each_part : (this : Timed → List (List Record) → Type 0) → ((m : Timed) (lists : List (List Record)) → IsMachine m → this m lists)
    → (m : Timed) (parts : List Part) → IsMachine m → EachPart IsGood m parts → EachPart (OfLists this) m parts
each_part this h m [] inv good = tt
each_part this h m (part ∷ parts) inv good =
    (of_lists this h m part inv, each_part this h (run_part m part) parts (part_stays m part inv good.0) good.1)

-- what holds of lists of each part leads to what holds of them too
then_of_lists : (this that : Timed → List (List Record) → Type 0) → ((m : Timed) (lists : List (List Record)) → this m lists → that m lists)
    → (m : Timed) (part : Part) → OfLists this m part → OfLists that m part
then_of_lists this that h m (Handed lists) t = h m lists t
then_of_lists this that h m (TakenBack undos) t = tt

pub each_then : (this that : Timed → List (List Record) → Type 0) → ((m : Timed) (lists : List (List Record)) → this m lists → that m lists)
    → (m : Timed) (parts : List Part) → EachPart (OfLists this) m parts → EachPart (OfLists that) m parts
each_then this that h m [] t = tt
each_then this that h m (part ∷ parts) t = (then_of_lists this that h m part t.0, each_then this that h (run_part m part) parts t.1)

part_calm : (m : Timed) (part : Part) → IsMachine m → IsGood m part → IsCalm m → OfLists AreRight m part → StaysCalm m (run_part m part)
part_calm m (Handed lists) inv good calm right = run_calm m lists inv calm right
part_calm m (TakenBack undos) inv good calm right = undone_all_calm m undos inv good calm

-- where each list is right for its machine nothing is flushed
pub parts_calm : (m : Timed) (parts : List Part) → IsMachine m → EachPart IsGood m parts → IsCalm m → EachPart (OfLists AreRight) m parts → StaysCalm m (run_parts m parts)
parts_calm m [] inv good calm right = record { calm = calm; log = refl }
parts_calm m (part ∷ parts) inv good calm right =
    let one : StaysCalm m (run_part m part) = part_calm m part inv good.0 calm right.0 in
    StaysCalm-then m (run_part m part) (run_parts (run_part m part) parts) one (parts_calm (run_part m part) parts (part_stays m part inv good.0) good.1 one.calm right.1)

-- ---- a core whose lists follow a rule

module _ {C : Type 0} (gives : Meaning C) (rule : Timed → List Record)
    (is_rule : (m : Timed) (before : C) (list : List Record) (after : C) → gives before (told_of m) m.arch list after → list ≡ rule m) where
  leg_rule : (m : Timed) (core : C) (leg : Leg C) → IsLeg gives m core leg → OfLists (FollowRule rule) m (part_of leg)
  leg_rule m core (Turned history) h = IsHistory-rule gives rule is_rule m core history (run_of m (lists_of history)) (core_behind core history) h
  leg_rule m core (WentBack undos) h = tt

  pub AreLegs-rule : (m : Timed) (core : C) (legs : List (Leg C)) (last : Timed) (final : C)
      → AreLegs gives m core legs last final → EachPart (OfLists (FollowRule rule)) m (map part_of legs)
  AreLegs-rule m core [] last final h = tt
  AreLegs-rule m core (leg ∷ legs) last final h =
      (leg_rule m core leg h.0, AreLegs-rule (run_part m (part_of leg)) (core_after core leg) legs last final h.1)

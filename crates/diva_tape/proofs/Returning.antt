-- Legs of the core `Scalar`: turns, between which instructions are taken back.
use Rattle.std.proofs.Common.{List, [], ◌∷◌, map, refl, sym, subst, arith}
use Rattle.diva_isa.specs.declared.record.Record.{Record}
use Rattle.diva_isa.specs.declared.undo.Undo.{Undo}
use Rattle.diva_core.specs.Timed.{Timed, epoch_of}
use Rattle.diva_core.specs.Cycle.{cycle_of, run_of}
use Rattle.diva_core.specs.History.{FollowRule, IsHistory, lists_of}
use Rattle.diva_core.specs.Legs.{AreLegs, EachPart, IsLeg, Leg, OfLists, Turned, WentBack, core_after, core_behind, part_of, run_part}
use Rattle.diva_core.specs.Machine.{IsMachine}
use Rattle.diva_core.specs.Right.{AreRight}
use Rattle.diva_core.specs.Undone.{CanUndoAll, undone, undone_all}
use Rattle.diva_core.proofs.Keeping.{stays}
use Rattle.diva_core.proofs.Legging.{each_then}
use Rattle.diva_ahead.specs.Ahead.{Ahead}
use Rattle.diva_tape.specs.Scalar.{IsPast, IsScalarCall, MayLead, scalar_list}
use Rattle.diva_tape.proofs.Following.{Stands, Turn, leads_after_undo, past_more, stands_by, stays_past, turn}
use Rattle.diva_tape.proofs.Righting.{rule_right_by, scalar_right}

-- the core stands at a machine so that it is right, and again where an instruction is taken back
record GoesOn (m : Timed) (ahead : Ahead) : Type 0 where
  machine : IsMachine m
  stands : Stands m ahead
  past : IsPast ahead m

history_goes_on : (history : List (List Record × Ahead)) (m : Timed) (ahead : Ahead) (last : Timed) (final : Ahead)
    → GoesOn m ahead → IsHistory IsScalarCall m ahead history last final
    → FollowRule scalar_list m (lists_of history) × GoesOn last final
history_goes_on [] m ahead last final goes h = (tt, subst (λ (n : Timed). GoesOn n final) (sym h.0) (subst (λ (c : Ahead). GoesOn m c) (sym h.1) goes))
history_goes_on (one ∷ rest) m ahead last final goes h =
    let t : Turn m one.0 one.1 = turn m ahead one.0 one.1 goes.machine h.0 goes.stands h.1.0 in
    let next : GoesOn (cycle_of m one.0) one.1 =
    record { machine = stays m one.0 goes.machine; stands = t.stands; past = stays_past m ahead one.1 one.0 one.0 goes.machine goes.past h.1.0 } in
    let more = history_goes_on rest (cycle_of m one.0) one.1 last final next h.1.1 in
    ((t.rule, more.0), more.1)

undone_past : (m : Timed) (ahead : Ahead) (u : Undo) → IsPast ahead m → IsPast ahead (undone m u)
unfolding undone
undone_past m ahead u past = past_more ahead.epoch (epoch_of m) (epoch_of (undone m u)) (omega arith) past

undone_goes_on : (undos : List Undo) (m : Timed) (ahead : Ahead) → GoesOn m ahead → CanUndoAll m undos → GoesOn (undone_all m undos) ahead
undone_goes_on [] m ahead goes can = goes
undone_goes_on (u ∷ undos) m ahead goes can =
    let may : MayLead (undone m u) ahead = leads_after_undo m ahead u goes.machine can.0 goes.past in
    undone_goes_on undos (undone m u) ahead
    (record { machine = may.machine; stands = stands_by (undone m u).under.solo (undone m u) ahead refl may; past = undone_past m ahead u goes.past })
    can.1

leg_goes_on : (leg : Leg Ahead) (m : Timed) (ahead : Ahead) → GoesOn m ahead → IsLeg IsScalarCall m ahead leg
    → OfLists (FollowRule scalar_list) m (part_of leg) × GoesOn (run_part m (part_of leg)) (core_after ahead leg)
leg_goes_on (Turned history) m ahead goes h = history_goes_on history m ahead (run_of m (lists_of history)) (core_behind ahead history) goes h
leg_goes_on (WentBack undos) m ahead goes h = (tt, undone_goes_on undos m ahead goes h)

legs_follow : (legs : List (Leg Ahead)) (m : Timed) (ahead : Ahead) (last : Timed) (final : Ahead)
    → GoesOn m ahead → AreLegs IsScalarCall m ahead legs last final → EachPart (OfLists (FollowRule scalar_list)) m (map part_of legs)
legs_follow [] m ahead last final goes h = tt
legs_follow (leg ∷ legs) m ahead last final goes h =
    let one = leg_goes_on leg m ahead goes h.0 in
    (one.0, legs_follow legs (run_part m (part_of leg)) (core_after ahead leg) last final one.1 h.1)

pub scalar_legs : (m last : Timed) (before after : Ahead) (legs : List (Leg Ahead)) → MayLead m before → IsPast before m
    → AreLegs IsScalarCall m before legs last after → EachPart (OfLists (FollowRule scalar_list)) m (map part_of legs)
scalar_legs m last before after legs may past h =
    legs_follow legs m before last after (record { machine = may.machine; stands = stands_by m.under.solo m before refl may; past = past }) h

pub scalar_legs_right : (m last : Timed) (before after : Ahead) (legs : List (Leg Ahead)) → MayLead m before → IsPast before m
    → AreLegs IsScalarCall m before legs last after → EachPart (OfLists AreRight) m (map part_of legs)
scalar_legs_right m last before after legs may past h =
    each_then (FollowRule scalar_list) AreRight (rule_right_by scalar_list scalar_right) m (map part_of legs) (scalar_legs m last before after legs may past h)

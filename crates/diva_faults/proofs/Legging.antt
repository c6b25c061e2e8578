-- Legs of a core under a script, seen as legs of the core that was lent.
use Rattle.std.proofs.Common.{◌≡◌, List, [], ◌∷◌, map, refl, sym, ◌∙◌, ap, subst}
use Rattle.diva_core.specs.Cycle.{run_of}
use Rattle.diva_core.specs.History.{Meaning, lists_of}
use Rattle.diva_core.specs.Legs.{AreLegs, Handed, IsLeg, Leg, Part, Turned, WentBack, core_after, core_behind, part_of, run_part}
use Rattle.diva_core.specs.Timed.{Timed}
use Rattle.diva_core.proofs.Legging.{IsHistory-core, IsLeg-history}
use Rattle.diva_faults.specs.declared.rows.Row.{Row}
use Rattle.diva_faults.specs.declared.faulty.Faulty.{Faulty}
use Rattle.diva_faults.specs.Spoiled.{spoiled, spoiled_call, inside, lent_name, rows_in}
use Rattle.diva_faults.proofs.Spoiling.{IsLedWithin, IsOver, IsHistory-within, Keeps, none-spoiled, one_call, spoiled-none}

-- legs with these parts
pub record LegsWith {C : Type 0} (gives : Meaning C) (m : Timed) (core : C) (last : Timed) (final : C) (parts : List Part) : Type 0 where
  pub legs : List (Leg C)
  pub good : AreLegs gives m core legs last final
  pub same : map part_of legs ≡ parts

module _ {A B : Type 0} (outer : Meaning A) (inner : Meaning B) (within : A → B) (Keeps : A → Type 0) (over : IsOver outer inner within Keeps) where
  -- a leg of the outer core is one of the inner core, with the same part
  record LegWithin (m : Timed) (before : A) (of : Leg A) : Type 0 where
    leg : Leg B
    good : IsLeg inner m (within before) leg
    same : part_of leg ≡ part_of of
    core : core_after (within before) leg ≡ within (core_after before of)
    keeps : Keeps (core_after before of)

  leg_within : (m : Timed) (before : A) (of : Leg A) → Keeps before → IsLeg outer m before of → LegWithin m before of
  leg_within m before (Turned history) keeps h =
      let led : IsLedWithin inner within Keeps m before history (run_of m (lists_of history)) (core_behind before history) =
      IsHistory-within outer inner within Keeps over m before history (run_of m (lists_of history)) (core_behind before history) keeps h in
      record {
        leg = Turned led.turns;
        good = IsLeg-history inner m (within before) led.turns (run_of m (lists_of history)) (within (core_behind before history)) led.good;
        same = ap Handed led.same;
        core = sym (IsHistory-core inner m (within before) led.turns (run_of m (lists_of history)) (within (core_behind before history)) led.good);
        keeps = led.keeps;
      }
  leg_within m before (WentBack undos) keeps h = record { leg = WentBack undos; good = h; same = refl; core = refl; keeps = keeps }

  record AreWithin (m : Timed) (before : A) (of : List (Leg A)) (last : Timed) (final : A) : Type 0 where
    legs : List (Leg B)
    good : AreLegs inner m (within before) legs last (within final)
    same : map part_of legs ≡ map part_of of
    keeps : Keeps final

  legs_within : (m : Timed) (before : A) (of : List (Leg A)) (last : Timed) (final : A) → Keeps before → AreLegs outer m before of last final
      → AreWithin m before of last final
  legs_within m before [] last final keeps h =
      record { legs = []; good = (h.0, ap within h.1); same = refl; keeps = subst Keeps (sym h.1) keeps }
  legs_within m before (leg ∷ of) last final keeps h =
      let one : LegWithin m before leg = leg_within m before leg keeps h.0 in
      let more : AreWithin (run_part m (part_of leg)) (core_after before leg) of last final =
      legs_within (run_part m (part_of leg)) (core_after before leg) of last final one.keeps h.1 in
      record {
        legs = one.leg ∷ more.legs;
        good = (
          one.good,
          subst (λ c. AreLegs inner (run_part m (part_of one.leg)) c more.legs last (within final)) (sym one.core)
              (subst (λ (p : Part). AreLegs inner (run_part m p) (within (core_after before leg)) more.legs last (within final)) (sym one.same) more.good),
        );
        same = ap (λ (p : Part). p ∷ map part_of more.legs) one.same ∙ ap (λ (parts : List Part). part_of leg ∷ parts) more.same;
        keeps = more.keeps;
      }

-- the legs of a core under a script, told of the core that was lent: `after` is what its owner has where the loan is over
pub legs_spoiled :
    {C : Type 0} (gives : Meaning C) (rows : List Row) (m : Timed) (core : C) (f : Faulty C) (legs : List (Leg (Faulty C))) (last : Timed) (final : Faulty C) (after : C)
    → inside f ≡ core
    → rows_in f ≡ rows
    → (lent_name f ≡ lent_name final → after ≡ inside final)
    → AreLegs (spoiled_call gives) m f legs last final
    → LegsWith (spoiled rows gives) m core last after (map part_of legs)
legs_spoiled {C} gives rows m core f legs last final after lent script ends h =
    let w : AreWithin (spoiled_call gives) (spoiled rows gives) inside (Keeps rows (lent_name f)) (record { call = one_call gives rows (lent_name f) }) m f legs last final =
    legs_within (spoiled_call gives) (spoiled rows gives) inside (Keeps rows (lent_name f)) (record { call = one_call gives rows (lent_name f) }) m f legs last final (record { script = script; core = refl }) h in
    rw (← lent, ends (sym w.keeps.core)) (record { legs = w.legs; good = w.good; same = w.same })

-- without rows, the legs of a core are its legs under the script
pub legs_none : {C : Type 0} (gives : Meaning C) (m : Timed) (core : C) (legs : List (Leg C)) (last : Timed) (after : C) → AreLegs gives m core legs last after
    → LegsWith (spoiled [] gives) m core last after (map part_of legs)
legs_none {C} gives m core legs last after h =
    let within : C → C = λ c. c in
    let always : C → Type 0 = λ c. Unit {0} in
    let over : IsOver gives (spoiled [] gives) within always = record { call = λ before told s list after k g. (tt, spoiled-none gives before told s list after g) } in
    let w : AreWithin gives (spoiled [] gives) within always over m core legs last after = legs_within gives (spoiled [] gives) within always over m core legs last after tt h in
    record { legs = w.legs; good = w.good; same = w.same }

-- legs of a core under a script without rows are legs of the core
pub legs_unspoiled : {C : Type 0} (gives : Meaning C) (m : Timed) (core : C) (legs : List (Leg C)) (last : Timed) (after : C) → AreLegs (spoiled [] gives) m core legs last after
    → LegsWith gives m core last after (map part_of legs)
legs_unspoiled {C} gives m core legs last after h =
    let within : C → C = λ c. c in
    let always : C → Type 0 = λ c. Unit {0} in
    let over : IsOver (spoiled [] gives) gives within always = record { call = λ before told s list after k g. (tt, none-spoiled gives before told s list after g) } in
    let w : AreWithin (spoiled [] gives) gives within always over m core legs last after = legs_within (spoiled [] gives) gives within always over m core legs last after tt h in
    record { legs = w.legs; good = w.good; same = w.same }

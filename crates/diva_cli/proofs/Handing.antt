-- Legs of a core under a script, and legs as parts that are handed to a machine.
use Rattle.diva_outside.specs.Lent.{lent}
use Rattle.diva_outside.specs.Sink.{SinkAccount}
use Rattle.diva_machine.specs.Asked.{asked_over}
use Rattle.diva_vote.specs.Questions.{Question}
use Rattle.std.proofs.Common.{◌≡◌, ◌↔◌, ℕ, ◌+◌, ◌≤◌, ◌==◌, true, false, List, [], ◌∷◌, Ok, refl, sym, ◌∙◌, ap, subst, arith, length, length-append, map}
use Rattle.std.proofs.lemmas.Bool.{true≢false}
use Rattle.std.proofs.lemmas.Bool.Decides.{nat_tests}
use Rattle.diva_isa.specs.State.{goes_on}
use Rattle.diva_isa.specs.declared.record.Record.{Record}
use Rattle.diva_core.specs.Told.{told_of}
use Rattle.diva_core.specs.Timed.{Timed}
use Rattle.diva_core.specs.Cycle.{run_of}
use Rattle.diva_core.specs.History.{Meaning, IsHistory, Turns, lists_of}
use Rattle.diva_core.specs.Legs.{AreLegs, Handed, Leg, Part, TakenBack, Turned, WentBack, handed_in, part_of}
use Rattle.diva_core.proofs.Legging.{AreLegs-rule, AreLegs-run, IsHistory-core, IsLeg-history}
use Rattle.diva_core.proofs.Turning.{IsHistory-run, length-lists_of}
use Rattle.diva_faults.specs.declared.faulty.Faulty.{Faulty}
use Rattle.diva_faults.specs.declared.rows.Row.{Row}
use Rattle.diva_faults.specs.Lists.{scripted}
use Rattle.diva_faults.specs.Spoiled.{spoiled, spoiled_call, inside, lent_name, rows_in}
use Rattle.diva_faults.proofs.Legging.{legs_none, legs_spoiled}
use Rattle.diva_tape.specs.Lists.{lockstep_list, silent_list, flood_list, echo_list}
use Rattle.diva_tape.specs.Noise.{noise_call}
use Rattle.diva_tape.specs.Scalar.{IsScalarCall}
use Rattle.diva_tape.specs.TapeCalls.{tape_call}
use Rattle.diva_hart.specs.declared.ends.Drive.{Drive}
use Rattle.diva_hart.specs.declared.ends.Drive.TheVariants.{Ended, Budget}
use Rattle.diva_cli.specs.declared.driving.CoreInUse.{CoreInUse}
use Rattle.diva_cli.specs.declared.driving.CoreInUse.TheVariants.{Own, Lockstep, Scalar, Silent, Flood, Echo, Noise, Tape as OfTape}
use Rattle.diva_cli.specs.Changes.{Change, change}
use Rattle.diva_cli.specs.Driven.{ByLegs, ByOther, ByRule, scripted_rule}
use Rattle.diva_cli.specs.Runs.{ByTurns, LegsAreTurns}
use Rattle.diva_cli.specs.Tasks.{DrivesFor, IsQuiet, Plays}
use Rattle.diva_cli.specs.Ready.{AreHandedBy, IsOnePart, PlaysBy}

-- ---- under a script

is_zero : (n : ℕ) → true ≡ (n == 0) → n ≡ 0
is_zero n e = grind (arith, nat_tests)

-- a list that has no rows is the empty one
pub no_rows : (rows script : List Row) → rows ≡ script → true ≡ (length rows == 0) → script ≡ []
no_rows [] script same none = sym same
no_rows (row ∷ rows) script same none = absurd (let n = is_zero (length (row ∷ rows)) none in omega arith)

-- legs of a core are its legs under a script that has no rows
pub plays_none :
    {D : Type 0} (gives : Meaning D) (script : List Row) (m : Timed) (core : D) (last : Timed) (after : D) (this : List Part → Type 0)
    → script ≡ []
    → Plays gives (change m last) (change core after) this
    → Plays (spoiled script gives) (change m last) (change core after) this
plays_none gives script m core last after this none p =
    let l = legs_none gives m core p.legs last after p.good in
    rw none (record {
      legs = l.legs;
      good = l.good;
      each = subst (λ (parts : List Part). last.cycles ≡ m.cycles + length (handed_in parts)) (sym l.same) p.each;
      done = subst this (sym l.same) p.done;
    })

-- legs of a core over the one that was lent to it
pub plays_faulty :
    {D : Type 0} (gives : Meaning D) (script : List Row) (m : Timed) (core : D) (f : Faulty D) (last : Timed) (final : Faulty D) (after : D) (this : List Part → Type 0)
    → inside f ≡ core
    → rows_in f ≡ script
    → (lent_name f ≡ lent_name final → after ≡ inside final)
    → Plays (spoiled_call gives) (change m last) (change f final) this
    → Plays (spoiled script gives) (change m last) (change core after) this
plays_faulty gives script m core f last final after this lent rows ends p =
    let l = legs_spoiled gives script m core f p.legs last final after lent rows ends p.good in
    record {
      legs = l.legs;
      good = l.good;
      each = subst (λ (parts : List Part). last.cycles ≡ m.cycles + length (handed_in parts)) (sym l.same) p.each;
      done = subst this (sym l.same) p.done;
    }

-- what holds of the parts can be said otherwise
pub plays_so :
    {D : Type 0} (gives : Meaning D) (m : Timed) (core : D) (last : Timed) (after : D) (this that : List Part → Type 0)
    → ((parts : List Part) → this parts → that parts)
    → Plays gives (change m last) (change core after) this
    → Plays gives (change m last) (change core after) that
plays_so gives m core last after this that so p = record { legs = p.legs; good = p.good; each = p.each; done = so _ p.done }

-- ---- turns are legs of one part

one_leg_good : {D : Type 0} (gives : Meaning D) (m last : Timed) (core after : D) (t : Turns gives m core last after)
    → AreLegs gives m core (Turned t.history ∷ []) last after
one_leg_good gives m last core after t =
    (IsLeg-history gives m core t.history last after t.good, (IsHistory-run gives m core t.history last after t.good, IsHistory-core gives m core t.history last after t.good))

pub one_leg : {D : Type 0} (gives : Meaning D) (m last : Timed) (core after : D) (t : Turns gives m core last after)
    → ByLegs gives (change m last) (change core after) (Handed (lists_of t.history) ∷ [])
one_leg gives m last core after t = record { legs = Turned t.history ∷ []; good = one_leg_good gives m last core after t; in_order = refl }

pub plays_turns :
    {D : Type 0} (gives : Meaning D) (m : Timed) (core : D) (last : Timed) (after : D) (this : List (List Record) → Type 0)
    (t : Turns gives m core last after)
    → this (lists_of t.history)
    → Plays gives (change m last) (change core after) (IsOnePart this)
plays_turns gives m core last after this t done =
    record {
      legs = Turned t.history ∷ [];
      good = one_leg_good gives m last core after t;
      each = (let e = t.each in let l = length-lists_of t.history in let a = length-append (lists_of t.history) [] in omega arith);
      done = record { lists = lists_of t.history; one = refl; done = done };
    }

-- legs of one part are turns
pub one_leg_turns : {C : Type 0} (gives : Meaning C) (m last : Timed) (core after : C) (lists : List (List Record)) (legs : List (Leg C))
    → AreLegs gives m core legs last after → Handed lists ∷ [] ≡ map part_of legs → ByTurns gives (change m last) (change core after) lists
one_leg_turns gives m last core after lists [] good same = absurd (cc)
one_leg_turns gives m last core after lists (WentBack undos ∷ legs) good same = absurd (let e : Handed lists ∷ [] ≡ TakenBack undos ∷ map part_of legs = same in cc)
one_leg_turns gives m last core after lists (Turned history ∷ leg ∷ legs) good same =
    absurd (let e : Handed lists ∷ [] ≡ Handed (lists_of history) ∷ part_of leg ∷ map part_of legs = same in cc)
one_leg_turns gives m last core after lists (Turned history ∷ []) good same =
    record {
      history = history;
      good = subst (λ (n : Timed). IsHistory gives m core history n after) (sym good.1.0)
          (subst (λ c. IsHistory gives m core history (run_of m (lists_of history)) c) (sym good.1.1) good.0);
      in_order = (let e : Handed lists ∷ [] ≡ Handed (lists_of history) ∷ [] = same in cc);
    }

pub legs_are_turns : {C : Type 0} (gives : Meaning C) → LegsAreTurns gives
legs_are_turns gives script machine core lists by =
    one_leg_turns (spoiled script gives) machine.before machine.after core.before core.after lists by.legs by.good by.in_order

-- ---- a drive of which nothing is written

-- what a drive answers of how it ended
pub drives_for :
    {D : Type 0} (gives : Meaning D) (m : Timed) (core : D) (last : Timed) (after : D) (budget : ℕ) (r : Drive) (this : List Question → Type 0)
    (t : Turns gives m core last after)
    → this (asked_over m (lists_of t.history))
    → last.cycles ≤ m.cycles + budget
    → (r ≡ Ended) ↔ (goes_on last.arch ≡ false)
    → (r ≡ Budget) ↔ ((last.cycles ≡ m.cycles + budget) × (goes_on last.arch ≡ true))
    → DrivesFor gives budget (change m last) (change core after) this
drives_for gives m core last after budget Ended this t asked most ends runs = record { turns = t; asked = asked; most = most; whole = λ on. absurd (true≢false (sym on ∙ ends.0 refl)) }
drives_for gives m core last after budget Budget this t asked most ends runs = record { turns = t; asked = asked; most = most; whole = λ on. (runs.0 refl).0 }

pub plays_quiet :
    {D S : Type 0} (gives : Meaning D) (budget : ℕ) (m : Timed) (core : D) (last : Timed) (after : D) (account : S → SinkAccount) (s : S) (this : List Question → Type 0)
    → DrivesFor gives budget (change m last) (change core after) this
    → Plays gives (change m last) (change core after) (IsOnePart (λ lists. IsQuiet budget (change m last) lists (lent account s s) (Ok tt) × this (asked_over m lists)))
plays_quiet gives budget m core last after account s this d =
    let l = length-lists_of d.turns.history in
    plays_turns gives m core last after _ d.turns (
      record {
        most = (let e = d.turns.each in let w = d.most in omega arith);
        whole = λ on. (let e = d.turns.each in let w = d.whole on in omega arith);
        never_fails = refl;
        unput = refl;
      },
      d.asked,
    )

-- ---- a line for each core

module _ {C D : Type 0} (gives : Meaning C) (its : Meaning D) (script : List Row) (m last : Timed) (core : C) (first final : D) (this : List Part → Type 0) (p : Plays (spoiled script its) (change m last) (change first final) this) where
  plays_by : (used : CoreInUse) (after : C) → AreHandedBy gives used script (change m last) (change core after) (map part_of p.legs) → PlaysBy gives used script (change m last) (change core after) this
  plays_by used after handed =
      record {
        parts = map part_of p.legs;
        ran = AreLegs-run (spoiled script its) m first p.legs last final p.good;
        each = p.each;
        handed = handed;
        done = p.done;
      }

  -- a core whose lists follow a rule
  pub plays_rule : (used : CoreInUse) (rule : Timed → List Record)
      → (ByRule (scripted_rule script rule) m (change core core) (map part_of p.legs) → AreHandedBy gives used script (change m last) (change core core) (map part_of p.legs))
      → ((n : Timed) (before : D) (list : List Record) (after : D) → its before (told_of n) n.arch list after → list ≡ rule n)
      → PlaysBy gives used script (change m last) (change core core) this
  plays_rule used rule line is_rule =
      plays_by used core
      (line (record {
        follows = AreLegs-rule (spoiled script its) (scripted_rule script rule)
            (λ n before list after h. h.laid ∙ ap (scripted script (n.cycles + 1)) (is_rule n before h.inner after h.given))
            m first p.legs last final p.good;
        same = refl;
      }))

  -- another core
  pub plays_other : (used : CoreInUse)
      → (ByOther its first script (change m last) (change core core) (map part_of p.legs) → AreHandedBy gives used script (change m last) (change core core) (map part_of p.legs))
      → PlaysBy gives used script (change m last) (change core core) this
  plays_other used line = plays_by used core (line (record { final = final; by = record { legs = p.legs; good = p.good; in_order = refl }; same = refl }))

pub plays_own :
    {C : Type 0} (gives : Meaning C) (script : List Row) (m last : Timed) (core after : C) (this : List Part → Type 0)
    → Plays (spoiled script gives) (change m last) (change core after) this
    → PlaysBy gives Own script (change m last) (change core after) this
plays_own gives script m last core after this p =
    plays_by gives gives script m last core core after this p Own after (record { legs = p.legs; good = p.good; in_order = refl })

-- no turn was taken
pub unplayed : {C : Type 0} (gives : Meaning C) (used : CoreInUse) (script : List Row) (m : Timed) (core : C) (this : List (List Record) → Type 0) → this []
    → PlaysBy gives used script (change m m) (change core core) (IsOnePart this)
unplayed {C} gives used script m core this done =
    record { parts = Handed [] ∷ []; ran = refl; each = omega arith; handed = handed used; done = record { lists = []; one = refl; done = done } }
  where
    none : {D : Type 0} (its : Meaning D) (first : D) → ByLegs its (change m m) (change first first) (Handed [] ∷ [])
    none its first = one_leg its m m first first (record { history = []; good = (refl, refl); each = omega arith })

    ruled : (rule : Timed → List Record) → ByRule rule m (change core core) (Handed [] ∷ [])
    ruled rule = record { follows = (tt, tt); same = refl }

    other : {D : Type 0} (its : Meaning D) (first : D) → ByOther its first script (change m m) (change core core) (Handed [] ∷ [])
    other its first = record { final = first; by = none (spoiled script its) first; same = refl }

    handed : (u : CoreInUse) → AreHandedBy gives u script (change m m) (change core core) (Handed [] ∷ [])
    handed Own = none (spoiled script gives) core
    handed Lockstep = ruled (scripted_rule script lockstep_list)
    handed (Scalar first) = other IsScalarCall first
    handed Silent = ruled (scripted_rule script silent_list)
    handed Flood = ruled (scripted_rule script flood_list)
    handed Echo = ruled (scripted_rule script echo_list)
    handed (Noise first) = other noise_call first
    handed (OfTape tape) = other tape_call tape

-- what holds of the lists of one part can be said otherwise
pub plays_by_so :
    {C : Type 0} (gives : Meaning C) (used : CoreInUse) (script : List Row) (machine : Change Timed) (core : Change C) (this that : List (List Record) → Type 0)
    → ((lists : List (List Record)) → this lists → that lists)
    → PlaysBy gives used script machine core (IsOnePart this)
    → PlaysBy gives used script machine core (IsOnePart that)
plays_by_so gives used script machine core this that so p =
    record { parts = p.parts; ran = p.ran; each = p.each; handed = p.handed; done = record { lists = p.done.lists; one = p.done.one; done = so p.done.lists p.done.done } }

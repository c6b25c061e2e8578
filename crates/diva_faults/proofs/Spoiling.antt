-- Turns of a core under a script, seen as turns of the core that was lent.
use Rattle.std.proofs.Common.{◌≡◌, ℕ, ◌+◌, ◌<◌, ◌≤◌, List, [], ◌∷◌, length, refl, sym, ◌∙◌, ap, subst, arith}
use Rattle.diva_isa.specs.State.{State}
use Rattle.diva_isa.specs.declared.record.Record.{Record}
use Rattle.diva_core.specs.Cycle.{cycle_of}
use Rattle.diva_core.specs.History.{Meaning, IsHistory, Turns, lists_of}
use Rattle.diva_core.specs.Machine.{IsMachine}
use Rattle.diva_core.specs.Timed.{Timed}
use Rattle.diva_core.specs.Told.{Told, told_of}
use Rattle.diva_core.proofs.Keeping.{stays}
use Rattle.diva_core.proofs.Outcomes.{cycle-cycles}
use Rattle.diva_faults.specs.declared.rows.Row.{Row}
use Rattle.diva_faults.specs.declared.faulty.Faulty.{Faulty}
use Rattle.diva_faults.specs.Lists.{scripted}
use Rattle.diva_faults.specs.Spoiled.{spoiled, spoiled_call, inside, lent_name, rows_in}

-- ---- no rows

pub scripted-none : (now : ℕ) (list : List Record) → scripted [] now list ≡ list
unfolding scripted
scripted-none now list = refl

module _ {C : Type 0} (gives : Meaning C) (before : C) (told : Told) (s : State) (list : List Record) (after : C) where
  pub spoiled-none : gives before told s list after → spoiled [] gives before told s list after
  spoiled-none given = record { inner = list; given = given; laid = sym (scripted-none told.cycle list) }

  pub none-spoiled : spoiled [] gives before told s list after → gives before told s list after
  none-spoiled h =
      let P : List Record → Type 0 = λ l. gives before told s l after in
      subst P (sym (h.laid ∙ scripted-none told.cycle h.inner)) h.given

-- ---- cycles that no row touches

-- a history of a core in cycles in which the rows change nothing is a history of the core under the script
pub history-untouched : {C : Type 0} (gives : Meaning C) (rows : List Row) (m : Timed) (core : C) (history : List (List Record × C)) (last : Timed) (after : C)
    → IsMachine m
    → ((now : ℕ) (list : List Record) → m.cycles < now → now ≤ m.cycles + length history → scripted rows now list ≡ list)
    → IsHistory gives m core history last after → IsHistory (spoiled rows gives) m core history last after
history-untouched gives rows m core [] last after inv untouched h = h
history-untouched gives rows m core (turn ∷ rest) last after inv untouched h =
    let next : (cycle_of m turn.0).cycles ≡ m.cycles + 1 = cycle-cycles m turn.0 inv h.0 in
    let one : spoiled rows gives core (told_of m) m.arch turn.0 turn.1 =
    record { inner = turn.0; given = h.1.0; laid = sym (untouched (m.cycles + 1) turn.0 (omega arith) (omega arith)) } in
    let more : IsHistory (spoiled rows gives) (cycle_of m turn.0) turn.1 rest last after =
    history-untouched gives rows (cycle_of m turn.0) turn.1 rest last after (stays m turn.0 inv)
    (λ now list later within. untouched now list (omega arith) (omega arith)) h.1.1 in
    (h.0, (one, more))

-- so turns of a core in such cycles are its turns under the script
unfoldable pub Turns-untouched : {C : Type 0} (gives : Meaning C) (rows : List Row) (m : Timed) (core : C) (last : Timed) (after : C)
    → IsMachine m
    → ((now : ℕ) (list : List Record) → m.cycles < now → now ≤ last.cycles → scripted rows now list ≡ list)
    → Turns gives m core last after → Turns (spoiled rows gives) m core last after
Turns-untouched gives rows m core last after inv untouched t =
    record {
      history = t.history;
      good = history-untouched gives rows m core t.history last after inv (λ now list later within. untouched now list later (let e = t.each in omega arith)) t.good;
      each = t.each;
    }

-- ---- logs of a core that has another one inside

-- each call of the outer core is one of the inner core, where the outer core keeps a fact
pub record IsOver {A B : Type 0} (outer : Meaning A) (inner : Meaning B) (within : A → B) (Keeps : A → Type 0) : Type 0 where
  pub call : (before : A) (told : Told) (s : State) (list : List Record) (after : A) → Keeps before → outer before told s list after
      → Keeps after × inner (within before) told s list (within after)

-- what a history of the outer core gives: a history of the inner core with the same lists
pub record IsLedWithin {A B : Type 0} (inner : Meaning B) (within : A → B) (Keeps : A → Type 0) (m : Timed) (core : A) (history : List (List Record × A)) (last : Timed) (final : A) : Type 0 where
  pub turns : List (List Record × B)
  pub good : IsHistory inner m (within core) turns last (within final)
  pub many : length turns ≡ length history
  pub same : lists_of turns ≡ lists_of history
  pub keeps : Keeps final

-- turns in which these lists were handed over
pub record TurnsWith {C : Type 0} (gives : Meaning C) (m : Timed) (core : C) (last : Timed) (final : C) (lists : List (List Record)) : Type 0 where
  pub turns : Turns gives m core last final
  pub same : lists_of turns.history ≡ lists

module _ {A B : Type 0} (outer : Meaning A) (inner : Meaning B) (within : A → B) (Keeps : A → Type 0) (over : IsOver outer inner within Keeps) where
  pub IsHistory-within : (m : Timed) (core : A) (history : List (List Record × A)) (last : Timed) (final : A)
      → Keeps core → IsHistory outer m core history last final
      → IsLedWithin inner within Keeps m core history last final
  IsHistory-within m core [] last final keeps h =
      record { turns = []; good = (h.0, ap within h.1); many = refl; same = refl; keeps = subst Keeps (sym h.1) keeps }
  IsHistory-within m core (turn ∷ rest) last final keeps h =
      let one : Keeps turn.1 × inner (within core) (told_of m) m.arch turn.0 (within turn.1) = over.call core (told_of m) m.arch turn.0 turn.1 keeps h.1.0 in
      let more : IsLedWithin inner within Keeps (cycle_of m turn.0) turn.1 rest last final = IsHistory-within (cycle_of m turn.0) turn.1 rest last final one.0 h.1.1 in
      record {
        turns = (turn.0, within turn.1) ∷ more.turns;
        good = (h.0, (one.1, more.good));
        many = (let e = more.many in omega arith);
        same = ap (λ (lists : List (List Record)). turn.0 ∷ lists) more.same;
        keeps = more.keeps;
      }

  -- the turns of the outer core are turns of the inner core, with the same lists
  pub Turns-within : (m : Timed) (core : A) (last : Timed) (final : A)
      → Keeps core → (t : Turns outer m core last final)
      → TurnsWith inner m (within core) last (within final) (lists_of t.history) × Keeps final
  Turns-within m core last final keeps t =
      let led = IsHistory-within m core t.history last final keeps t.good in (
        record {
          turns = record { history = led.turns; good = led.good; each = (let e = t.each in let f = led.many in omega arith) };
          same = led.same;
        },
        led.keeps,
      )

-- ---- a core under a script

-- what it keeps: the rows of its script, and the reference to the core that was lent
pub record Keeps {C : Type 0} (rows : List Row) (name : ℕ) (f : Faulty C) : Type 0 where
  pub script : rows_in f ≡ rows
  pub core : lent_name f ≡ name

pub one_call :
    {C : Type 0} (gives : Meaning C) (rows : List Row) (name : ℕ) (before : Faulty C) (told : Told) (s : State) (list : List Record) (after : Faulty C)
    → Keeps rows name before → spoiled_call gives before told s list after
    → Keeps rows name after × spoiled rows gives (inside before) told s list (inside after)
one_call gives rows name before told s list after keeps h = (
  record { script = h.same_script ∙ keeps.script; core = h.same_core ∙ keeps.core },
  record { inner = h.spoils.inner; given = h.spoils.given; laid = h.spoils.laid ∙ ap (λ rows. scripted rows told.cycle h.spoils.inner) keeps.script },
)

-- the turns of a core under a script, told of the core that was lent: `after` is what its owner has where the loan is over
pub Turns-spoiled :
    {C : Type 0} (gives : Meaning C) (rows : List Row) (m : Timed) (core : C) (f : Faulty C) (last : Timed) (final : Faulty C) (after : C)
    → inside f ≡ core
    → rows_in f ≡ rows
    → (lent_name f ≡ lent_name final → after ≡ inside final)
    → (t : Turns (spoiled_call gives) m f last final)
    → TurnsWith (spoiled rows gives) m core last after (lists_of t.history)
Turns-spoiled {C} gives rows m core f last final after lent script ends t =
    let w : TurnsWith (spoiled rows gives) m (inside f) last (inside final) (lists_of t.history) × Keeps rows (lent_name f) final =
    Turns-within (spoiled_call gives) (spoiled rows gives) inside (Keeps rows (lent_name f)) (record { call = one_call gives rows (lent_name f) }) m f last final (record { script = script; core = refl }) t in
    rw (← lent, ends (sym w.1.core)) w.0

-- without rows, the turns of a core are its turns under the script
pub Turns-none : {C : Type 0} (gives : Meaning C) (m : Timed) (core : C) (last : Timed) (after : C) → (t : Turns gives m core last after)
    → TurnsWith (spoiled [] gives) m core last after (lists_of t.history)
Turns-none gives m core last after t =
    (Turns-within gives (spoiled [] gives) (λ c. c) (λ _. Unit {0}) (record { call = λ before told s list after k h. (tt, spoiled-none gives before told s list after h) }) m core last after tt t).0

-- What turns leave, and what a drive promises of them.
use Rattle.std.proofs.Common.{◌≡◌, true, List, [], ◌∷◌, ◌++◌, ◌-◌, refl, ap, sym, ◌∙◌, subst, arith, length-append}
use Rattle.diva_isa.specs.State.{goes_on}
use Rattle.diva_isa.specs.declared.record.Record.{Record}
use Rattle.diva_core.specs.Timed.{Timed}
use Rattle.diva_core.specs.Cycle.{cycle_of}
use Rattle.diva_core.specs.Told.{told_of}
use Rattle.diva_core.specs.History.{Meaning, IsHistory, Turns, lists_of}
use Rattle.diva_core.specs.Machine.{IsMachine}
use Rattle.diva_core.specs.Headline.{committed_in, dues, last_committed}
use Rattle.diva_core.proofs.Outcomes.{cycle-cycles}
use Rattle.diva_core.proofs.Pacing.{turns-calm, turns-commit, turns-pace, turns-rise, turns-rows, turns-stay, will_count}
use Rattle.diva_core.proofs.Progressing.{has_pace}
use Rattle.diva_core.proofs.Turning.{IsHistory-more}
use Rattle.diva_machine.specs.Drives.{Drives}
use Rattle.diva_machine.specs.Inner.{TakesTurns}
use Rattle.diva_machine.specs.Machine.{Machine}
use Rattle.diva_machine.proofs.Counting.{IsHistory-then}

-- behind one cycle more, it is what that commits
pub last-more :
    {C : Type 0} (gives : Meaning C) (before : List Record) (m : Timed) (core : C) (history : List (List Record × C)) (mid : Timed) (between : C) (list : List Record) (after : C)
    → IsHistory gives m core history mid between
    → last_committed before m (lists_of (history ++ (list, after) ∷ [])) ≡ committed_in mid list
last-more gives before m core [] mid between list after h = rw h.0 refl
last-more gives before m core (turn ∷ rest) mid between list after h =
    last-more gives (committed_in m turn.0) (cycle_of m turn.0) turn.1 rest mid between list after h.1.1

-- behind cycles one after another
last-then :
    {C : Type 0} (gives : Meaning C) (before : List Record) (m : Timed) (core : C) (history : List (List Record × C)) (mid : Timed) (between : C) (more : List (List Record × C))
    → IsHistory gives m core history mid between
    → last_committed before m (lists_of (history ++ more)) ≡ last_committed (last_committed before m (lists_of history)) mid (lists_of more)
last-then gives before m core [] mid between more h = rw h.0 refl
last-then gives before m core (turn ∷ rest) mid between more h =
    last-then gives (committed_in m turn.0) (cycle_of m turn.0) turn.1 rest mid between more h.1.1

-- one turn more
unfoldable pub turns_more :
    {C : Type 0} (gives : Meaning C) (m : Timed) (core : C) (last : Timed) (final : C) (t : Turns gives m core last final)
    → IsMachine m → (list : List Record) (after : C) → goes_on last.arch ≡ true → gives final (told_of last) last.arch list after
    → Turns gives m core (cycle_of last list) after
turns_more gives m core last final t inv list after on asked =
    record {
      history = t.history ++ (list, after) ∷ [];
      good = IsHistory-more gives m core t.history last final list after t.good on asked;
      each = rw length-append (let e = t.each in let n = cycle-cycles last list (turns-stay gives m core last final inv t) on in omega arith);
    }

unfoldable pub no_turns : {C : Type 0} (gives : Meaning C) (m : Machine) (core : C) → TakesTurns gives m core m core
no_turns gives m core = record { turns = record { history = []; good = (refl, refl); each = omega arith }; shows = refl }

pub taken : {C : Type 0} (gives : Meaning C) (m : Machine) (core : C) (last : Machine) (final : C) → Drives gives m core last final → TakesTurns gives m core last final
taken gives m core last final d = record { turns = d.turns; shows = d.shows }

module _ {C : Type 0} (gives : Meaning C) (m : Machine) (core : C) (last : Machine) (final : C) (t : TakesTurns gives m core last final) where
  unfoldable pub drives : IsMachine m.timed → Drives gives m core last final
  drives inv = record {
    turns = t.turns;
    commits = turns-commit gives m.timed core last.timed final inv t.turns;
    shows = t.shows;
    rows = turns-rows gives m.timed core last.timed final inv t.turns;
    calm = turns-calm gives m.timed core last.timed final inv t.turns;
    rises = turns-rise gives m.timed core last.timed final inv t.turns;
    machine = turns-stay gives m.timed core last.timed final inv t.turns;
    pace = turns-pace gives m.timed core last.timed final inv t.turns;
    paced = has_pace _ (turns-stay gives m.timed core last.timed final inv t.turns);
    counts = will_count _ (turns-stay gives m.timed core last.timed final inv t.turns);
  }

  -- one turn more, to the machine that its cycle leaves
  unfoldable pub turn_more :
      IsMachine m.timed
      → (next : Machine) (list : List Record) (after : C)
      → goes_on last.timed.arch ≡ true
      → gives final (told_of last.timed) last.timed.arch list after
      → next.last ≡ dues ((cycle_of last.timed list).count - last.timed.count) last.timed.arch
      → TakesTurns gives m core (record next { timed = cycle_of last.timed list }) after
  unfolding turns_more
  turn_more inv next list after on asked committed =
      record {
        turns = turns_more gives m.timed core last.timed final t.turns inv list after on asked;
        shows = committed ∙ sym (last-more gives m.last m.timed core t.turns.history last.timed final list after t.turns.good);
      }

  pub next_turn :
      IsMachine m.timed
      → (next : Machine) (list : List Record) (after : C)
      → goes_on last.timed.arch ≡ true
      → gives final (told_of last.timed) last.timed.arch list after
      → next.timed ≡ cycle_of last.timed list
      → next.last ≡ dues (next.timed.count - last.timed.count) last.timed.arch
      → TakesTurns gives m core next after
  next_turn inv next list after on asked cycled committed =
      subst (λ (z : Timed). TakesTurns gives m core (record next { timed = z }) after) (sym cycled)
      (turn_more inv next list after on asked (committed ∙ ap (λ (z : Timed). dues (z.count - last.timed.count) last.timed.arch) cycled))

  -- turns one after another
  pub turns_then : (end : Machine) (after : C) → TakesTurns gives last final end after → TakesTurns gives m core end after
  turns_then end after u =
      record {
        turns = record {
          history = t.turns.history ++ u.turns.history;
          good = IsHistory-then gives m.timed core t.turns.history last.timed final u.turns.history end.timed after t.turns.good u.turns.good;
          each = rw length-append (let e = t.turns.each in let f = u.turns.each in omega arith);
        };
        shows = u.shows
            ∙ ap (λ (records : List Record). last_committed records last.timed (lists_of u.turns.history)) t.shows
            ∙ sym (last-then gives m.last m.timed core t.turns.history last.timed final u.turns.history t.turns.good);
      }

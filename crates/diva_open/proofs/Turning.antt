-- Turns of an open machine, one after another.
use Rattle.std.proofs.Common.{◌≡◌, List, [], ◌∷◌, ◌++◌, refl, true, false, arith, length-append}
use Rattle.diva_isa.specs.State.{goes_on}
use Rattle.diva_isa.specs.declared.record.Record.{Record}
use Rattle.diva_core.specs.Told.{told_of}
use Rattle.diva_core.specs.History.{Meaning}
use Rattle.diva_open.specs.Open.{Open, open_cycle_of}
use Rattle.diva_open.proofs.Phases.{cycle_cycles}
use Rattle.diva_open.specs.Turns.{IsOpenHistory, OpenTurns}

-- an ended machine stays
pub ended_stays : (o : Open) (list : List Record) → goes_on o.timed.arch ≡ false → open_cycle_of o list ≡ o
unfolding open_cycle_of
ended_stays o list off = rw off refl

pub IsOpenHistory-more :
    {C : Type 0} (gives : Meaning C) (o : Open) (core : C) (history : List (List Record × C)) (mid : Open) (between : C) (list : List Record) (after : C)
    → IsOpenHistory gives o core history mid between
    → goes_on mid.timed.arch ≡ true
    → gives between (told_of mid.timed) mid.timed.arch list after
    → IsOpenHistory gives o core (history ++ (list, after) ∷ []) (open_cycle_of mid list) after
IsOpenHistory-more gives o core [] mid between list after h on asked = rw (← h.0, ← h.1) (on, (asked, (refl, refl)))
IsOpenHistory-more gives o core (turn ∷ rest) mid between list after h on asked =
    (h.0, (h.1.0, IsOpenHistory-more gives (open_cycle_of o turn.0) turn.1 rest mid between list after h.1.1 on asked))

unfoldable pub no_turns : {C : Type 0} (gives : Meaning C) (o : Open) (core : C) → OpenTurns gives o core o core
no_turns gives o core = record { history = []; good = (refl, refl); each = omega arith }

-- one turn more
unfoldable pub turns_more :
    {C : Type 0} (gives : Meaning C) (o : Open) (core : C) (last : Open) (final : C) (t : OpenTurns gives o core last final)
    → (next : Open) (list : List Record) (after : C)
    → goes_on last.timed.arch ≡ true → gives final (told_of last.timed) last.timed.arch list after
    → next ≡ open_cycle_of last list
    → OpenTurns gives o core next after
turns_more gives o core last final t next list after on asked is =
    record {
      history = t.history ++ (list, after) ∷ [];
      good = rw is (IsOpenHistory-more gives o core t.history last final list after t.good on asked);
      each = rw (is, length-append) (let e = t.each in let one = cycle_cycles last list on in omega arith);
    }

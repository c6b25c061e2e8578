-- Turns one after another.
use Rattle.std.proofs.Common.{◌≡◌, List, [], ◌∷◌, ◌++◌, length, refl, true, arith}
use Rattle.diva_isa.specs.State.{goes_on}
use Rattle.diva_isa.specs.declared.record.Record.{Record}
use Rattle.diva_core.specs.Timed.{Timed}
use Rattle.diva_core.specs.Cycle.{cycle_of, run_of}
use Rattle.diva_core.specs.Told.{told_of}
use Rattle.diva_core.specs.History.{Meaning, IsHistory, lists_of, FollowRule}

pub IsHistory-more :
    {C : Type 0} (gives : Meaning C) (m : Timed) (core : C) (history : List (List Record × C)) (mid : Timed) (between : C) (list : List Record) (after : C)
    → IsHistory gives m core history mid between
    → goes_on mid.arch ≡ true
    → gives between (told_of mid) mid.arch list after
    → IsHistory gives m core (history ++ (list, after) ∷ []) (cycle_of mid list) after
IsHistory-more gives m core [] mid between list after h on asked =
    rw (← h.0, ← h.1) (on, (asked, (refl, refl)))
IsHistory-more gives m core (turn ∷ rest) mid between list after h on asked =
    (h.0, (h.1.0, IsHistory-more gives (cycle_of m turn.0) turn.1 rest mid between list after h.1.1 on asked))

-- a history leads to the run of its lists
pub IsHistory-run :
    {C : Type 0} (gives : Meaning C) (m : Timed) (core : C) (history : List (List Record × C)) (last : Timed) (final : C)
    → IsHistory gives m core history last final
    → last ≡ run_of m (lists_of history)
IsHistory-run gives m core [] last final h = h.0
IsHistory-run gives m core (turn ∷ rest) last final h = IsHistory-run gives (cycle_of m turn.0) turn.1 rest last final h.1.1

pub length-lists_of : {C : Type 0} (history : List (List Record × C)) → length (lists_of history) ≡ length history
length-lists_of [] = refl
length-lists_of (turn ∷ rest) = let e = length-lists_of rest in omega arith

-- a core whose lists follow a rule
pub IsHistory-rule :
    {C : Type 0} (gives : Meaning C) (rule : Timed → List Record)
    → ((m : Timed) (before : C) (list : List Record) (after : C) → gives before (told_of m) m.arch list after → list ≡ rule m)
    → (m : Timed) (core : C) (history : List (List Record × C)) (last : Timed) (final : C)
    → IsHistory gives m core history last final
    → FollowRule rule m (lists_of history)
IsHistory-rule gives rule is_rule m core [] last final h = tt
IsHistory-rule gives rule is_rule m core (turn ∷ rest) last final h =
    (is_rule m core turn.0 turn.1 h.1.0, IsHistory-rule gives rule is_rule (cycle_of m turn.0) turn.1 rest last final h.1.1)

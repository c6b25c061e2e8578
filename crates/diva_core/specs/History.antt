-- Turns of a machine and a core, one for each cycle.
-- Cited by the laws of diva_tape, as `lockstep_is_right`; in `Drives.antt` of diva_machine, for `drive`.
use Rattle.std.specs.Prelude.{◌≡◌, ◌+◌, List, [], ◌∷◌, length, map, true}
use Rattle.diva_isa.specs.State.{State, goes_on}
use Rattle.diva_isa.specs.declared.record.Record.{Record}
use Rattle.diva_core.specs.Timed.{Timed}
use Rattle.diva_core.specs.Cycle.{cycle_of}
use Rattle.diva_core.specs.Told.{Told, told_of}

-- the meaning of a core: the core before a call, what it is told, the state that it is shown, its list, and the core after
abbrev pub Meaning : Type 0 → Type 1
Meaning C = C → Told → State → List Record → C → Type 0

-- A history is a list of what was handed over, each with the core after it. It is good from a machine and a core, and leads
-- to others.
abbrev pub IsHistory : {C : Type 0} → Meaning C → Timed → C → List (List Record × C) → Timed → C → Type 0
IsHistory gives m core [] last final = (last ≡ m) × (final ≡ core)
IsHistory gives m core (turn ∷ rest) last final =
    (goes_on m.arch ≡ true)
    × (gives core (told_of m) m.arch turn.0 turn.1 × IsHistory gives (cycle_of m turn.0) turn.1 rest last final)

-- the lists of a history, in order
abbrev pub lists_of : {C : Type 0} → List (List Record × C) → List (List Record)
lists_of history = map (λ turn. turn.0) history

-- turns lead from a machine and a core to others, one for each cycle
pub record Turns {C : Type 0} (gives : Meaning C) (m : Timed) (core : C) (last : Timed) (final : C) : Type 0 where
  pub history : List (List Record × C)
  pub good : IsHistory gives m core history last final
  pub each : last.cycles ≡ m.cycles + length history

-- each list is what a rule gives at the machine that it is handed to
abbrev pub FollowRule : (Timed → List Record) → Timed → List (List Record) → Type 0
FollowRule rule m [] = Unit {0}
FollowRule rule m (list ∷ rest) = (list ≡ rule m) × FollowRule rule (cycle_of m list) rest

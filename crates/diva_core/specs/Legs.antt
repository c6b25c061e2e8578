-- Sessions: turns of a machine and a core, between which instructions are taken back.
-- Cited by `scalar_is_right_behind_undos` of diva_tape; in `Sessions.antt` of diva_cli, for `top`.
use Rattle.std.specs.Prelude.{◌≡◌, List, [], ◌∷◌, ◌++◌, ⊤}
use Rattle.diva_isa.specs.declared.record.Record.{Record}
use Rattle.diva_isa.specs.declared.undo.Undo.{Undo}
use Rattle.diva_core.specs.Timed.{Timed}
use Rattle.diva_core.specs.Cycle.{run_of}
use Rattle.diva_core.specs.Undone.{CanUndoAll, undone_all}
use Rattle.diva_core.specs.History.{Meaning, IsHistory, lists_of}

-- ---- what becomes of the machine

-- a part of a session: lists that are handed over one after the other, or the undos of instructions that are taken back one after
-- the other
pub data Part : Type 0 where
  Handed : List (List Record) → Part
  TakenBack : List Undo → Part

-- the machine behind a part
abbrev pub run_part : Timed → Part → Timed
run_part m (Handed lists) = run_of m lists
run_part m (TakenBack undos) = undone_all m undos

-- the machine behind some parts
abbrev pub run_parts : Timed → List Part → Timed
run_parts m [] = m
run_parts m (part ∷ parts) = run_parts (run_part m part) parts

-- this holds of each part, at the machine before it
abbrev pub EachPart : (Timed → Part → Type 0) → Timed → List Part → Type 0
EachPart this m [] = ⊤
EachPart this m (part ∷ parts) = this m part × EachPart this (run_part m part) parts

-- this holds of the lists of a part
abbrev pub OfLists : (Timed → List (List Record) → Type 0) → Timed → Part → Type 0
OfLists this m (Handed lists) = this m lists
OfLists this m (TakenBack undos) = ⊤

-- all lists that are handed over, in order
abbrev pub handed_in : List Part → List (List Record)
handed_in [] = []
handed_in (Handed lists ∷ parts) = lists ++ handed_in parts
handed_in (TakenBack undos ∷ parts) = handed_in parts

-- ---- what becomes of the core

-- a leg of a session: a part, with the core after each list
pub data Leg (C : Type 0) : Type 0 where
  Turned : List (List Record × C) → Leg C
  WentBack : List Undo → Leg C

abbrev pub part_of : {C : Type 0} → Leg C → Part
part_of (Turned history) = Handed (lists_of history)
part_of (WentBack undos) = TakenBack undos

-- the core behind some turns
abbrev pub core_behind : {C : Type 0} → C → List (List Record × C) → C
core_behind core [] = core
core_behind core (turn ∷ rest) = core_behind turn.1 rest

-- the core behind a leg: it is not asked where instructions are taken back
abbrev pub core_after : {C : Type 0} → C → Leg C → C
core_after core (Turned history) = core_behind core history
core_after core (WentBack undos) = core

-- a leg is good from a machine and a core: it is a history, or each of its instructions can be taken back in its turn
abbrev pub IsLeg : {C : Type 0} → Meaning C → Timed → C → Leg C → Type 0
IsLeg gives m core (Turned history) = IsHistory gives m core history (run_of m (lists_of history)) (core_behind core history)
IsLeg gives m core (WentBack undos) = CanUndoAll m undos

-- legs are good from a machine and a core, one after the other, and lead to others
abbrev pub AreLegs : {C : Type 0} → Meaning C → Timed → C → List (Leg C) → Timed → C → Type 0
AreLegs gives m core [] last final = (last ≡ m) × (final ≡ core)
AreLegs gives m core (leg ∷ legs) last final =
    IsLeg gives m core leg × AreLegs gives (run_part m (part_of leg)) (core_after core leg) legs last final

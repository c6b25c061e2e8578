-- Taking the last instruction back.
-- Cited by `Machine::undo` of diva_machine; by `scalar_may_lead_again` of diva_tape.
use Rattle.std.specs.Prelude.{◌≢◌, ◌+◌, ◌-◌, List, [], ◌∷◌, None, ⊤}
use Rattle.diva_isa.specs.Undo.{IsUndo, restore}
use Rattle.diva_isa.specs.declared.undo.Undo.{Undo}
use Rattle.diva_core.specs.Timed.{Timed}

-- the machine without its last instruction, which overwrote u: all stores that are owed go to memory first, and nothing is
-- pending; cycles and log stay
unfoldable pub undone : Timed → Undo → Timed
undone m u =
    record m {
      arch = restore m.arch u;
      count = m.count - 1;
      owed = 0;
      under = record m.under { pending = []; solo = None; idle = 0; undos = m.under.undos + 1 };
    }

-- an instruction was counted, and u is what the last of them overwrote
pub record CanUndo (m : Timed) (u : Undo) : Type 0 where
  pub counted : m.count ≢ 0
  pub last : IsUndo m.arch u

-- the machine without its last instructions, the newest first
abbrev pub undone_all : Timed → List Undo → Timed
undone_all m [] = m
undone_all m (u ∷ rest) = undone_all (undone m u) rest

-- each of them can be taken back in its turn
abbrev pub CanUndoAll : Timed → List Undo → Type 0
CanUndoAll m [] = ⊤
CanUndoAll m (u ∷ rest) = CanUndo m u × CanUndoAll (undone m u) rest

-- What is kept of the newest instructions, so that they can be taken back.
-- Cited by the type `Undos`; in `Rewindable.antt`, for `Session::reply`.
use Rattle.std.specs.Prelude.{ℕ, List, [], ◌∷◌, Option, Some, None, ⊤}
use Rattle.circular_buffer.specs.Buffer.{Buffer}
use Rattle.diva_isa.specs.State.{State}
use Rattle.diva_isa.specs.Undo.{IsUndo, restore}
use Rattle.diva_isa.specs.declared.undo.Undo.{Undo}

-- the undos that are kept, the newest first, and how many are kept at most
pub record Undos : Type 0 where
  pub items : List Undo
  pub keep : ℕ

-- those in a ring; where there is no ring, none are kept
abbrev pub undos_in : Option (Buffer Undo) → Undos
undos_in None = record { items = []; keep = 0 }
undos_in (Some ring) = record { items = ring.items; keep = ring.capacity }

-- each of the undos, the newest first, is what an instruction overwrote: the newest the last one that led to s, each other one
-- the last that led to the state which those before it restore
abbrev pub AreUndos : State → List Undo → Type 0
AreUndos s [] = ⊤
AreUndos s (u ∷ rest) = IsUndo s u × AreUndos (restore s u) rest

-- the state that all of them restore
abbrev pub origin_of : State → List Undo → State
origin_of s [] = s
origin_of s (u ∷ rest) = origin_of (restore s u) rest

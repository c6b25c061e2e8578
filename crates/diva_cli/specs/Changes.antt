-- What became of something: of a machine, of a core, of lanes that vote.
-- Cited by `work` and `lab_work`; in `Program.antt`, for `top`.
use Rattle.std.specs.Prelude.{◌≡◌, List, [], Option, None}
use Rattle.diva_args.specs.declared.job.LanePlace.{LanePlace}
use Rattle.diva_vote.specs.Questions.{Question}

-- what it was, and what it is
pub record Change (A : Type 0) : Type 0 where
  pub before : A
  pub after : A

abbrev pub change : {A : Type 0} → (before after : A) → Change A
change before after = record { before = before; after = after }

-- ---- of what the program asks: the core, and lanes

-- these questions were asked of three lanes, of which the one at this place lies; and none of any lane, where there is no place
abbrev pub LanesAsked : Type 1
LanesAsked = (liar : Option LanePlace) → List Question → Type 0

-- the core, and what is said of the lanes
pub record Asking (C : Type 0) : Type 1 where
  pub before : C
  pub after : C
  pub lanes : LanesAsked

abbrev pub asking : {C : Type 0} → (before after : C) → LanesAsked → Asking C
asking before after lanes = record { before = before; after = after; lanes = lanes }

abbrev pub core_of : {C : Type 0} → Asking C → Change C
core_of asks = change asks.before asks.after

-- neither the core nor a lane was asked
pub record IsUnasked {C : Type 0} (asks : Asking C) : Type 0 where
  pub core : asks.after ≡ asks.before
  pub lanes : asks.lanes None []

-- Steps, each of which may find a fault.
-- Cited in `Items.antt`, for `read_items`.
use Rattle.std.specs.Prelude.{Result, Ok, Err}

-- what the next step makes of it, where this one found no fault
abbrev pub and_then : {A B E : Type 0} → Result A E → (A → Result B E) → Result B E
and_then (Ok value) next = next value
and_then (Err fault) next = Err fault

-- the fault by the name that a rule gives it
abbrev pub fault_by : {A E F : Type 0} → (E → F) → Result A E → Result A F
fault_by name (Ok value) = Ok value
fault_by name (Err fault) = Err (name fault)

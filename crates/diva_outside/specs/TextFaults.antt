-- What the reading of a text gives, and what that of one of its lines gives. Where memory ran out, nothing is said of either.
-- Cited by `LineReader::line`, `fold_lines` and `read_items`.
use Rattle.std.specs.Prelude.{◌≡◌, ⊤, Result, Ok, Err}
use Rattle.diva_outside.specs.Lines.{LineFault}
use Rattle.diva_outside.specs.declared.text_fault.LineStop.{LineStop}
use Rattle.diva_outside.specs.declared.text_fault.LineStop.TheVariants as stop
use Rattle.diva_outside.specs.declared.text_fault.TextFault.{TextFault}
use Rattle.diva_outside.specs.declared.text_fault.TextFault.TheVariants.{Bad, Memory}

-- the fault is the first one of a text
abbrev pub IsFirstFault : {A : Type 0} → Result A LineFault → TextFault → Type 0
IsFirstFault due (Bad line kind) = due ≡ Err (record { line = line; kind = kind })
IsFirstFault due Memory = ⊤

-- what is due of a text: its value, or its first fault
abbrev pub GivesText : {A : Type 0} → Result A LineFault → Result A TextFault → Type 0
GivesText due (Ok value) = due ≡ Ok value
GivesText due (Err fault) = IsFirstFault due fault

-- what is due of a line: its value, or the kind of its fault
abbrev pub GivesLine : {A K : Type 0} → Result A K → Result A (LineStop K) → Type 0
GivesLine due (Ok value) = due ≡ Ok value
GivesLine due (Err (stop.Fault kind)) = due ≡ Err kind
GivesLine due (Err stop.Memory) = ⊤

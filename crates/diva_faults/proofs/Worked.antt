-- Scripts and lists that were worked out by hand.
use Rattle.std.proofs.Common.{◌≡◌, ℕ, List, refl}
use Rattle.std.specs.Prelude.{codes, Result, Err}
use Rattle.diva_outside.specs.Lines.{LineFault}
use Rattle.diva_outside.specs.NextWords.{first_number}
use Rattle.diva_outside.specs.Numbers.{decimal_of}
use Rattle.diva_outside.specs.Words.{words_in}
use Rattle.diva_faults.specs.declared.rows.Row.{Row}
use Rattle.diva_faults.specs.Reading.{row_in, script_of}

abbrev Script : Type 0
Script = Result (List Row) LineFault

abbrev fault : ℕ → ℕ → Script
fault line kind = Err (record { line = line; kind = kind })

hush_in_cycle_0 : script_of (codes "at 0 hush 3") ≡ fault 1 2
unfolding script_of row_in first_number words_in decimal_of
hush_in_cycle_0 = refl

-- The digits so far are decimal digits, and the number is what they spell.
use Rattle.std.proofs.Common.{◌≡◌, ◌<◌, ◌^◌, drop}
use Rattle.std.specs.Char.{is_digit}
use Rattle.std.specs.List.{list_all}
use Rattle.std.specs.Str.Parse.{digits_value, digits_value_after}
use Rattle.diva_rate.proofs.cells.spelled.Given as goal

abbrev pub invariant-loop-byte : goal.invariant-loop-byte
invariant-loop-byte l = record {
  digits : list_all (λ byte. is_digit byte 10) l.cell ≡ list_all (λ byte. is_digit byte 10) (drop l.byte-index l.cell);
  value : digits_value_after 10 l.number (drop l.byte-index l.cell) ≡ digits_value 10 l.cell;
  small : l.number < 16 ^ l.byte-index;
}

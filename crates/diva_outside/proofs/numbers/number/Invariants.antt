-- The digits so far are digits of the radix, and the number is what they spell.
use Rattle.std.proofs.Common.{◌≡◌, ◌<◌, ◌^◌, drop}
use Rattle.std.specs.Char.{is_digit}
use Rattle.std.specs.List.{list_all}
use Rattle.std.specs.Str.Parse.{digits_value, digits_value_after}
use Rattle.diva_outside.proofs.numbers.number.Given as goal

abbrev pub invariant-loop-byte : goal.invariant-loop-byte
invariant-loop-byte l = record {
  digits : list_all (λ byte. is_digit byte l.radix) l.word ≡ list_all (λ byte. is_digit byte l.radix) (drop l.byte-index l.word);
  value : digits_value_after l.radix l.number (drop l.byte-index l.word) ≡ digits_value l.radix l.word;
  small : l.number < 16 ^ l.byte-index;
}

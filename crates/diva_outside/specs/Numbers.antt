-- The numbers that words spell.
-- Cited by `decimal` and `hex`.
use Rattle.std.specs.Prelude.{ℕ, ◌&&◌, nat_le, List, length, Option, Some, None, if◌then◌else◌}
use Rattle.std.specs.Char.{is_digit}
use Rattle.std.specs.List.{list_all}
use Rattle.std.specs.Str.Parse.{digits_value}

-- the number that one to `most` digits of a radix spell, `None` where the word is something else
abbrev pub spelled_number : ℕ → ℕ → List ℕ → Option ℕ
spelled_number radix most word =
    if nat_le 1 (length word) && nat_le (length word) most && list_all (λ byte. is_digit byte radix) word
    then Some (digits_value radix word) else None

-- the number that one to eight hex digits of either case spell
unfoldable pub hex_of : List ℕ → Option ℕ
hex_of word = spelled_number 16 8 word

-- the number that one to ten decimal digits spell
unfoldable pub decimal_of : List ℕ → Option ℕ
decimal_of word = spelled_number 10 10 word

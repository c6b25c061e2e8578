-- The eight lines of the registers, of which some are given and the others are 0.
-- Cited by `registers_text`.
use Rattle.std.specs.Prelude.{ℕ, ◌%◌, ◌-◌, ◌==◌, false, List, ◌++◌, length, replicate, codes, find, option_map, unwrap_or, if◌then◌else◌}
use Rattle.std.specs.Fmt.{decimal, digits}
use Rattle.std.specs.List.{flat_map, range_with_len}

-- the number that the first pair of a register gives it, or 0
abbrev pub value_in : List (ℕ × ℕ) → (register : ℕ) → ℕ
value_in set register = unwrap_or (option_map (λ pair. pair.1) (find (λ pair. pair.0 == register) set)) 0

-- the hex digits of a number in lower case, with zeros before them if they are fewer than eight
abbrev pub hex_text : ℕ → List ℕ
hex_text n = replicate (8 - length (digits 16 false n)) 48 ++ digits 16 false n

-- what stands after a register: a line feed after each fourth, a blank after the others
abbrev pub end_text : (register : ℕ) → List ℕ
end_text register = if register % 4 == 3 then codes "\n" else codes " "

-- the name of a register and its value, and what stands after it
abbrev pub register_text : (register value : ℕ) → List ℕ
register_text register value = codes "x" ++ decimal register ++ codes " " ++ hex_text value ++ end_text register

-- those of all 32, of which the ones without a pair are 0
abbrev pub registers_text : List (ℕ × ℕ) → List ℕ
registers_text set = flat_map (λ register. register_text register (value_in set register)) (range_with_len 0 32)

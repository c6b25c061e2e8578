-- Registers, numbers and places.
-- Cited in `Statements.antt`, for `assemble`.
use Rattle.std.specs.Prelude.{ℕ, ◌%◌, ◌^◌, ◌==◌, ◌&&◌, nat_eq, nat_lt, Bool, List, [], ◌∷◌, take, drop, codes, Option, Some, None, ℤ, pos, neg_ℤ, int_le, if◌then◌else◌}
use Rattle.std.specs.Int.{cast_unsigned, w64}
use Rattle.std.specs.List.{starts_with}
use Rattle.std.specs.Map.{lookup}
use Rattle.std.specs.Option.{option_map, option_and_then}
use Rattle.std.specs.Str.{bytes_eq}
use Rattle.diva_outside.specs.Numbers.{hex_of, decimal_of}
use Rattle.diva_outside.specs.Text.{Text}
use Rattle.diva_asm.specs.Texts.{trim, name_len}

-- ---- registers

abbrev pub registers : List (Text × ℕ)
registers =
    (codes "x0", 0) ∷ (codes "x1", 1) ∷ (codes "x2", 2) ∷ (codes "x3", 3) ∷
    (codes "x4", 4) ∷ (codes "x5", 5) ∷ (codes "x6", 6) ∷ (codes "x7", 7) ∷
    (codes "x8", 8) ∷ (codes "x9", 9) ∷ (codes "x10", 10) ∷ (codes "x11", 11) ∷
    (codes "x12", 12) ∷ (codes "x13", 13) ∷ (codes "x14", 14) ∷ (codes "x15", 15) ∷
    (codes "x16", 16) ∷ (codes "x17", 17) ∷ (codes "x18", 18) ∷ (codes "x19", 19) ∷
    (codes "x20", 20) ∷ (codes "x21", 21) ∷ (codes "x22", 22) ∷ (codes "x23", 23) ∷
    (codes "x24", 24) ∷ (codes "x25", 25) ∷ (codes "x26", 26) ∷ (codes "x27", 27) ∷
    (codes "x28", 28) ∷ (codes "x29", 29) ∷ (codes "x30", 30) ∷ (codes "x31", 31) ∷
    (codes "zero", 0) ∷ (codes "ra", 1) ∷ (codes "sp", 2) ∷ (codes "gp", 3) ∷ (codes "tp", 4) ∷
    (codes "t0", 5) ∷ (codes "t1", 6) ∷ (codes "t2", 7) ∷
    (codes "s0", 8) ∷ (codes "fp", 8) ∷ (codes "s1", 9) ∷
    (codes "a0", 10) ∷ (codes "a1", 11) ∷ (codes "a2", 12) ∷ (codes "a3", 13) ∷
    (codes "a4", 14) ∷ (codes "a5", 15) ∷ (codes "a6", 16) ∷ (codes "a7", 17) ∷
    (codes "s2", 18) ∷ (codes "s3", 19) ∷ (codes "s4", 20) ∷ (codes "s5", 21) ∷ (codes "s6", 22) ∷
    (codes "s7", 23) ∷ (codes "s8", 24) ∷ (codes "s9", 25) ∷ (codes "s10", 26) ∷ (codes "s11", 27) ∷
    (codes "t3", 28) ∷ (codes "t4", 29) ∷ (codes "t5", 30) ∷ (codes "t6", 31) ∷ []

unfoldable pub register_of : Text → Option ℕ
register_of word = lookup (λ name. bytes_eq name word) registers

-- ---- numbers

-- 0x and hex digits, or decimal digits
abbrev pub digits_of : Text → Option ℕ
digits_of text = if starts_with nat_eq text (codes "0x") then hex_of (drop 2 text) else decimal_of text

-- a number without sign
unfoldable pub unsigned_of : Text → Option ℕ
unsigned_of text = option_and_then (λ n. if nat_lt n (2 ^ 32) then Some n else None) (digits_of text)

-- with or without a leading -
unfoldable pub operand_number : Text → Option ℤ
operand_number text =
    if starts_with nat_eq text (codes "-") then option_map (λ n. neg_ℤ (pos n)) (unsigned_of (drop 1 text))
    else option_map (λ n. pos n) (unsigned_of text)

abbrev pub is_within : ℤ → ℤ → ℤ → Bool
is_within low high z = int_le low z && int_le z high

-- the number, where it is from low to high
unfoldable pub number_in : ℤ → ℤ → Text → Option ℤ
number_in low high text = option_and_then (λ z. if is_within low high z then Some z else None) (operand_number text)

-- modulo 2 ^ 32
abbrev pub word_from : ℤ → ℕ
word_from z = cast_unsigned w64 z % 2 ^ 32

-- ---- places

-- a label, or none, and a number to be added
pub record Place : Type 0 where
  pub label : Option Text
  pub offset : ℤ

abbrev pub place_at : Option Text → ℤ → Place
place_at label offset = record { label = label; offset = offset }

-- what may follow a name: nothing, or a sign and a number without sign
unfoldable pub offset_of : Text → Option ℤ
offset_of [] = Some (pos 0)
offset_of (sign ∷ text) =
    let number = unsigned_of (trim text) in
    if sign == 43 then option_map (λ n. pos n) number
    else (if sign == 45 then option_map (λ n. neg_ℤ (pos n)) number else None)

-- a number, a name, or a name followed by + or - and a number without sign
unfoldable pub place_of : Text → Option Place
place_of text =
    let len = name_len text in
    if len == 0 then option_map (place_at None) (number_in (neg_ℤ (pos (2 ^ 31))) (pos 0xffffffff) text)
    else option_map (place_at (Some (take len text))) (offset_of (drop len text))

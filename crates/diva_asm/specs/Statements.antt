-- The statement of a line: its mnemonic, and what its operands say.
-- Cited in `Laying.antt`, for `assemble`.
use Rattle.std.specs.Prelude.{ℕ, ◌==◌, ◌&&◌, not, nat_eq, Bool, true, false, List, [], ◌∷◌, length, take, drop, codes, Option, Some, None, Result, Ok, Err, pos, neg_ℤ, if◌then◌else◌}
use Rattle.std.specs.List.{starts_with, ends_with, before_first, after_first, count_by, position_or_len}
use Rattle.std.specs.Option.{ok_or}
use Rattle.diva_outside.specs.Steps.{and_then}
use Rattle.diva_outside.specs.Text.{Text}
use Rattle.diva_asm.specs.Texts.{trim, ends_mnemonic, operand_texts}
use Rattle.diva_asm.specs.Operands.{register_of, number_in, place_of}
use Rattle.diva_asm.specs.Mnemonics.{mnemonic_of, operands_of}
use Rattle.diva_asm.specs.declared.mnemonic.Mnemonic.{Mnemonic}
use Rattle.diva_asm.specs.declared.fault.Kind.{Kind}
use Rattle.diva_asm.specs.declared.fault.Kind.TheVariants.{UnknownMnemonic, WrongShape, NoRegister, BadNumber}
use Rattle.diva_asm.specs.declared.operand.Operand.{Operand}
use Rattle.diva_asm.specs.declared.operand.Operand.TheVariants.{Rd, Rs1, Rs2, Number, Upper, Memory, Target}
use Rattle.diva_asm.specs.declared.operands.Operands.{Operands}
use Rattle.diva_asm.specs.declared.statement.Statement.{Statement}

-- ---- the shape of operands

abbrev pub opens : ℕ → Bool
opens b = b == 40

abbrev pub closes : ℕ → Bool
closes b = b == 41

-- number(register): one pair of parentheses, the second at the end
unfoldable pub is_memory : Text → Bool
is_memory text = ends_with nat_eq text (codes ")") && (count_by opens text == 1) && (count_by closes text == 1)

-- an operand is not empty, and that of a load or a store has parentheses
abbrev pub has_shape : Operand → Text → Bool
has_shape Memory text = is_memory text
has_shape operand text = not (length text == 0)

-- there are as many texts as operands, each of its operand's shape
unfoldable pub have_shapes : List Operand → List Text → Bool
have_shapes [] [] = true
have_shapes [] (text ∷ texts) = false
have_shapes (operand ∷ operands) [] = false
have_shapes (operand ∷ operands) (text ∷ texts) = has_shape operand text && have_shapes operands texts

-- ---- what operands say

-- a statement's operands before any is read
abbrev pub no_operands : Operands
no_operands = record { rd = 0; rs1 = 0; rs2 = 0; number = pos 0; place = record { label = None; offset = pos 0 } }

-- what one more operand says
unfoldable pub with_operand : Operand → Text → Operands → Result Operands Kind
with_operand Rd text v = and_then (ok_or (register_of text) NoRegister) (λ n. Ok (record v { rd = n }))
with_operand Rs1 text v = and_then (ok_or (register_of text) NoRegister) (λ n. Ok (record v { rs1 = n }))
with_operand Rs2 text v = and_then (ok_or (register_of text) NoRegister) (λ n. Ok (record v { rs2 = n }))
with_operand (Number low high) text v = and_then (ok_or (number_in low high text) BadNumber) (λ z. Ok (record v { number = z }))
with_operand Upper text v = and_then (ok_or (number_in (pos 0) (pos 0xfffff) text) BadNumber) (λ z. Ok (record v { number = z }))
with_operand Target text v = and_then (ok_or (place_of text) BadNumber) (λ p. Ok (record v { place = p }))
with_operand Memory text v =
    let number = trim (before_first opens text) in
    let register = trim (before_first closes (after_first opens text)) in
    and_then (ok_or (number_in (neg_ℤ (pos 2048)) (pos 2047) number) BadNumber) (λ z.
    and_then (ok_or (register_of register) NoRegister) (λ n. Ok (record v { number = z; rs1 = n })))

-- what all operands say, from the left
unfoldable pub with_operands : List Operand → List Text → Operands → Result Operands Kind
with_operands [] texts v = Ok v
with_operands (operand ∷ operands) [] v = Ok v
with_operands (operand ∷ operands) (text ∷ texts) v = and_then (with_operand operand text v) (with_operands operands texts)

-- ---- the statement

-- the statement of the mnemonic m and what follows it
unfoldable pub statement_with : Mnemonic → Text → Result Statement Kind
statement_with m text =
    let texts = operand_texts (if length text == 0 then None else Some text) in
    if have_shapes (operands_of m) texts
    then and_then (with_operands (operands_of m) texts no_operands) (λ v. Ok (record { mnemonic = m; operands = v }))
    else Err WrongShape

-- the statement of what follows a line's labels, if something does
unfoldable pub statement_of : Text → Result (Option Statement) Kind
statement_of rest =
    let text = trim rest in
    let len = position_or_len ends_mnemonic text in
    if length text == 0 then Ok None
    -- a colon without a label before it
    else (if starts_with nat_eq text (codes ":") then Err WrongShape
    else and_then (ok_or (mnemonic_of (take len text)) UnknownMnemonic) (λ m.
    and_then (statement_with m (trim (drop len text))) (λ s. Ok (Some s))))

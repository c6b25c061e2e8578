-- The listing: the line of a word, and the lines of an image.
-- Cited by `list_line`.
use Rattle.std.specs.Prelude.{ℕ, ◌+◌, ◌*◌, ◌/◌, ◌%◌, ◌^◌, List, [], ◌∷◌, ◌++◌, length, map, codes, Option, Some, None, false}
use Rattle.std.specs.Fmt.{decimal, signed_decimal, digits}
use Rattle.std.specs.Int.{cast_unsigned, div_ceil, w32}
use Rattle.std.specs.List.{flat_map, range_with_len}
use Rattle.diva_decode.specs.Table.{format, row_of}
use Rattle.diva_decode.specs.declared.instr.Instr.{Instr}
use Rattle.diva_image.specs.Header.{word_at as number_at}
use Rattle.diva_image.specs.Layout.{Layout}
use Rattle.diva_outside.specs.Text.{Text, hex_word}
use Rattle.diva_asm.specs.Mnemonics.{op_name, format_operands}
use Rattle.diva_asm.specs.declared.operand.Operand.{Operand}
use Rattle.diva_asm.specs.declared.operand.Operand.TheVariants.{Rd, Rs1, Rs2, Number, Upper, Memory, Target}

-- ---- an instruction

abbrev pub register : ℕ → Text
register n = codes "x" ++ decimal n

unfoldable pub address_text : ℕ → Text
address_text n = codes "0x" ++ hex_word n

-- an operand of the instruction at an address: a branch or a jump has the address to which it goes, LUI and AUIPC their 20 bits
unfoldable pub operand_text : ℕ → Instr → Operand → Text
operand_text addr i Rd = register i.rd
operand_text addr i Rs1 = register i.rs1
operand_text addr i Rs2 = register i.rs2
operand_text addr i (Number low high) = signed_decimal i.imm
operand_text addr i Upper = codes "0x" ++ digits 16 false (cast_unsigned w32 i.imm / 2 ^ 12)
operand_text addr i Memory = signed_decimal i.imm ++ codes "(" ++ register i.rs1 ++ codes ")"
operand_text addr i Target = address_text ((addr + cast_unsigned w32 i.imm) % 2 ^ 32)

-- the operands, the first behind a blank and each other one behind a comma and a blank
abbrev pub operands_text : ℕ → Instr → List Operand → Text
operands_text addr i [] = []
operands_text addr i (operand ∷ operands) = (codes " " ++ operand_text addr i operand) ++ flat_map (λ other. codes ", " ++ operand_text addr i other) operands

-- ---- a word

-- a word outside the table, or the instruction that it is
abbrev pub text_of : ℕ → ℕ → Option Instr → Text
text_of addr word None = codes ".word 0x" ++ hex_word word
text_of addr word (Some i) = op_name i.op ++ operands_text addr i (format_operands (format i.op))

unfoldable pub list_line : ℕ → ℕ → Text
list_line addr word = hex_word addr ++ codes " " ++ hex_word word ++ codes " " ++ text_of addr word (row_of word) ++ codes "\n"

-- ---- an image

-- the word of a payload at a place; behind the payload are zeros
abbrev pub word_at : List ℕ → ℕ → ℕ
word_at payload place = number_at place payload

-- a line for each word in which the payload has a byte
unfoldable pub listing_of : Layout → List Text
listing_of i = map (λ n. list_line (i.base + 4 * n) (word_at i.payload (4 * n))) (range_with_len 0 (div_ceil (length i.payload) 4))

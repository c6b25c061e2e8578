-- Pass 2: the bytes that statements lay.
-- Cited in `Sources.antt`, for `assemble`.
use Rattle.std.specs.Prelude.{ℕ, ◌+◌, ◌*◌, ◌/◌, ◌%◌, ◌^◌, ◌-◌, ◌==◌, ◌&&◌, Bool, true, false, List, [], ◌∷◌, ◌++◌, length, replicate, Option, Some, None, Result, Ok, Err, ℤ, neg_ℤ, pos, if◌then◌else◌}
use Rattle.std.specs.Int.{cast_signed, cast_unsigned, to_le_bytes, w32}
use Rattle.std.specs.List.{flat_map}
use Rattle.std.specs.Option.{ok_or, option_map}
use Rattle.diva_decode.specs.Fields.{signed}
use Rattle.diva_decode.specs.Table.{Format, format, encoding_of}
use Rattle.diva_decode.specs.Table.Format.{U, J, B}
use Rattle.diva_decode.specs.declared.op.Op.{Op}
use Rattle.diva_decode.specs.declared.op.Op.TheVariants.{Lui, Addi, Jal, Jalr}
use Rattle.diva_decode.specs.declared.instr.Instr.{Instr}
use Rattle.diva_outside.specs.Steps.{and_then}
use Rattle.diva_outside.specs.Text.{Text}
use Rattle.diva_asm.specs.Labels.{Labels, address_of}
use Rattle.diva_asm.specs.Texts.{without_comment, labels_of}
use Rattle.diva_asm.specs.Operands.{Place, word_from, is_within}
use Rattle.diva_asm.specs.Statements.{statement_of}
use Rattle.diva_asm.specs.Laying.{is_short}
use Rattle.diva_asm.specs.declared.fault.Kind.{Kind}
use Rattle.diva_asm.specs.declared.fault.Kind.TheVariants.{UndefinedName, BadOffset}
use Rattle.diva_asm.specs.declared.mnemonic.Mnemonic.{Mnemonic}
use Rattle.diva_asm.specs.declared.mnemonic.Mnemonic.TheVariants.{Instruction, Nop, Ret, Mv, Li, La, J as Jump, Jr, Word, Byte, Space, Entry}
use Rattle.diva_asm.specs.declared.operands.Operands.{Operands}
use Rattle.diva_asm.specs.declared.statement.Statement.{Statement}
use Rattle.diva_asm.specs.declared.building.Built.{Built}

-- ---- places

-- a label's address with the number added, modulo 2 ^ 32, or the number alone
abbrev pub value_at : Labels → Option Text → ℤ → Option ℕ
value_at labels None offset = Some (word_from offset)
value_at labels (Some name) offset = option_map (λ address. (address + word_from offset) % 2 ^ 32) (address_of labels name)

unfoldable pub value_of : Labels → Place → Option ℕ
value_of labels place = value_at labels place.label place.offset

-- from pc to an address, modulo 2 ^ 32
abbrev pub offset_to : ℕ → ℕ → ℕ
offset_to address pc = (address + (2 ^ 32 - pc)) % 2 ^ 32

-- ---- instructions of the table

-- the immediate of an instruction: of a branch or a jump its offset, of LUI and AUIPC the number's 20 bits in their place
abbrev pub imm_of : Format → Operands → ℕ → ℤ
imm_of (B f3 o) v offset = cast_signed w32 offset
imm_of (J o) v offset = cast_signed w32 offset
imm_of (U o) v offset = cast_signed w32 (word_from v.number * 2 ^ 12 % 2 ^ 32)
imm_of s v offset = cast_signed w32 (word_from v.number)

-- the offset of a branch or a jump is even and within its range
abbrev pub reaches : Format → ℤ → Bool
reaches (B f3 o) z = (cast_unsigned w32 z % 2 == 0) && is_within (neg_ℤ (pos 4096)) (pos 4094) z
reaches (J o) z = (cast_unsigned w32 z % 2 == 0) && is_within (neg_ℤ (pos 1048576)) (pos 1048574) z
reaches s z = true

unfoldable pub instruction : Op → Operands → ℕ → Result Instr Kind
instruction op v offset =
    let imm = imm_of (format op) v offset in
    if reaches (format op) imm then Ok (record { op = op; rd = v.rd; rs1 = v.rs1; rs2 = v.rs2; imm = imm })
    else Err BadOffset

abbrev pub one_instruction : Op → Operands → ℕ → Result (List Instr) Kind
one_instruction op v offset = and_then (instruction op v offset) (λ i. Ok (i ∷ []))

-- ---- instructions that stand for others

abbrev pub addi : ℕ → ℕ → ℤ → Instr
addi rd rs1 imm = record { op = Addi; rd = rd; rs1 = rs1; rs2 = 0; imm = imm }

abbrev pub jalr : ℕ → ℕ → Instr
jalr rd rs1 = record { op = Jalr; rd = rd; rs1 = rs1; rs2 = 0; imm = pos 0 }

-- LUI of u = (v + 2048) / 4096, modulo 2 ^ 20
abbrev pub lui_of : ℕ → ℕ → Instr
lui_of rd v = record { op = Lui; rd = rd; rs1 = 0; rs2 = 0; imm = cast_signed w32 ((v + 2048) / 4096 % 2 ^ 20 * 2 ^ 12) }

-- ADDI of the low 12 bits of v, read signed
abbrev pub addi_of : ℕ → ℕ → Instr
addi_of rd v = addi rd rd (signed 12 (v % 2 ^ 12))

abbrev pub two_words : ℕ → ℕ → List Instr
two_words rd v = lui_of rd v ∷ addi_of rd v ∷ []

-- the instructions of a statement at pc, whose place is at an address
unfoldable pub instructions : Mnemonic → Operands → ℕ → ℕ → Result (List Instr) Kind
instructions (Instruction op) v address pc = one_instruction op v (offset_to address pc)
instructions Jump v address pc = one_instruction Jal v (offset_to address pc)
instructions Nop v address pc = Ok (addi 0 0 (pos 0) ∷ [])
instructions Ret v address pc = Ok (jalr 0 1 ∷ [])
instructions Mv v address pc = Ok (addi v.rd v.rs1 (pos 0) ∷ [])
instructions Jr v address pc = Ok (jalr 0 v.rs1 ∷ [])
instructions La v address pc = Ok (two_words v.rd address)
instructions Li v address pc =
    if is_short v then Ok (addi v.rd 0 (cast_signed w32 (word_from v.number)) ∷ []) else Ok (two_words v.rd (word_from v.number))
-- a directive has none
instructions m v address pc = Ok []

-- ---- bytes

abbrev pub bytes_of_words : List Instr → List ℕ
bytes_of_words is = flat_map (λ i. to_le_bytes w32 (encoding_of i)) is

abbrev pub in_bytes : Result (List Instr) Kind → Result (List ℕ) Kind
in_bytes is = and_then is (λ done. Ok (bytes_of_words done))

unfoldable pub statement_bytes : Mnemonic → Operands → ℕ → ℕ → Result (List ℕ) Kind
statement_bytes Word v address pc = Ok (to_le_bytes w32 address)
statement_bytes Byte v address pc = Ok (word_from v.number % 2 ^ 8 ∷ [])
statement_bytes Space v address pc = Ok (replicate (word_from v.number) 0)
statement_bytes m v address pc = in_bytes (instructions m v address pc)

-- ---- lines

abbrev pub nothing_built : Built
nothing_built = record { bytes = []; entry = None }

abbrev pub is_entry : Mnemonic → Bool
is_entry Entry = true
is_entry m = false

unfoldable pub built_at : ℕ → Built → Mnemonic → Operands → ℕ → Result Built Kind
built_at base built m v address =
    if is_entry m then Ok (record built { entry = Some address })
    else and_then (statement_bytes m v address ((base + length built.bytes) % 2 ^ 32)) (λ more. Ok (record built { bytes = built.bytes ++ more }))

-- a statement of a source with base and labels, or none
abbrev pub built_by : ℕ → Labels → Built → Option Statement → Result Built Kind
built_by base labels built None = Ok built
built_by base labels built (Some s) =
    and_then (ok_or (value_of labels s.operands.place) UndefinedName) (λ address. built_at base built s.mnemonic s.operands address)

-- what follows the labels of a line, which has no fault of pass 1
unfoldable pub built_text : ℕ → Labels → Built → Text → Result Built Kind
built_text base labels built text = and_then (statement_of (labels_of text).rest) (λ s. built_by base labels built s)

abbrev pub built_line : ℕ → Labels → Built → Text → Result Built Kind
built_line base labels built line = built_text base labels built (without_comment line)

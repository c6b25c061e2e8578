-- The 50 instructions as rows, those of RV32IM and the two reads of Zicntr's `instret`; what a word of a row
-- says, the word of an instruction, and which instructions have one. (RISC-V Unprivileged ISA, chapter "RV32/64G
-- Instruction Set Listings": RV32I 2.1 and M 2.0; chapters "Zicsr" and "Zicntr", where RDINSTRET and RDINSTRETH are
-- CSRRS of instret and instreth with x0.)
-- Cited by `decode`, `decode_here`, `encode` and `valid`.
use Rattle.std.specs.Prelude.{◌≡◌, ℕ, ◌+◌, ◌-◌, ◌*◌, ◌%◌, ◌^◌, ◌<◌, ◌==◌, ◌&&◌, Bool, false, List, [], ◌∷◌, Option, Some, ℤ, pos, neg_ℤ, ◌≤ℤ◌, ◌<ℤ◌, find, option_map}
use Rattle.std.specs.Int.{cast_unsigned, w32}
use Rattle.diva_decode.specs.Fields.{opcode, rd, funct3, rs1, rs2, funct7, csr, imm_i, imm_s, imm_b, imm_u, imm_j, imm_bits}
use Rattle.diva_decode.specs.declared.op.Op.{Op}
use Rattle.diva_decode.specs.declared.op.Op.TheVariants.{Lui, Auipc, Jal, Jalr, Beq, Bne, Blt, Bge, Bltu, Bgeu, Lb, Lh, Lw, Lbu, Lhu, Sb, Sh, Sw, Addi, Slti, Sltiu, Xori, Ori, Andi, Slli, Srli, Srai, Add, Sub, Sll, Slt, Sltu, Xor, Srl, Sra, Or, And, Fence, Ecall, Ebreak, Rdinstret, Rdinstreth, Mul, Mulh, Mulhsu, Mulhu, Div, Divu, Rem, Remu}
use Rattle.diva_decode.specs.declared.instr.Instr.{Instr}

-- ---- the rows

-- What the words of an operation have in common: their format and, where the format has them, funct7, funct3 and the
-- opcode, in this order, as the manual lists them.
pub data Format : Type 0 where
  U : ℕ → Format
  J : ℕ → Format
  I : ℕ → ℕ → Format
  B : ℕ → ℕ → Format
  S : ℕ → ℕ → Format
  R : ℕ → ℕ → ℕ → Format
  -- a shift by an immediate, which stands in the place of rs2
  Shift : ℕ → ℕ → ℕ → Format
  -- FENCE: the word's other fields are ignored
  Open : ℕ → ℕ → Format
  -- ECALL and EBREAK: this one word
  Exact : ℕ → Format
  -- a read of a control and status register: its number, which stands in the place of the immediate, funct3 and the
  -- opcode; x0 stands in the place of rs1
  Csr : ℕ → ℕ → ℕ → Format

abbrev pub format : Op → Format
-- RV32I 2.1
format Lui = U 0b0110111
format Auipc = U 0b0010111
format Jal = J 0b1101111
format Jalr = I 0b000 0b1100111
-- branches
format Beq = B 0b000 0b1100011
format Bne = B 0b001 0b1100011
format Blt = B 0b100 0b1100011
format Bge = B 0b101 0b1100011
format Bltu = B 0b110 0b1100011
format Bgeu = B 0b111 0b1100011
-- loads
format Lb = I 0b000 0b0000011
format Lh = I 0b001 0b0000011
format Lw = I 0b010 0b0000011
format Lbu = I 0b100 0b0000011
format Lhu = I 0b101 0b0000011
-- stores
format Sb = S 0b000 0b0100011
format Sh = S 0b001 0b0100011
format Sw = S 0b010 0b0100011
-- computing with an immediate
format Addi = I 0b000 0b0010011
format Slti = I 0b010 0b0010011
format Sltiu = I 0b011 0b0010011
format Xori = I 0b100 0b0010011
format Ori = I 0b110 0b0010011
format Andi = I 0b111 0b0010011
format Slli = Shift 0b0000000 0b001 0b0010011
format Srli = Shift 0b0000000 0b101 0b0010011
format Srai = Shift 0b0100000 0b101 0b0010011
-- computing with two registers
format Add = R 0b0000000 0b000 0b0110011
format Sub = R 0b0100000 0b000 0b0110011
format Sll = R 0b0000000 0b001 0b0110011
format Slt = R 0b0000000 0b010 0b0110011
format Sltu = R 0b0000000 0b011 0b0110011
format Xor = R 0b0000000 0b100 0b0110011
format Srl = R 0b0000000 0b101 0b0110011
format Sra = R 0b0100000 0b101 0b0110011
format Or = R 0b0000000 0b110 0b0110011
format And = R 0b0000000 0b111 0b0110011
-- memory order, and the environment
format Fence = Open 0b000 0b0001111
format Ecall = Exact 0x00000073
format Ebreak = Exact 0x00100073
-- the number of instructions: instret and instreth
format Rdinstret = Csr 0xc02 0b010 0b1110011
format Rdinstreth = Csr 0xc82 0b010 0b1110011
-- M 2.0
format Mul = R 0b0000001 0b000 0b0110011
format Mulh = R 0b0000001 0b001 0b0110011
format Mulhsu = R 0b0000001 0b010 0b0110011
format Mulhu = R 0b0000001 0b011 0b0110011
format Div = R 0b0000001 0b100 0b0110011
format Divu = R 0b0000001 0b101 0b0110011
format Rem = R 0b0000001 0b110 0b0110011
format Remu = R 0b0000001 0b111 0b0110011

-- every operation, in the same order
abbrev pub table : List Op
table =
    Lui ∷ Auipc ∷ Jal ∷ Jalr ∷
    Beq ∷ Bne ∷ Blt ∷ Bge ∷ Bltu ∷ Bgeu ∷
    Lb ∷ Lh ∷ Lw ∷ Lbu ∷ Lhu ∷
    Sb ∷ Sh ∷ Sw ∷
    Addi ∷ Slti ∷ Sltiu ∷ Xori ∷ Ori ∷ Andi ∷ Slli ∷ Srli ∷ Srai ∷
    Add ∷ Sub ∷ Sll ∷ Slt ∷ Sltu ∷ Xor ∷ Srl ∷ Sra ∷ Or ∷ And ∷
    Fence ∷ Ecall ∷ Ebreak ∷
    Rdinstret ∷ Rdinstreth ∷
    Mul ∷ Mulh ∷ Mulhsu ∷ Mulhu ∷ Div ∷ Divu ∷ Rem ∷ Remu ∷ []

-- ---- what a word says

-- the three codes are those of the format; no codes are enough for one exact word, nor for a read of a register
abbrev pub has_codes : Format → ℕ → ℕ → ℕ → Bool
has_codes (U o) opcode funct3 funct7 = opcode == o
has_codes (J o) opcode funct3 funct7 = opcode == o
has_codes (I f3 o) opcode funct3 funct7 = (opcode == o) && (funct3 == f3)
has_codes (B f3 o) opcode funct3 funct7 = (opcode == o) && (funct3 == f3)
has_codes (S f3 o) opcode funct3 funct7 = (opcode == o) && (funct3 == f3)
has_codes (R f7 f3 o) opcode funct3 funct7 = (opcode == o) && (funct3 == f3) && (funct7 == f7)
has_codes (Shift f7 f3 o) opcode funct3 funct7 = (opcode == o) && (funct3 == f3) && (funct7 == f7)
has_codes (Open f3 o) opcode funct3 funct7 = (opcode == o) && (funct3 == f3)
has_codes (Exact word) opcode funct3 funct7 = false
has_codes (Csr number f3 o) opcode funct3 funct7 = false

-- w is a word of the format
abbrev pub fits : ℕ → Format → Bool
fits w (Exact word) = w == word
fits w (Csr number f3 o) = (opcode w == o) && (funct3 w == f3) && (rs1 w == 0) && (csr w == number)
fits w s = has_codes s (opcode w) (funct3 w) (funct7 w)

-- what a word of the format says; a field that the format lacks is 0
abbrev pub instr_of : Format → Op → ℕ → Instr
instr_of (U o) op w = record { op = op; rd = rd w; rs1 = 0; rs2 = 0; imm = imm_u w }
instr_of (J o) op w = record { op = op; rd = rd w; rs1 = 0; rs2 = 0; imm = imm_j w }
instr_of (I f3 o) op w = record { op = op; rd = rd w; rs1 = rs1 w; rs2 = 0; imm = imm_i w }
instr_of (B f3 o) op w = record { op = op; rd = 0; rs1 = rs1 w; rs2 = rs2 w; imm = imm_b w }
instr_of (S f3 o) op w = record { op = op; rd = 0; rs1 = rs1 w; rs2 = rs2 w; imm = imm_s w }
instr_of (R f7 f3 o) op w = record { op = op; rd = rd w; rs1 = rs1 w; rs2 = rs2 w; imm = pos 0 }
instr_of (Shift f7 f3 o) op w = record { op = op; rd = rd w; rs1 = rs1 w; rs2 = 0; imm = pos (rs2 w) }
instr_of (Open f3 o) op w = record { op = op; rd = 0; rs1 = 0; rs2 = 0; imm = pos 0 }
instr_of (Exact word) op w = record { op = op; rd = 0; rs1 = 0; rs2 = 0; imm = pos 0 }
instr_of (Csr number f3 o) op w = record { op = op; rd = rd w; rs1 = 0; rs2 = 0; imm = pos 0 }

-- the operation that w is a word of
abbrev pub op_of : ℕ → Option Op
op_of w = find (λ op. fits w (format op)) table

-- what the word w says by the table, if it stands there
unfoldable pub row_of : ℕ → Option Instr
row_of w = option_map (λ op. instr_of (format op) op w) (op_of w)

-- no other word of 32 bits says the instruction
abbrev pub IsOnlyWordOf : Instr → ℕ → Type 0
IsOnlyWordOf i word = (w : ℕ) → w < 2 ^ 32 → row_of w ≡ Some i → w ≡ word

-- ---- the word of an instruction

-- the word of the format with the fields of i in their places, from bit 31 down as the manual draws its formats
abbrev pub word_in : Format → Instr → ℕ
-- imm[31:12] rd opcode
word_in (U o) i = imm_bits 12 20 i.imm * 2 ^ 12 + i.rd * 2 ^ 7 + o
-- imm[20|10:1|11|19:12] rd opcode
word_in (J o) i =
    imm_bits 20 1 i.imm * 2 ^ 31 + imm_bits 1 10 i.imm * 2 ^ 21 + imm_bits 11 1 i.imm * 2 ^ 20 + imm_bits 12 8 i.imm * 2 ^ 12
    + i.rd * 2 ^ 7 + o
-- imm[11:0] rs1 funct3 rd opcode
word_in (I f3 o) i = imm_bits 0 12 i.imm * 2 ^ 20 + i.rs1 * 2 ^ 15 + f3 * 2 ^ 12 + i.rd * 2 ^ 7 + o
-- imm[12|10:5] rs2 rs1 funct3 imm[4:1|11] opcode
word_in (B f3 o) i =
    imm_bits 12 1 i.imm * 2 ^ 31 + imm_bits 5 6 i.imm * 2 ^ 25 + i.rs2 * 2 ^ 20 + i.rs1 * 2 ^ 15 + f3 * 2 ^ 12
    + imm_bits 1 4 i.imm * 2 ^ 8 + imm_bits 11 1 i.imm * 2 ^ 7 + o
-- imm[11:5] rs2 rs1 funct3 imm[4:0] opcode
word_in (S f3 o) i =
    imm_bits 5 7 i.imm * 2 ^ 25 + i.rs2 * 2 ^ 20 + i.rs1 * 2 ^ 15 + f3 * 2 ^ 12 + imm_bits 0 5 i.imm * 2 ^ 7 + o
-- funct7 rs2 rs1 funct3 rd opcode
word_in (R f7 f3 o) i = f7 * 2 ^ 25 + i.rs2 * 2 ^ 20 + i.rs1 * 2 ^ 15 + f3 * 2 ^ 12 + i.rd * 2 ^ 7 + o
-- funct7 shamt rs1 funct3 rd opcode
word_in (Shift f7 f3 o) i = f7 * 2 ^ 25 + imm_bits 0 5 i.imm * 2 ^ 20 + i.rs1 * 2 ^ 15 + f3 * 2 ^ 12 + i.rd * 2 ^ 7 + o
-- fm pred succ rs1 funct3 rd opcode, with pred and succ all ones: the FENCE that orders all accesses
word_in (Open f3 o) i = 0xff * 2 ^ 20 + f3 * 2 ^ 12 + o
word_in (Exact word) i = word
-- csr rs1 funct3 rd opcode, with x0 for rs1
word_in (Csr number f3 o) i = number * 2 ^ 20 + f3 * 2 ^ 12 + i.rd * 2 ^ 7 + o

-- the word of an instruction that has one
unfoldable pub encoding_of : Instr → ℕ
encoding_of i = word_in (format i.op) i

-- ---- valid instructions

-- z can be written in n bits of two's complement
abbrev pub FitsBits : ℕ → ℤ → Type 0
FitsBits n z = (neg_ℤ (pos (2 ^ (n - 1))) ≤ℤ z) × (z <ℤ pos (2 ^ (n - 1)))

-- the low n bits of the two's complement of z are 0
abbrev pub LowBitsZero : ℕ → ℤ → Type 0
LowBitsZero n z = cast_unsigned w32 z % 2 ^ n ≡ 0

-- the registers are below 32, what is not used is 0, and the format can hold the immediate
abbrev pub FitsFormat : Format → Instr → Type 0
FitsFormat (U o) i = (i.rd < 32) × (i.rs1 ≡ 0) × (i.rs2 ≡ 0) × FitsBits 32 i.imm × LowBitsZero 12 i.imm
FitsFormat (J o) i = (i.rd < 32) × (i.rs1 ≡ 0) × (i.rs2 ≡ 0) × FitsBits 21 i.imm × LowBitsZero 1 i.imm
FitsFormat (I f3 o) i = (i.rd < 32) × (i.rs1 < 32) × (i.rs2 ≡ 0) × FitsBits 12 i.imm
FitsFormat (B f3 o) i = (i.rd ≡ 0) × (i.rs1 < 32) × (i.rs2 < 32) × FitsBits 13 i.imm × LowBitsZero 1 i.imm
FitsFormat (S f3 o) i = (i.rd ≡ 0) × (i.rs1 < 32) × (i.rs2 < 32) × FitsBits 12 i.imm
FitsFormat (R f7 f3 o) i = (i.rd < 32) × (i.rs1 < 32) × (i.rs2 < 32) × (i.imm ≡ pos 0)
FitsFormat (Shift f7 f3 o) i = (i.rd < 32) × (i.rs1 < 32) × (i.rs2 ≡ 0) × (pos 0 ≤ℤ i.imm) × (i.imm <ℤ pos 32)
FitsFormat (Open f3 o) i = (i.rd ≡ 0) × (i.rs1 ≡ 0) × (i.rs2 ≡ 0) × (i.imm ≡ pos 0)
FitsFormat (Exact word) i = (i.rd ≡ 0) × (i.rs1 ≡ 0) × (i.rs2 ≡ 0) × (i.imm ≡ pos 0)
FitsFormat (Csr number f3 o) i = (i.rd < 32) × (i.rs1 ≡ 0) × (i.rs2 ≡ 0) × (i.imm ≡ pos 0)

-- the instruction has a word
abbrev pub IsValid : Instr → Type 0
IsValid i = FitsFormat (format i.op) i

-- the registers are below 32
abbrev pub HasRegisters : Instr → Type 0
HasRegisters i = (i.rd < 32) × (i.rs1 < 32) × (i.rs2 < 32)

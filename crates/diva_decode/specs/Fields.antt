-- The parts of an instruction's word, and the immediates that its formats put together from them.
-- (RISC-V Unprivileged ISA, RV32I 2.1, "Base Instruction Formats" and "Immediate Encoding Variants".)
-- Cited in `Table.antt`, for `decode` and `encode`.
use Rattle.std.specs.Prelude.{ℕ, ◌+◌, ◌-◌, ◌*◌, ◌/◌, ◌%◌, ◌^◌, ℤ, pos, ◌-ℤ◌, if◌then◌else◌, nat_lt}
use Rattle.std.specs.Int.{cast_unsigned, w32}

-- n bits of w, from bit low up
abbrev pub field : ℕ → ℕ → ℕ → ℕ
field low n w = w / 2 ^ low % 2 ^ n

abbrev pub opcode : ℕ → ℕ
opcode w = w % 2 ^ 7

abbrev pub rd : ℕ → ℕ
rd = field 7 5

abbrev pub funct3 : ℕ → ℕ
funct3 = field 12 3

abbrev pub rs1 : ℕ → ℕ
rs1 = field 15 5

abbrev pub rs2 : ℕ → ℕ
rs2 = field 20 5

abbrev pub funct7 : ℕ → ℕ
funct7 = field 25 7

-- the number of a control and status register
abbrev pub csr : ℕ → ℕ
csr = field 20 12

-- n bits read as two's complement
abbrev pub signed : ℕ → ℕ → ℤ
signed n bits = if nat_lt bits (2 ^ (n - 1)) then pos bits else pos bits -ℤ pos (2 ^ n)

-- bits 31..20
abbrev pub imm_i : ℕ → ℤ
imm_i w = signed 12 (field 20 12 w)

-- bits 31..25, then 11..7
abbrev pub imm_s : ℕ → ℤ
imm_s w = signed 12 (field 25 7 w * 2 ^ 5 + field 7 5 w)

-- bit 31 is its bit 12, bit 7 its bit 11, bits 30..25 its bits 10..5, bits 11..8 its bits 4..1
abbrev pub imm_b : ℕ → ℤ
imm_b w = signed 13 (field 31 1 w * 2 ^ 12 + field 7 1 w * 2 ^ 11 + field 25 6 w * 2 ^ 5 + field 8 4 w * 2 ^ 1)

-- bits 31..12, in place
abbrev pub imm_u : ℕ → ℤ
imm_u w = signed 32 (field 12 20 w * 2 ^ 12)

-- bit 31 is its bit 20, bits 19..12 are in place, bit 20 is its bit 11, bits 30..21 its bits 10..1
abbrev pub imm_j : ℕ → ℤ
imm_j w = signed 21 (field 31 1 w * 2 ^ 20 + field 12 8 w * 2 ^ 12 + field 20 1 w * 2 ^ 11 + field 21 10 w * 2 ^ 1)

-- n bits of the two's complement of an immediate z, from bit low up
abbrev pub imm_bits : ℕ → ℕ → ℤ → ℕ
imm_bits low n z = field low n (cast_unsigned w32 z)

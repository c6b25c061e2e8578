-- What the operations compute, of words: numbers below 2 ^ 32. (RISC-V Unprivileged ISA, RV32I 2.1, "Integer
-- Computational Instructions", "Control Transfer Instructions" and "Load and Store Instructions", and chapter M 2.0.)
-- Cited by `alu`, `branch_taken` and `load_value`.
use Rattle.std.specs.Prelude.{ℕ, ◌+◌, ◌-◌, ◌*◌, ◌/◌, ◌%◌, ◌^◌, ◌==◌, Bool, false, not, ℤ, pos, ◌*ℤ◌, if◌then◌else◌, nat_lt, nat_le, int_lt, int_le, int_div, int_rem, bit_and, bit_or, bit_xor}
use Rattle.std.specs.Int.{cast_unsigned, cast_signed, int_shr, w8, w16, w32, w64}
use Rattle.diva_decode.specs.declared.op.Op.{Op}
use Rattle.diva_decode.specs.declared.op.Op.TheVariants.{Lui, Auipc, Jal, Jalr, Beq, Bne, Blt, Bge, Bltu, Bgeu, Lb, Lh, Lw, Lbu, Lhu, Sb, Sh, Sw, Addi, Slti, Sltiu, Xori, Ori, Andi, Slli, Srli, Srai, Add, Sub, Sll, Slt, Sltu, Xor, Srl, Sra, Or, And, Fence, Ecall, Ebreak, Rdinstret, Rdinstreth, Mul, Mulh, Mulhsu, Mulhu, Div, Divu, Rem, Remu}

-- w read as two's complement
abbrev pub s : ℕ → ℤ
s w = cast_signed w32 w

-- the word that z is in two's complement
abbrev pub bits_of : ℤ → ℕ
bits_of z = cast_unsigned w32 z

-- the high word of a product in 64 bits
abbrev pub high : ℤ → ℕ
high z = cast_unsigned w64 z / 2 ^ 32

-- the result of an operation on a and b, where b is rs2 or the immediate; 0 of one that computes nothing
abbrev pub alu : Op → ℕ → ℕ → ℕ
alu Addi a b = (a + b) % 2 ^ 32
alu Slti a b = if int_lt (s a) (s b) then 1 else 0
alu Sltiu a b = if nat_lt a b then 1 else 0
alu Xori a b = bit_xor a b
alu Ori a b = bit_or a b
alu Andi a b = bit_and a b
alu Slli a b = a * 2 ^ (b % 32) % 2 ^ 32
alu Srli a b = a / 2 ^ (b % 32)
alu Srai a b = bits_of (int_shr (s a) (b % 32))
alu Add a b = (a + b) % 2 ^ 32
alu Sub a b = (a + (2 ^ 32 - b)) % 2 ^ 32
alu Sll a b = a * 2 ^ (b % 32) % 2 ^ 32
alu Slt a b = if int_lt (s a) (s b) then 1 else 0
alu Sltu a b = if nat_lt a b then 1 else 0
alu Xor a b = bit_xor a b
alu Srl a b = a / 2 ^ (b % 32)
alu Sra a b = bits_of (int_shr (s a) (b % 32))
alu Or a b = bit_or a b
alu And a b = bit_and a b
alu Mul a b = a * b % 2 ^ 32
alu Mulh a b = high (s a *ℤ s b)
alu Mulhsu a b = high (s a *ℤ pos b)
alu Mulhu a b = a * b / 2 ^ 32
-- int_div and int_rem are of mathematical numbers: int_div rounds toward zero, and the remainder of int_rem has the
-- dividend's sign. So -2^31 by -1 needs no case of its own: the quotient is 2^31, whose word in 32 bits reads -2^31 again,
-- and the remainder is 0. By zero the quotient is all ones, and the remainder is the dividend.
alu Div a b = if b == 0 then 2 ^ 32 - 1 else bits_of (int_div (s a) (s b))
alu Divu a b = if b == 0 then 2 ^ 32 - 1 else a / b
alu Rem a b = if b == 0 then a else bits_of (int_rem (s a) (s b))
alu Remu a b = if b == 0 then a else a % b
alu Lui a b = 0
alu Auipc a b = 0
alu Jal a b = 0
alu Jalr a b = 0
alu Beq a b = 0
alu Bne a b = 0
alu Blt a b = 0
alu Bge a b = 0
alu Bltu a b = 0
alu Bgeu a b = 0
alu Lb a b = 0
alu Lh a b = 0
alu Lw a b = 0
alu Lbu a b = 0
alu Lhu a b = 0
alu Sb a b = 0
alu Sh a b = 0
alu Sw a b = 0
alu Fence a b = 0
alu Ecall a b = 0
alu Ebreak a b = 0
alu Rdinstret a b = 0
alu Rdinstreth a b = 0

-- whether a branch on a and b is taken; the six branches, and never another operation
abbrev pub is_taken : Op → ℕ → ℕ → Bool
is_taken Beq a b = a == b
is_taken Bne a b = not (a == b)
is_taken Blt a b = int_lt (s a) (s b)
is_taken Bge a b = int_le (s b) (s a)
is_taken Bltu a b = nat_lt a b
is_taken Bgeu a b = nat_le b a
is_taken op a b = false

-- what a load makes of its 1, 2 or 4 bytes; the five loads, and 0 of another operation
abbrev pub extended : Op → ℕ → ℕ
extended Lb bytes = bits_of (cast_signed w8 (bytes % 2 ^ 8))
extended Lh bytes = bits_of (cast_signed w16 (bytes % 2 ^ 16))
extended Lw bytes = bytes
extended Lbu bytes = bytes % 2 ^ 8
extended Lhu bytes = bytes % 2 ^ 16
extended op bytes = 0

-- the word that is read of a number of 64 bits, its low one or its high one; the two reads, and 0 of another operation
abbrev pub half_read : Op → ℕ → ℕ
half_read Rdinstret n = n % 2 ^ 32
half_read Rdinstreth n = n / 2 ^ 32 % 2 ^ 32
half_read op n = 0

-- A large valid image from a number, its seed: instructions that are drawn one after the other, and a halt behind them.
-- Cited by `soak_image` and `soak_halts`.
use Rattle.std.specs.Prelude.{ℕ, zero, suc, ◌+◌, ◌-◌, ◌*◌, ◌%◌, List, [], ◌∷◌, ◌++◌, flat_map, get_or, replicate, ℤ, pos}
use Rattle.std.specs.Int.{to_le_bytes, w32}
use Rattle.diva_decode.specs.Fields.{field}
use Rattle.diva_decode.specs.Table.{encoding_of}
use Rattle.diva_decode.specs.declared.op.Op.{Op}
use Rattle.diva_decode.specs.declared.op.Op.TheVariants.{Blt, Lw, Sw, Addi, Sub, Xor, Mul, Rem}
use Rattle.diva_decode.specs.declared.instr.Instr.{Instr}
use Rattle.diva_image.specs.Layout.{Layout}
use Rattle.diva_seed.specs.Generator.{next_number}

-- ---- one instruction

-- an operation on two registers
abbrev pub of_registers : Op → (rd rs1 rs2 : ℕ) → Instr
of_registers op rd rs1 rs2 = record { op = op; rd = rd; rs1 = rs1; rs2 = rs2; imm = pos 0 }

-- an operation on a register and an immediate
abbrev pub of_immediate : Op → (rd rs1 : ℕ) → ℤ → Instr
of_immediate op rd rs1 imm = record { op = op; rd = rd; rs1 = rs1; rs2 = 0; imm = imm }

-- an operation that reads two registers and writes none
abbrev pub of_sources : Op → (rs1 rs2 : ℕ) → ℤ → Instr
of_sources op rs1 rs2 imm = record { op = op; rd = 0; rs1 = rs1; rs2 = rs2; imm = imm }

-- the instructions of the kinds 0 to 7, in this order
abbrev pub kinds : (rd rs1 rs2 m q : ℕ) → List Instr
kinds rd rs1 rs2 m q =
    -- addi rd, rs1, m
    of_immediate Addi rd rs1 (pos m)
    -- sub, xor, mul and rem rd, rs1, rs2
    ∷ of_registers Sub rd rs1 rs2
    ∷ of_registers Xor rd rs1 rs2
    ∷ of_registers Mul rd rs1 rs2
    ∷ of_registers Rem rd rs1 rs2
    -- blt rs1, rs2 to pc + 8
    ∷ of_sources Blt rs1 rs2 (pos 8)
    -- sw rs2, q(x0)
    ∷ of_sources Sw 0 rs2 (pos q)
    -- lw rd, q(x0)
    ∷ of_immediate Lw rd 0 (pos q)
    ∷ []

-- the instruction that x draws: its kind is in bits 31 to 29, its registers are x1 to x8, m is 0 to 2047, and q is the
-- greatest multiple of 4 that is no more than m
unfoldable pub drawn : ℕ → Instr
drawn x =
    let kind = field 29 3 x in
    let rd = 1 + field 26 3 x in
    let rs1 = 1 + field 23 3 x in
    let rs2 = 1 + field 20 3 x in
    let m = field 9 11 x in
    let q = m - m % 4 in
    get_or (kinds rd rs1 rs2 m q) kind (of_immediate Lw rd 0 (pos q))

-- ---- the image

-- the words of the instructions that n numbers draw, the numbers after x
abbrev pub words_after : (n x : ℕ) → List ℕ
words_after zero x = []
words_after (suc n) x = encoding_of (drawn (next_number x)) ∷ words_after n (next_number x)

-- addi x0, x0, 0; addi x17, x0, 93; ecall: a halt with the status that x10 holds
abbrev pub last_words : List ℕ
last_words = 0x00000013 ∷ 0x05d00893 ∷ 0x00000073 ∷ []

-- words as bytes, the lowest of each first
abbrev pub words_as_bytes : List ℕ → List ℕ
words_as_bytes words = flat_map (to_le_bytes w32) words

-- 2,048 bytes for data, all 0, then the code
unfoldable pub payload_of : (seed n : ℕ) → List ℕ
payload_of seed n = replicate 2048 0 ++ words_as_bytes (words_after n seed ++ last_words)

-- how many bytes memory has with n drawn instructions: 2,048 for data, and the code, which fills it
abbrev pub soak_size : (n : ℕ) → ℕ
soak_size n = 2048 + 4 * (n + 3)

-- the image of a seed, with n drawn instructions
abbrev pub soak_of : (seed n : ℕ) → Layout
soak_of seed n = record { base = 0; size = soak_size n; entry = 2048; payload = payload_of seed n }

-- What the core notes of an instruction that it fetches, and where it fetches next.
-- Cited in `Ooo.antt`, for what `Ooo` gives.
use Rattle.std.specs.Prelude.{ℕ, ◌+◌, ◌^◌, ◌%◌, ◌==◌, Bool, true, false, Option, Some, None, if◌then◌else◌, int_lt, pos}
use Rattle.diva_decode.specs.declared.instr.Instr.{Instr}
use Rattle.diva_decode.specs.declared.op.Op.{Op}
use Rattle.diva_decode.specs.declared.op.Op.TheVariants.{Lb, Lh, Lw, Lbu, Lhu, Mul, Mulh, Mulhsu, Mulhu, Div, Divu, Rem, Remu}
use Rattle.diva_isa.specs.Kind.{kind}
use Rattle.diva_isa.specs.Step.{imm}
use Rattle.diva_isa.specs.declared.kind.Kind.{Kind}
use Rattle.diva_isa.specs.declared.kind.Kind.TheVariants.{Lui, Auipc, Jal, Jalr, Branch, Load, Store, OpImm, OpReg, Fence, Ecall, Ebreak, Counter}
use Rattle.diva_ooo.specs.declared.profile.Profile.{Profile}
use Rattle.diva_ooo.specs.declared.profile.Class.{Class}
use Rattle.diva_ooo.specs.declared.profile.Class.TheVariants.{Plain, Loads, Stores, Oldest}

-- the cycles that an operation runs
abbrev pub cycles_of : Op → ℕ
cycles_of Lb = 2
cycles_of Lh = 2
cycles_of Lw = 2
cycles_of Lbu = 2
cycles_of Lhu = 2
cycles_of Mul = 3
cycles_of Mulh = 3
cycles_of Mulhsu = 3
cycles_of Mulhu = 3
cycles_of Div = 8
cycles_of Divu = 8
cycles_of Rem = 8
cycles_of Remu = 8
cycles_of op = 1

-- what else than its sources an instruction of a kind waits for
abbrev pub class_of : Kind → Class
class_of (Load width) = Loads
class_of (Store width) = Stores
class_of Ecall = Oldest
class_of Counter = Oldest
class_of other = Plain

abbrev pub profiled : (rs1 rs2 rd : ℕ) → Class → (cycles : ℕ) → Profile
profiled rs1 rs2 rd class cycles = record { rs1 = rs1; rs2 = rs2; rd = rd; class = class; cycles = cycles }

-- the registers that an instruction reads and writes, x0 where it reads or writes none. A call reads none here: it waits until
-- no older instruction is under way
abbrev pub profile : Kind → Instr → Profile
profile Lui i = profiled 0 0 i.rd Plain (cycles_of i.op)
profile Auipc i = profiled 0 0 i.rd Plain (cycles_of i.op)
profile Jal i = profiled 0 0 i.rd Plain (cycles_of i.op)
profile Jalr i = profiled i.rs1 0 i.rd Plain (cycles_of i.op)
profile Branch i = profiled i.rs1 i.rs2 0 Plain (cycles_of i.op)
profile (Load width) i = profiled i.rs1 0 i.rd Loads (cycles_of i.op)
profile (Store width) i = profiled i.rs1 i.rs2 0 Stores (cycles_of i.op)
profile OpImm i = profiled i.rs1 0 i.rd Plain (cycles_of i.op)
profile OpReg i = profiled i.rs1 i.rs2 i.rd Plain (cycles_of i.op)
profile Fence i = profiled 0 0 0 Plain (cycles_of i.op)
profile Ecall i = profiled 0 0 0 Oldest (cycles_of i.op)
profile Ebreak i = profiled 0 0 0 Plain (cycles_of i.op)
profile Counter i = profiled 0 0 i.rd Oldest (cycles_of i.op)

-- the same of what a word says; one that says nothing, and no word, run one cycle
abbrev pub profile_by : Option Instr → Profile
profile_by None = profiled 0 0 0 Plain 1
profile_by (Some i) = profile (kind i.op) i

-- ---- the prediction

-- a jump, and a branch backwards, are predicted to be taken
abbrev pub is_taken_by : Kind → Instr → Bool
is_taken_by Lui i = false
is_taken_by Auipc i = false
is_taken_by Jal i = true
is_taken_by Jalr i = false
is_taken_by Branch i = int_lt i.imm (pos 0)
is_taken_by (Load width) i = false
is_taken_by (Store width) i = false
is_taken_by OpImm i = false
is_taken_by OpReg i = false
is_taken_by Fence i = false
is_taken_by Ecall i = false
is_taken_by Ebreak i = false
is_taken_by Counter i = false

abbrev pub target_or_next : (pc target : ℕ) → ℕ
target_or_next pc target = if target % 4 == 0 then target else (pc + 4) % 2 ^ 32

-- where the instruction behind one at pc is fetched: at the target of what is predicted to be taken, if that is a
-- multiple of 4, else at the next word
abbrev pub predicted : Option Instr → ℕ → ℕ
predicted None pc = (pc + 4) % 2 ^ 32
predicted (Some i) pc = if is_taken_by (kind i.op) i then target_or_next pc ((pc + imm i) % 2 ^ 32) else (pc + 4) % 2 ^ 32

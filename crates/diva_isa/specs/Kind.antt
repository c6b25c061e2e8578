-- The kind of each operation: what its record has in common with others.
-- Cited by `kind_of`, `access` and `execute`.
use Rattle.std.specs.Prelude.{ℕ, Bool, true, false, Option, Some, None}
use Rattle.diva_decode.specs.declared.instr.Instr.{Instr}
use Rattle.diva_decode.specs.declared.op.Op.{Op}
use Rattle.diva_decode.specs.declared.op.Op.TheVariants.{Lui as LuiOp, Auipc as AuipcOp, Jal as JalOp, Jalr as JalrOp, Beq, Bne, Blt, Bge, Bltu, Bgeu, Lb, Lh, Lw, Lbu, Lhu, Sb, Sh, Sw, Addi, Slti, Sltiu, Xori, Ori, Andi, Slli, Srli, Srai, Add, Sub, Sll, Slt, Sltu, Xor, Srl, Sra, Or, And, Fence as FenceOp, Ecall as EcallOp, Ebreak as EbreakOp, Rdinstret, Rdinstreth, Mul, Mulh, Mulhsu, Mulhu, Div, Divu, Rem, Remu}
use Rattle.diva_isa.specs.declared.kind.Width.{Width}
use Rattle.diva_isa.specs.declared.kind.Width.TheVariants.{Byte, Half, Word}
use Rattle.diva_isa.specs.declared.kind.Kind.{Kind}
use Rattle.diva_isa.specs.declared.kind.Kind.TheVariants.{Lui, Auipc, Jal, Jalr, Branch, Load, Store, OpImm, OpReg, Fence, Ecall, Ebreak, Counter}

abbrev pub kind : Op → Kind
kind LuiOp = Lui
kind AuipcOp = Auipc
kind JalOp = Jal
kind JalrOp = Jalr
kind Beq = Branch
kind Bne = Branch
kind Blt = Branch
kind Bge = Branch
kind Bltu = Branch
kind Bgeu = Branch
kind Lb = Load Byte
kind Lh = Load Half
kind Lw = Load Word
kind Lbu = Load Byte
kind Lhu = Load Half
kind Sb = Store Byte
kind Sh = Store Half
kind Sw = Store Word
kind Addi = OpImm
kind Slti = OpImm
kind Sltiu = OpImm
kind Xori = OpImm
kind Ori = OpImm
kind Andi = OpImm
kind Slli = OpImm
kind Srli = OpImm
kind Srai = OpImm
kind Add = OpReg
kind Sub = OpReg
kind Sll = OpReg
kind Slt = OpReg
kind Sltu = OpReg
kind Xor = OpReg
kind Srl = OpReg
kind Sra = OpReg
kind Or = OpReg
kind And = OpReg
kind FenceOp = Fence
kind EcallOp = Ecall
kind EbreakOp = Ebreak
kind Rdinstret = Counter
kind Rdinstreth = Counter
kind Mul = OpReg
kind Mulh = OpReg
kind Mulhsu = OpReg
kind Mulhu = OpReg
kind Div = OpReg
kind Divu = OpReg
kind Rem = OpReg
kind Remu = OpReg

-- how many bytes a width is
abbrev pub size : Width → ℕ
size Byte = 1
size Half = 2
size Word = 4

-- an operation of the kind is a load or a store
abbrev pub moves_memory : Kind → Bool
moves_memory Lui = false
moves_memory Auipc = false
moves_memory Jal = false
moves_memory Jalr = false
moves_memory Branch = false
moves_memory (Load width) = true
moves_memory (Store width) = true
moves_memory OpImm = false
moves_memory OpReg = false
moves_memory Fence = false
moves_memory Ecall = false
moves_memory Ebreak = false
moves_memory Counter = false

-- an operation of the kind reads `instret`
abbrev pub reads_instret : Kind → Bool
reads_instret Counter = true
reads_instret other = false

-- so does what a word says
abbrev pub reads_instret_by : Option Instr → Bool
reads_instret_by None = false
reads_instret_by (Some i) = reads_instret (kind i.op)

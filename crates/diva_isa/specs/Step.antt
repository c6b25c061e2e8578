-- The record of the next instruction of a state, and what applying a record does. (RISC-V Unprivileged ISA, chapters
-- RV32I 2.1 and M 2.0, and the two reads of `instret` of Zicntr. Traps, the services of ECALL and how the
-- machine ends are what the manual leaves to choose.)
-- Cited by `record_of`, `effect_of`, `Plain::step` and `run`; by `commit` of diva_commit.
use Rattle.std.specs.Prelude.{◌<◌, ℕ, zero, suc, ◌+◌, ◌*◌, ◌/◌, ◌%◌, ◌^◌, ◌==◌, Bool, true, false, [], ◌∷◌, ◌++◌, Option, Some, None, length, if◌then◌else◌, nat_lt, ⊤}
use Rattle.std.specs.Int.{cast_unsigned, w32}
use Rattle.diva_decode.specs.declared.op.Op.{Op}
use Rattle.diva_decode.specs.declared.instr.Instr.{Instr}
use Rattle.diva_decode.specs.Table.{row_of}
use Rattle.diva_memory.specs.Bytes.{put_all, low_bytes}
use Rattle.diva_isa.specs.State.{State, reg_of, memory_of, number_of, word_of, goes_on, output_limit}
use Rattle.diva_isa.specs.Alu.{alu, is_taken, extended, half_read}
use Rattle.diva_isa.specs.Kind.{kind, size}
use Rattle.diva_isa.specs.Regs.{with_reg}
use Rattle.diva_isa.specs.End.{halt, trap}
use Rattle.diva_isa.specs.declared.kind.Kind.{Kind}
use Rattle.diva_isa.specs.declared.kind.Kind.TheVariants.{Lui, Auipc, Jal, Jalr, Branch, Load, Store, OpImm, OpReg, Fence, Ecall, Ebreak, Counter}
use Rattle.diva_isa.specs.declared.trap.Trap.TheVariants.{InstructionMisaligned, InstructionAccessFault, IllegalInstruction, Breakpoint, LoadMisaligned, LoadAccessFault, StoreMisaligned, StoreAccessFault, CallNotServed, OutputFull}
use Rattle.diva_isa.specs.declared.record.Record.{Record}
use Rattle.diva_isa.specs.declared.record.Outcome.{Outcome}
use Rattle.diva_isa.specs.declared.effect.Effect.{Effect}
use Rattle.diva_isa.specs.declared.effect.Effect.TheVariants.{Nothing, Writes, Stores, Puts}

-- the immediate as a word
abbrev pub imm : Instr → ℕ
imm i = cast_unsigned w32 i.imm

-- ---- what an instruction comes to: its value, where it leads, and how it ends

-- the next one in order follows
abbrev pub continues : (pc value : ℕ) → Outcome
continues pc value = record { value = value; next = (pc + 4) % 2 ^ 32; end = 0 }

-- the machine ends at pc
abbrev pub ended : (pc end : ℕ) → Outcome
ended pc end = record { value = 0; next = pc; end = end }

-- it leads to a target, which has to be a multiple of 4
abbrev pub jumps_to : (pc value target : ℕ) → Outcome
jumps_to pc value target =
    if target % 4 == 0 then record { value = value; next = target; end = 0 } else ended pc (trap InstructionMisaligned)

-- a load gives its number, extended
abbrev pub loaded : (pc : ℕ) → Op → Option ℕ → Outcome
loaded pc op None = ended pc (trap LoadAccessFault)
loaded pc op (Some number) = continues pc (extended op number)

-- a load of n bytes; that it is misaligned comes before that it is outside
abbrev pub load : State → (pc addr : ℕ) → Op → ℕ → Outcome
load s pc addr op n = if addr % n == 0 then loaded pc op (number_of s n addr) else ended pc (trap LoadMisaligned)

-- a store stores the low n bytes of b
abbrev pub stored : (pc b n : ℕ) → Option ℕ → Outcome
stored pc b n None = ended pc (trap StoreAccessFault)
stored pc b n (Some number) = continues pc (b % 2 ^ (8 * n))

-- a store of n bytes; that it is misaligned comes before that it is outside
abbrev pub store : State → (pc addr b : ℕ) → ℕ → Outcome
store s pc addr b n = if addr % n == 0 then stored pc b n (number_of s n addr) else ended pc (trap StoreMisaligned)

-- a call for service 1 puts the low byte of b, where the output has room, and one for 93 halts with it; no other is served
abbrev pub call : State → (pc a b : ℕ) → Outcome
call s pc a b =
    if a == 1 then (if nat_lt (length s.output) output_limit then continues pc (b % 2 ^ 8) else ended pc (trap OutputFull))
    else (if a == 93 then ended pc (halt (b % 2 ^ 8)) else ended pc (trap CallNotServed))

-- ---- what an instruction does, a row for each kind

pub record Behaviour : Type 0 where
  -- the registers that it reads, if any; the words in them are a and b
  pub src1 : Option ℕ
  pub src2 : Option ℕ
  -- where it loads or stores, 0 where it does neither
  pub addr : (a : ℕ) → ℕ
  -- what it comes to at pc
  pub outcome : State → (pc a b addr : ℕ) → Outcome
  -- what a record of it, right or wrong, does besides moving pc and being counted
  pub effect : Record → Effect

-- it reads nothing and computes nothing, and the next one in order follows; a row says in what its kind differs from that
abbrev pub does_nothing : Behaviour
does_nothing = record { src1 = None; src2 = None; addr = λ a. 0; outcome = λ s pc a b addr. continues pc 0; effect = λ r. Nothing }

-- its value goes into rd
abbrev pub writes : ℕ → Record → Effect
writes rd r = Writes rd r.value

abbrev pub behaviour : Kind → Instr → Behaviour
-- LUI: the immediate goes into rd
behaviour Lui i = record does_nothing { outcome = λ s pc a b addr. continues pc (imm i); effect = writes i.rd }
-- AUIPC: the sum of pc and the immediate goes into rd
behaviour Auipc i = record does_nothing { outcome = λ s pc a b addr. continues pc ((pc + imm i) % 2 ^ 32); effect = writes i.rd }
-- JAL: it goes on at the sum of pc and the immediate, and the address after its own goes into rd
behaviour Jal i =
    record does_nothing {
      outcome = λ s pc a b addr. jumps_to pc ((pc + 4) % 2 ^ 32) ((pc + imm i) % 2 ^ 32);
      effect = writes i.rd;
    }
-- JALR: it goes on at the sum of rs1 and the immediate, whose lowest bit it clears, and the address after its own goes into rd
behaviour Jalr i =
    record does_nothing {
      src1 = Some i.rs1;
      outcome = λ s pc a b addr. jumps_to pc ((pc + 4) % 2 ^ 32) ((a + imm i) % 2 ^ 32 / 2 * 2);
      effect = writes i.rd;
    }
-- BEQ BNE BLT BGE BLTU BGEU: it compares rs1 with rs2, and if they are as its name says, it goes on at the sum of pc and the immediate
behaviour Branch i =
    record does_nothing {
      src1 = Some i.rs1;
      src2 = Some i.rs2;
      outcome = λ s pc a b addr. if is_taken i.op a b then jumps_to pc 0 ((pc + imm i) % 2 ^ 32) else continues pc 0;
    }
-- LB LH LW LBU LHU: the bytes from the sum of rs1 and the immediate on go into rd, extended to a word by their sign or by zeros
behaviour (Load width) i =
    record does_nothing {
      src1 = Some i.rs1;
      addr = λ a. (a + imm i) % 2 ^ 32;
      outcome = λ s pc a b addr. load s pc addr i.op (size width);
      effect = writes i.rd;
    }
-- SB SH SW: the low bytes of rs2 go to memory, from the sum of rs1 and the immediate on
behaviour (Store width) i =
    record does_nothing {
      src1 = Some i.rs1;
      src2 = Some i.rs2;
      addr = λ a. (a + imm i) % 2 ^ 32;
      outcome = λ s pc a b addr. store s pc addr b (size width);
      effect = λ r. Stores width r.addr r.value;
    }
-- ADDI SLTI SLTIU XORI ORI ANDI SLLI SRLI SRAI: what the operation makes of rs1 and the immediate goes into rd
behaviour OpImm i = record does_nothing { src1 = Some i.rs1; outcome = λ s pc a b addr. continues pc (alu i.op a (imm i)); effect = writes i.rd }
-- ADD SUB SLL SLT SLTU XOR SRL SRA OR AND MUL MULH MULHSU MULHU DIV DIVU REM REMU: what it makes of rs1 and rs2 goes into rd
behaviour OpReg i =
    record does_nothing {
      src1 = Some i.rs1;
      src2 = Some i.rs2;
      outcome = λ s pc a b addr. continues pc (alu i.op a b);
      effect = writes i.rd;
    }
-- FENCE: it does nothing, since each store is in memory before the next instruction
behaviour Fence i = does_nothing
-- ECALL: it asks for the service that x17 names, with x10; a record that asks for service 1 puts its value's low byte to the output
behaviour Ecall i =
    record does_nothing {
      src1 = Some 17;
      src2 = Some 10;
      outcome = λ s pc a b addr. call s pc a b;
      effect = λ r. if r.src1 == 1 then Puts (r.value % 2 ^ 8) else Nothing;
    }
-- EBREAK: it traps
behaviour Ebreak i = record does_nothing { outcome = λ s pc a b addr. ended pc (trap Breakpoint) }
-- RDINSTRET RDINSTRETH: the low or the high word of the number of instructions before this one goes into rd
behaviour Counter i = record does_nothing { outcome = λ s pc a b addr. continues pc (half_read i.op s.instret); effect = writes i.rd }

-- ---- the columns of these rows

-- the word of a register that is read, 0 where none is
abbrev pub word_read : State → Option ℕ → ℕ
word_read s None = 0
word_read s (Some n) = reg_of s n

abbrev pub source1 : Kind → State → Instr → ℕ
source1 k s i = word_read s (behaviour k i).src1

abbrev pub source2 : Kind → State → Instr → ℕ
source2 k s i = word_read s (behaviour k i).src2

abbrev pub address : Kind → Instr → ℕ → ℕ
address k i a = (behaviour k i).addr a

abbrev pub outcome : Kind → State → Instr → (pc a b addr : ℕ) → Outcome
outcome k s i pc a b addr = (behaviour k i).outcome s pc a b addr

abbrev pub effect : Kind → Instr → Record → Effect
effect k i r = (behaviour k i).effect r

-- ---- the parts of a record, by what its word says: `None` where there is no word, or one that is not of the table

abbrev pub source1_of : Option Instr → State → ℕ
source1_of None s = 0
source1_of (Some i) s = source1 (kind i.op) s i

abbrev pub source2_of : Option Instr → State → ℕ
source2_of None s = 0
source2_of (Some i) s = source2 (kind i.op) s i

abbrev pub address_of : Option Instr → ℕ → ℕ
address_of None a = 0
address_of (Some i) a = address (kind i.op) i a

-- a word that says nothing traps, and so does a pc at which no word stands
abbrev pub outcome_of : (there : Bool) → Option Instr → State → (pc a b addr : ℕ) → Outcome
outcome_of there (Some i) s pc a b addr = outcome (kind i.op) s i pc a b addr
outcome_of true None s pc a b addr = ended pc (trap IllegalInstruction)
outcome_of false None s pc a b addr = ended pc (trap InstructionAccessFault)

-- ---- the record

-- the parts of a record put together
abbrev pub record_with : (pc word a b addr : ℕ) → Outcome → Record
record_with pc word a b addr o =
    record { pc = pc; word = word; src1 = a; src2 = b; addr = addr; value = o.value; next = o.next; end = o.end }

-- the record of a word w by what it says; `there` is false where no word could be fetched, and w is then 0
abbrev pub record_by : State → (there : Bool) → ℕ → (decoded : Option Instr) → Record
record_by s there w decoded =
    let a = source1_of decoded s in let b = source2_of decoded s in let addr = address_of decoded a in
    record_with s.pc w a b addr (outcome_of there decoded s s.pc a b addr)

-- the record by the word that was fetched
abbrev pub record_fetched : State → Option ℕ → Record
record_fetched s None = record_by s false 0 None
record_fetched s (Some w) = record_by s true w (row_of w)

-- the record of a state's next instruction
unfoldable pub record_of : State → Record
record_of s = record_fetched s (word_of s s.pc)

-- ---- what applying a record does

-- what r does besides moving pc and being counted, by what its word says; a word that is not one of the table does nothing
abbrev pub effect_by : Option Instr → Record → Effect
effect_by None r = Nothing
effect_by (Some i) r = effect (kind i.op) i r

abbrev pub effect_of : Record → Effect
effect_of r = effect_by (row_of r.word) r

-- s with the low n bytes of v from a on, the lowest first; what falls outside is ignored
abbrev pub with_bytes : State → (n a v : ℕ) → State
with_bytes s n a v = record s { bytes = (put_all (memory_of s) a (low_bytes n v)).items }

abbrev pub with_effect : State → Effect → State
with_effect s Nothing = s
with_effect s (Writes rd value) = record s { regs = with_reg s.regs rd value }
with_effect s (Stores width addr value) = with_bytes s (size width) addr value
with_effect s (Puts byte) = record s { output = s.output ++ byte ∷ [] }

-- the state behind a record, but for the number of instructions: one that ends changes nothing but the end
abbrev pub behind_record : State → Record → State
behind_record s r = if r.end == 0 then record (with_effect s (effect_of r)) { pc = r.next } else record s { end = r.end }

-- any record, also a wrong one: an ended state stays, and to another one it is one instruction more, the ending one too
unfoldable pub apply : State → Record → State
apply s r = if goes_on s then record (behind_record s r) { instret = s.instret + 1 } else s

-- one instruction; an ended state stays
unfoldable pub step : State → State
step s = apply s (record_of s)

abbrev pub steps : ℕ → State → State
steps zero s = s
steps (suc k) s = step (steps k s)

-- ---- what holds of an effect

-- a register that is written is below 32
abbrev pub HasRegister : Effect → Type 0
HasRegister Nothing = ⊤
HasRegister (Writes rd value) = rd < 32
HasRegister (Stores width addr value) = ⊤
HasRegister (Puts byte) = ⊤

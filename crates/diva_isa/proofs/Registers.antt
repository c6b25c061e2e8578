-- A decoded instruction has its registers below 32, and names x0 where it reads none.
use Rattle.std.proofs.Common.{◌≡◌, ◌≢◌, ℕ, Some, slice_index, refl, sym, arith}
use Rattle.diva_decode.specs.declared.instr.Instr.{Instr}
use Rattle.std.proofs.lemmas.Bool.Decides.{nat_tests}
use Rattle.diva_decode.specs.declared.op.Op.{Op}
use Rattle.diva_decode.specs.declared.op.Op.TheVariants.{Ecall}
use Rattle.diva_decode.specs.Table.{row_of, format, HasRegisters, FitsFormat, IsValid}
use Rattle.diva_isa.specs.State.{State, reg_of}
use Rattle.diva_isa.specs.Kind.{kind}
use Rattle.diva_isa.specs.Step.{source1, source2}
use Rattle.diva_decode.proofs.Unique.{registers_by}

pub registers_below : (w : ℕ) (i : Instr) → row_of w ≡ Some i → HasRegisters i
registers_below w i is = registers_by (Some i) w (sym is)

-- ---- what an instruction reads is in the registers that it names

-- both words, but for a call
abbrev pub ReadsNamed : State → Instr → Type 0
ReadsNamed s i = (source1 (kind i.op) s i ≡ reg_of s i.rs1) × (source2 (kind i.op) s i ≡ reg_of s i.rs2)

by_op : (op : Op) (i : Instr) (s : State) → slice_index s.regs 0 ≡ 0 → FitsFormat (format op) i → op ≢ Ecall
    → (source1 (kind op) s i ≡ reg_of s i.rs1) × (source2 (kind op) s i ≡ reg_of s i.rs2)
by_op Ecall i s z h n = absurd (n refl)
by_op op i s z h n = grind (arith, nat_tests)

pub reads_named : (s : State) (i : Instr) → slice_index s.regs 0 ≡ 0 → IsValid i → i.op ≢ Ecall → ReadsNamed s i
reads_named s i z h n = by_op i.op i s z h n

-- The registers of an instruction's profile are those of the instruction.
use Rattle.std.proofs.Common.{◌≡◌, ℕ, Some, subst, refl}
use Rattle.diva_decode.specs.declared.instr.Instr.{Instr}
use Rattle.diva_decode.specs.declared.op.Op.{Op}
use Rattle.diva_decode.specs.declared.op.Op.TheVariants.{Lui}
use Rattle.diva_decode.specs.Table.{format, instr_of, row_of}
use Rattle.diva_decode.proofs.Unique.{row_parts}
use Rattle.diva_isa.specs.Kind.{kind}
use Rattle.diva_ooo.specs.Profile.{class_of, cycles_of, profile, profiled}

-- what the words of an operation say has x0 where the format has no register
word_profile : (op : Op) (w : ℕ) → profile (kind op) (instr_of (format op) op w)
    ≡ profiled (instr_of (format op) op w).rs1 (instr_of (format op) op w).rs2 (instr_of (format op) op w).rd (class_of (kind op)) (cycles_of op)
word_profile Lui w = refl
word_profile op w = refl

pub row_profile : (w : ℕ) (i : Instr) → row_of w ≡ Some i → profile (kind i.op) i ≡ profiled i.rs1 i.rs2 i.rd (class_of (kind i.op)) (cycles_of i.op)
row_profile w i says =
    subst (λ (j : Instr). profile (kind i.op) j ≡ profiled j.rs1 j.rs2 j.rd (class_of (kind i.op)) (cycles_of i.op)) (row_parts w i says).1 (word_profile i.op w)

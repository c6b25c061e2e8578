-- What the decoded form of a word tells of it: whether it may store, and where its result goes.
use Rattle.std.proofs.Common.{◌≡◌, ◌≢◌, ℕ, ◌^◌, ◌%◌, ◌==◌, Bool, true, false, ◌&&◌, Option, Some, None, refl, ap, ◌∙◌, subst, if◌then◌else◌}
use Rattle.std.proofs.lemmas.Bool.{eqb-true, eq-eqb}
use Rattle.diva_decode.specs.Fields.{opcode}
use Rattle.diva_decode.specs.Table.{fits, instr_of, row_of, format}
use Rattle.diva_decode.specs.declared.instr.Instr.{Instr}
use Rattle.diva_decode.specs.declared.op.Op.{Op}
use Rattle.diva_decode.specs.declared.op.Op.TheVariants.{Lui, Auipc, Jal, Jalr, Beq, Bne, Blt, Bge, Bltu, Bgeu, Lb, Lh, Lw, Lbu, Lhu, Sb, Sh, Sw, Addi, Slti, Sltiu, Xori, Ori, Andi, Slli, Srli, Srai, Add, Sub, Sll, Slt, Sltu, Xor, Srl, Sra, Or, And, Fence, Ecall, Ebreak, Rdinstret, Rdinstreth, Mul, Mulh, Mulhsu, Mulhu, Div, Divu, Rem, Remu}
use Rattle.diva_decode.proofs.Unique.{row_parts}
use Rattle.diva_isa.specs.Kind.{kind}
use Rattle.diva_isa.specs.declared.kind.Kind.{Kind}
use Rattle.diva_isa.specs.declared.kind.Kind.TheVariants.{Lui, Auipc, Jal, Jalr, Branch, Load, Store, OpImm, OpReg, Fence, Ecall, Ebreak, Counter}
use Rattle.diva_isa.specs.Step.{effect, effect_by, effect_of}
use Rattle.diva_isa.specs.declared.effect.Effect.TheVariants.{Nothing, Writes, Puts}
use Rattle.diva_isa.specs.declared.record.Record.{Record}
use Rattle.diva_core.specs.Cycle.{is_store}
use Rattle.diva_core.specs.Entries.{has_store_opcode}

-- an instruction with a word: one that writes no register names none for its result, and a store has the opcode of stores
abbrev Tells : Kind → (rd w : ℕ) → Type 0
Tells Lui rd w = Unit {0}
Tells Auipc rd w = Unit {0}
Tells Jal rd w = Unit {0}
Tells Jalr rd w = Unit {0}
Tells Branch rd w = rd ≡ 0
Tells (Load width) rd w = Unit {0}
Tells (Store width) rd w = (rd ≡ 0) × (opcode w ≡ 0b0100011)
Tells OpImm rd w = Unit {0}
Tells OpReg rd w = Unit {0}
Tells Fence rd w = rd ≡ 0
Tells Ecall rd w = rd ≡ 0
Tells Ebreak rd w = rd ≡ 0
Tells Counter rd w = Unit {0}

both_first : (b c : Bool) → (b && c) ≡ true → b ≡ true
both_first true c h = refl
both_first false c h = absurd (cc)

by_operation : (op : Op) (w : ℕ) → fits w (format op) ≡ true → Tells (kind op) (instr_of (format op) op w).rd w
by_operation Lui w h = tt
by_operation Auipc w h = tt
by_operation Jal w h = tt
by_operation Jalr w h = tt
by_operation Beq w h = refl
by_operation Bne w h = refl
by_operation Blt w h = refl
by_operation Bge w h = refl
by_operation Bltu w h = refl
by_operation Bgeu w h = refl
by_operation Lb w h = tt
by_operation Lh w h = tt
by_operation Lw w h = tt
by_operation Lbu w h = tt
by_operation Lhu w h = tt
by_operation Sb w h = (refl, eqb-true _ _ (both_first (opcode w == 0b0100011) _ h))
by_operation Sh w h = (refl, eqb-true _ _ (both_first (opcode w == 0b0100011) _ h))
by_operation Sw w h = (refl, eqb-true _ _ (both_first (opcode w == 0b0100011) _ h))
by_operation Addi w h = tt
by_operation Slti w h = tt
by_operation Sltiu w h = tt
by_operation Xori w h = tt
by_operation Ori w h = tt
by_operation Andi w h = tt
by_operation Slli w h = tt
by_operation Srli w h = tt
by_operation Srai w h = tt
by_operation Add w h = tt
by_operation Sub w h = tt
by_operation Sll w h = tt
by_operation Slt w h = tt
by_operation Sltu w h = tt
by_operation Xor w h = tt
by_operation Srl w h = tt
by_operation Sra w h = tt
by_operation Or w h = tt
by_operation And w h = tt
by_operation Fence w h = refl
by_operation Ecall w h = refl
by_operation Ebreak w h = refl
by_operation Rdinstret w h = tt
by_operation Rdinstreth w h = tt
by_operation Mul w h = tt
by_operation Mulh w h = tt
by_operation Mulhsu w h = tt
by_operation Mulhu w h = tt
by_operation Div w h = tt
by_operation Divu w h = tt
by_operation Rem w h = tt
by_operation Remu w h = tt

told : (w : ℕ) (i : Instr) → row_of w ≡ Some i → Tells (kind i.op) i.rd w
told w i e = let parts = row_parts w i e in subst (λ (j : Instr). Tells (kind i.op) j.rd w) parts.1 (by_operation i.op w parts.0)

-- ---- a word of another opcode stores nothing

call_stores_none : (b : Bool) (r : Record) → is_store (if b then Puts (r.value % 2 ^ 8) else Nothing) ≡ false
call_stores_none true r = refl
call_stores_none false r = refl

quiet : (k : Kind) (i : Instr) (r : Record) → Tells k i.rd r.word → has_store_opcode r.word ≢ true → is_store (effect k i r) ≡ false
quiet Lui i r t n = refl
quiet Auipc i r t n = refl
quiet Jal i r t n = refl
quiet Jalr i r t n = refl
quiet Branch i r t n = refl
quiet (Load width) i r t n = refl
quiet (Store width) i r t n = absurd (n (eq-eqb (opcode r.word) 0b0100011 t.1))
quiet OpImm i r t n = refl
quiet OpReg i r t n = refl
quiet Fence i r t n = refl
quiet Ecall i r t n = call_stores_none (r.src1 == 1) r
quiet Ebreak i r t n = refl
quiet Counter i r t n = refl

by_decoded : (decoded : Option Instr) (r : Record) → row_of r.word ≡ decoded → has_store_opcode r.word ≢ true → is_store (effect_by decoded r) ≡ false
by_decoded None r e n = refl
by_decoded (Some i) r e n = quiet (kind i.op) i r (told r.word i e) n

pub stores_none : (r : Record) → has_store_opcode r.word ≢ true → is_store (effect_of r) ≡ false
stores_none r n = by_decoded (row_of r.word) r refl n

-- ---- the register for the result

target_by : (k : Kind) (i : Instr) (r : Record) → Tells k i.rd r.word → i.rd ≢ 0 → effect k i r ≡ Writes i.rd r.value
target_by Lui i r t n = refl
target_by Auipc i r t n = refl
target_by Jal i r t n = refl
target_by Jalr i r t n = refl
target_by Branch i r t n = absurd (n t)
target_by (Load width) i r t n = refl
target_by (Store width) i r t n = absurd (n t.0)
target_by OpImm i r t n = refl
target_by OpReg i r t n = refl
target_by Fence i r t n = absurd (n t)
target_by Ecall i r t n = absurd (n t)
target_by Ebreak i r t n = absurd (n t)
target_by Counter i r t n = refl

-- a claim of an instruction that names a register other than x0 for its result writes it there
pub writes_target : (r : Record) (i : Instr) → row_of r.word ≡ Some i → i.rd ≢ 0 → effect_of r ≡ Writes i.rd r.value
writes_target r i e n = ap (λ (o : Option Instr). effect_by o r) e ∙ target_by (kind i.op) i r (told r.word i e) n

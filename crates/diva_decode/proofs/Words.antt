-- The word of a valid instruction says the instruction: one lemma a format, and then one line an operation.
use Rattle.std.proofs.Common.{◌≡◌, ◌≢◌, ◌⊎◌, inl, inr, ℕ, ◌+◌, ◌*◌, ◌%◌, ◌^◌, ◌<◌, Option, Some, ℤ, pos, ◌≤ℤ◌, ◌<ℤ◌, refl, ap, arith, ◌∙◌, sym}
use Rattle.std.specs.Int.{cast_unsigned, w32}
use Rattle.std.proofs.lemmas.Int.{ints}
use Rattle.std.proofs.lemmas.Bool.Decides.{nat_tests}
use Rattle.diva_decode.specs.Fields.{opcode, funct3, funct7, csr, rd, rs1, rs2, field, signed, imm_i, imm_s, imm_b, imm_u, imm_j}
use Rattle.diva_decode.specs.Table.{row_of, encoding_of, word_in, format, FitsBits, FitsFormat, IsValid, instr_of, R, B, I, S, J, U, Shift, Exact, Csr}
use Rattle.diva_decode.specs.Inner.{op_at}
use Rattle.diva_decode.specs.declared.instr.Instr.{Instr}
use Rattle.diva_decode.specs.declared.op.Op.{Op}
use Rattle.diva_decode.specs.declared.op.Op.TheVariants.{Lui, Auipc, Jal, Jalr, Beq, Bne, Blt, Bge, Bltu, Bgeu, Lb, Lh, Lw, Lbu, Lhu, Sb, Sh, Sw, Addi, Slti, Sltiu, Xori, Ori, Andi, Slli, Srli, Srai, Add, Sub, Sll, Slt, Sltu, Xor, Srl, Sra, Or, And, Fence, Ecall, Ebreak, Rdinstret, Rdinstreth, Mul, Mulh, Mulhsu, Mulhu, Div, Divu, Rem, Remu}
use Rattle.diva_decode.proofs.Rows.{row_register, row_branch, row_load, row_store, row_jalr, row_immediate, row_shift, row_lui, row_auipc, row_jal, row_read}

-- a word from its parts
abbrev pub word : ℕ → ℕ → ℕ → ℕ → ℕ → ℕ → ℕ
word o d f3 a b f7 = o + d * 2 ^ 7 + f3 * 2 ^ 12 + a * 2 ^ 15 + b * 2 ^ 20 + f7 * 2 ^ 25

-- the low bits of a number in reach give it back
signed-12 : (z : ℤ) → FitsBits 12 z → signed 12 (cast_unsigned w32 z % 2 ^ 12) ≡ z
signed-12 z h = grind (arith, ints, nat_tests)

signed-13 : (z : ℤ) → FitsBits 13 z → signed 13 (cast_unsigned w32 z % 2 ^ 13) ≡ z
signed-13 z h = grind (arith, ints, nat_tests)

signed-21 : (z : ℤ) → FitsBits 21 z → signed 21 (cast_unsigned w32 z % 2 ^ 21) ≡ z
signed-21 z h = grind (arith, ints, nat_tests)

signed-32 : (z : ℤ) → FitsBits 32 z → signed 32 (cast_unsigned w32 z) ≡ z
signed-32 z h = grind (arith, ints, nat_tests)

pos_small : (z : ℤ) → pos 0 ≤ℤ z → z <ℤ pos 32 → pos (cast_unsigned w32 z % 2 ^ 5) ≡ z
pos_small z low high = grind (arith, ints)

-- a word is put together from its parts
pub word-parts : (w : ℕ) → w < 2 ^ 32 → w ≡ word (opcode w) (rd w) (funct3 w) (rs1 w) (rs2 w) (funct7 w)
word-parts w h = omega arith

pub signed_one : (n a b : ℕ) → a < 2 ^ n → b < 2 ^ n → signed n a ≡ signed n b → a ≡ b
signed_one n a b p q e = grind (arith, ints, nat_tests)

-- ---- the word of each format says the instruction

-- an instruction is its parts
same_instr : (i : Instr) (d a b : ℕ) (z : ℤ) → d ≡ i.rd → a ≡ i.rs1 → b ≡ i.rs2 → z ≡ i.imm → ◌≡◌ {A = Option Instr} (Some record { op = i.op; rd = d; rs1 = a; rs2 = b; imm = z }) (Some i)
same_instr i d a b z ed ea eb ez = rw (ed, ea, eb, ez) refl

module _ (w : ℕ) (i : Instr) where
  register_says : (f3 f7 : ℕ) → w ≡ word_in (R f7 f3 0x33) i → f3 < 8 → f7 < 128 → FitsFormat (R f7 f3 0x33) i → op_at 0x33 f3 f7 ≡ Some i.op → row_of w ≡ Some i
  register_says f3 f7 e h3 h7 h at =
      let o : opcode w ≡ 0x33 = omega arith in
      let n3 : funct3 w ≡ f3 = omega arith in
      let n7 : funct7 w ≡ f7 = omega arith in
      let d : rd w ≡ i.rd = omega arith in
      let a : rs1 w ≡ i.rs1 = omega arith in
      let b : rs2 w ≡ i.rs2 = omega arith in
      rw (row_register w o, n3, n7, at, d, a, b, ← h.3) refl

  branch_says : (f3 : ℕ) → w ≡ word_in (B f3 0x63) i → f3 < 8 → FitsFormat (B f3 0x63) i → op_at 0x63 f3 0 ≡ Some i.op → row_of w ≡ Some i
  branch_says f3 e h3 h at =
      let o : opcode w ≡ 0x63 = omega arith in
      let n3 : funct3 w ≡ f3 = omega arith in
      let a : rs1 w ≡ i.rs1 = omega arith in
      let b : rs2 w ≡ i.rs2 = omega arith in
      let bits : field 31 1 w * 2 ^ 12 + field 7 1 w * 2 ^ 11 + field 25 6 w * 2 ^ 5 + field 8 4 w * 2 ^ 1 ≡ cast_unsigned w32 i.imm % 2 ^ 13 = omega (arith, h.4) in
      let z : imm_b w ≡ i.imm = ap (signed 13) bits ∙ signed-13 i.imm h.3 in
      rw (row_branch w o, n3, at, a, b, z, ← h.0) refl

  store_says : (f3 : ℕ) → w ≡ word_in (S f3 0x23) i → f3 < 8 → FitsFormat (S f3 0x23) i → op_at 0x23 f3 0 ≡ Some i.op → row_of w ≡ Some i
  store_says f3 e h3 h at =
      let o : opcode w ≡ 0x23 = omega arith in
      let n3 : funct3 w ≡ f3 = omega arith in
      let a : rs1 w ≡ i.rs1 = omega arith in
      let b : rs2 w ≡ i.rs2 = omega arith in
      let bits : field 25 7 w * 2 ^ 5 + field 7 5 w ≡ cast_unsigned w32 i.imm % 2 ^ 12 = omega arith in
      let z : imm_s w ≡ i.imm = ap (signed 12) bits ∙ signed-12 i.imm h.3 in
      rw (row_store w o, n3, at, a, b, z, ← h.0) refl

  immediate_says : (o f3 : ℕ) → w ≡ word_in (I f3 o) i → o < 128 → f3 < 8 → FitsFormat (I f3 o) i → (opcode w ≡ o → funct3 w ≡ f3 → row_of w ≡ Some (instr_of (I f3 o) i.op w)) → row_of w ≡ Some i
  immediate_says o f3 e ho h3 h at =
      let code : opcode w ≡ o = omega arith in
      let n3 : funct3 w ≡ f3 = omega arith in
      let d : rd w ≡ i.rd = omega arith in
      let a : rs1 w ≡ i.rs1 = omega arith in
      let bits : field 20 12 w ≡ cast_unsigned w32 i.imm % 2 ^ 12 = omega arith in
      let z : imm_i w ≡ i.imm = ap (signed 12) bits ∙ signed-12 i.imm h.3 in
      rw (at code n3, d, a, z, ← h.2) refl

  load_says : (f3 : ℕ) → w ≡ word_in (I f3 0x03) i → f3 < 8 → FitsFormat (I f3 0x03) i → op_at 0x03 f3 0 ≡ Some i.op → row_of w ≡ Some i
  load_says f3 e h3 h at = immediate_says 0x03 f3 e (omega arith) h3 h (λ o n3. rw (row_load w o, n3, at) refl)

  jump_register_says : (f3 : ℕ) → w ≡ word_in (I f3 0x67) i → f3 < 8 → FitsFormat (I f3 0x67) i → op_at 0x67 f3 0 ≡ Some i.op → row_of w ≡ Some i
  jump_register_says f3 e h3 h at = immediate_says 0x67 f3 e (omega arith) h3 h (λ o n3. rw (row_jalr w o, n3, at) refl)

  arithmetic_says : (f3 : ℕ) → w ≡ word_in (I f3 0x13) i → f3 < 8 → f3 ≢ 1 → f3 ≢ 5 → FitsFormat (I f3 0x13) i → op_at 0x13 f3 0 ≡ Some i.op → row_of w ≡ Some i
  arithmetic_says f3 e h3 d1 d5 h at =
      immediate_says 0x13 f3 e (omega arith) h3 h (λ o n3. rw (row_immediate w o (λ k. d1 (sym n3 ∙ k)) (λ k. d5 (sym n3 ∙ k)), n3, at) refl)

  shift_says : (f3 f7 : ℕ) → w ≡ word_in (Shift f7 f3 0x13) i → (f3 ≡ 1) ⊎ (f3 ≡ 5) → f7 < 128 → FitsFormat (Shift f7 f3 0x13) i → op_at 0x13 f3 f7 ≡ Some i.op → row_of w ≡ Some i
  shift_says f3 f7 e is h7 h at =
      let h3 : f3 < 8 = elim is [ inl one ↦ omega arith | inr five ↦ omega arith ] in
      let o : opcode w ≡ 0x13 = omega arith in
      let n3 : funct3 w ≡ f3 = omega arith in
      let n7 : funct7 w ≡ f7 = omega arith in
      let d : rd w ≡ i.rd = omega arith in
      let a : rs1 w ≡ i.rs1 = omega arith in
      let bits : rs2 w ≡ cast_unsigned w32 i.imm % 2 ^ 5 = omega arith in
      let z : pos (rs2 w) ≡ i.imm = ap pos bits ∙ pos_small i.imm h.3 h.4 in
      let which : (funct3 w ≡ 1) ⊎ (funct3 w ≡ 5) = rw n3 is in
      rw (row_shift w o which, n3, n7, at, d, a, z, ← h.2) refl

  upper_says : (o : ℕ) → w ≡ word_in (U o) i → o < 128 → FitsFormat (U o) i → (opcode w ≡ o → row_of w ≡ Some (instr_of (U o) i.op w)) → row_of w ≡ Some i
  upper_says o e ho h at =
      let below : cast_unsigned w32 i.imm < 2 ^ 32 = grind (arith, ints) in
      let code : opcode w ≡ o = omega arith in
      let d : rd w ≡ i.rd = omega arith in
      let bits : field 12 20 w * 2 ^ 12 ≡ cast_unsigned w32 i.imm = omega (arith, h.4) in
      let z : imm_u w ≡ i.imm = ap (signed 32) bits ∙ signed-32 i.imm h.3 in
      at code ∙ same_instr i (rd w) 0 0 (imm_u w) d (sym h.1) (sym h.2) z

  jump_says : w ≡ word_in (J 0x6f) i → FitsFormat (J 0x6f) i → i.op ≡ Jal → row_of w ≡ Some i
  jump_says e h is =
      let o : opcode w ≡ 0x6f = omega arith in
      let d : rd w ≡ i.rd = omega arith in
      let bits : field 31 1 w * 2 ^ 20 + field 12 8 w * 2 ^ 12 + field 20 1 w * 2 ^ 11 + field 21 10 w * 2 ^ 1 ≡ cast_unsigned w32 i.imm % 2 ^ 21 = omega (arith, h.4) in
      let z : imm_j w ≡ i.imm = ap (signed 21) bits ∙ signed-21 i.imm h.3 in
      rw (row_jal w o, ← is) (same_instr i (rd w) 0 0 (imm_j w) d (sym h.1) (sym h.2) z)

  -- a word that says nothing but its operation
  bare_says : row_of w ≡ Some (instr_of (Exact w) i.op w) → FitsFormat (Exact w) i → row_of w ≡ Some i
  bare_says e h = e ∙ same_instr i 0 0 0 (pos 0) (sym h.0) (sym h.1) (sym h.2) (sym h.3)

  read_says : (number : ℕ) → w ≡ word_in (Csr number 2 0x73) i → number < 2 ^ 12 → FitsFormat (Csr number 2 0x73) i → (opcode w ≡ 0x73 → w ≢ 0x73 → w ≢ 0x100073 → funct3 w ≡ 2 → rs1 w ≡ 0 → csr w ≡ number → row_of w ≡ Some (instr_of (Csr number 2 0x73) i.op w)) → row_of w ≡ Some i
  read_says number e small h at =
      let o : opcode w ≡ 0x73 = omega arith in
      let n3 : funct3 w ≡ 2 = omega arith in
      let a : rs1 w ≡ 0 = omega arith in
      let n : csr w ≡ number = omega arith in
      let d : rd w ≡ i.rd = omega arith in
      let d1 : w ≢ 0x73 = omega arith in
      let d2 : w ≢ 0x100073 = omega arith in
      at o d1 d2 n3 a n ∙ same_instr i (rd w) 0 0 (pos 0) d (sym h.1) (sym h.2) (sym h.3)

-- the word of a valid instruction, by its operation, says the instruction
says : (op : Op) (i : Instr) → i.op ≡ op → FitsFormat (format op) i → row_of (word_in (format op) i) ≡ Some i
unfolding row_of
says Lui i e h = upper_says (word_in (U 0x37) i) i 0x37 refl (omega arith) h (λ o. rw (row_lui (word_in (U 0x37) i) o, e) refl)
says Auipc i e h = upper_says (word_in (U 0x17) i) i 0x17 refl (omega arith) h (λ o. rw (row_auipc (word_in (U 0x17) i) o, e) refl)
says Jal i e h = jump_says (word_in (J 0x6f) i) i refl h e
says Jalr i e h = jump_register_says (word_in (I 0 0x67) i) i 0 refl (omega arith) h (rw e refl)
says Beq i e h = branch_says (word_in (B 0 0x63) i) i 0 refl (omega arith) h (rw e refl)
says Bne i e h = branch_says (word_in (B 1 0x63) i) i 1 refl (omega arith) h (rw e refl)
says Blt i e h = branch_says (word_in (B 4 0x63) i) i 4 refl (omega arith) h (rw e refl)
says Bge i e h = branch_says (word_in (B 5 0x63) i) i 5 refl (omega arith) h (rw e refl)
says Bltu i e h = branch_says (word_in (B 6 0x63) i) i 6 refl (omega arith) h (rw e refl)
says Bgeu i e h = branch_says (word_in (B 7 0x63) i) i 7 refl (omega arith) h (rw e refl)
says Lb i e h = load_says (word_in (I 0 0x03) i) i 0 refl (omega arith) h (rw e refl)
says Lh i e h = load_says (word_in (I 1 0x03) i) i 1 refl (omega arith) h (rw e refl)
says Lw i e h = load_says (word_in (I 2 0x03) i) i 2 refl (omega arith) h (rw e refl)
says Lbu i e h = load_says (word_in (I 4 0x03) i) i 4 refl (omega arith) h (rw e refl)
says Lhu i e h = load_says (word_in (I 5 0x03) i) i 5 refl (omega arith) h (rw e refl)
says Sb i e h = store_says (word_in (S 0 0x23) i) i 0 refl (omega arith) h (rw e refl)
says Sh i e h = store_says (word_in (S 1 0x23) i) i 1 refl (omega arith) h (rw e refl)
says Sw i e h = store_says (word_in (S 2 0x23) i) i 2 refl (omega arith) h (rw e refl)
says Addi i e h = arithmetic_says (word_in (I 0 0x13) i) i 0 refl (omega arith) (λ k. cc) (λ k. cc) h (rw e refl)
says Slti i e h = arithmetic_says (word_in (I 2 0x13) i) i 2 refl (omega arith) (λ k. cc) (λ k. cc) h (rw e refl)
says Sltiu i e h = arithmetic_says (word_in (I 3 0x13) i) i 3 refl (omega arith) (λ k. cc) (λ k. cc) h (rw e refl)
says Xori i e h = arithmetic_says (word_in (I 4 0x13) i) i 4 refl (omega arith) (λ k. cc) (λ k. cc) h (rw e refl)
says Ori i e h = arithmetic_says (word_in (I 6 0x13) i) i 6 refl (omega arith) (λ k. cc) (λ k. cc) h (rw e refl)
says Andi i e h = arithmetic_says (word_in (I 7 0x13) i) i 7 refl (omega arith) (λ k. cc) (λ k. cc) h (rw e refl)
says Slli i e h = shift_says (word_in (Shift 0x00 1 0x13) i) i 1 0x00 refl (inl refl) (omega arith) h (rw e refl)
says Srli i e h = shift_says (word_in (Shift 0x00 5 0x13) i) i 5 0x00 refl (inr refl) (omega arith) h (rw e refl)
says Srai i e h = shift_says (word_in (Shift 0x20 5 0x13) i) i 5 0x20 refl (inr refl) (omega arith) h (rw e refl)
says Add i e h = register_says (word_in (R 0x00 0 0x33) i) i 0 0x00 refl (omega arith) (omega arith) h (rw e refl)
says Sub i e h = register_says (word_in (R 0x20 0 0x33) i) i 0 0x20 refl (omega arith) (omega arith) h (rw e refl)
says Sll i e h = register_says (word_in (R 0x00 1 0x33) i) i 1 0x00 refl (omega arith) (omega arith) h (rw e refl)
says Slt i e h = register_says (word_in (R 0x00 2 0x33) i) i 2 0x00 refl (omega arith) (omega arith) h (rw e refl)
says Sltu i e h = register_says (word_in (R 0x00 3 0x33) i) i 3 0x00 refl (omega arith) (omega arith) h (rw e refl)
says Xor i e h = register_says (word_in (R 0x00 4 0x33) i) i 4 0x00 refl (omega arith) (omega arith) h (rw e refl)
says Srl i e h = register_says (word_in (R 0x00 5 0x33) i) i 5 0x00 refl (omega arith) (omega arith) h (rw e refl)
says Sra i e h = register_says (word_in (R 0x20 5 0x33) i) i 5 0x20 refl (omega arith) (omega arith) h (rw e refl)
says Or i e h = register_says (word_in (R 0x00 6 0x33) i) i 6 0x00 refl (omega arith) (omega arith) h (rw e refl)
says And i e h = register_says (word_in (R 0x00 7 0x33) i) i 7 0x00 refl (omega arith) (omega arith) h (rw e refl)
says Fence i e h = bare_says 0x0ff0000f i (rw e refl) h
says Ecall i e h = bare_says 0x00000073 i (rw e refl) h
says Ebreak i e h = bare_says 0x00100073 i (rw e refl) h
says Rdinstret i e h = read_says (word_in (Csr 0xc02 2 0x73) i) i 0xc02 refl (omega arith) h (λ o d1 d2 n3 a n. rw (row_read (word_in (Csr 0xc02 2 0x73) i) o d1 d2, n3, a, n, e) refl)
says Rdinstreth i e h = read_says (word_in (Csr 0xc82 2 0x73) i) i 0xc82 refl (omega arith) h (λ o d1 d2 n3 a n. rw (row_read (word_in (Csr 0xc82 2 0x73) i) o d1 d2, n3, a, n, e) refl)
says Mul i e h = register_says (word_in (R 0x01 0 0x33) i) i 0 0x01 refl (omega arith) (omega arith) h (rw e refl)
says Mulh i e h = register_says (word_in (R 0x01 1 0x33) i) i 1 0x01 refl (omega arith) (omega arith) h (rw e refl)
says Mulhsu i e h = register_says (word_in (R 0x01 2 0x33) i) i 2 0x01 refl (omega arith) (omega arith) h (rw e refl)
says Mulhu i e h = register_says (word_in (R 0x01 3 0x33) i) i 3 0x01 refl (omega arith) (omega arith) h (rw e refl)
says Div i e h = register_says (word_in (R 0x01 4 0x33) i) i 4 0x01 refl (omega arith) (omega arith) h (rw e refl)
says Divu i e h = register_says (word_in (R 0x01 5 0x33) i) i 5 0x01 refl (omega arith) (omega arith) h (rw e refl)
says Rem i e h = register_says (word_in (R 0x01 6 0x33) i) i 6 0x01 refl (omega arith) (omega arith) h (rw e refl)
says Remu i e h = register_says (word_in (R 0x01 7 0x33) i) i 7 0x01 refl (omega arith) (omega arith) h (rw e refl)

-- the word of a valid instruction says the instruction
pub row_word_of : (i : Instr) → IsValid i → row_of (encoding_of i) ≡ Some i
unfolding encoding_of
row_word_of i h = says i.op i refl h

-- What `row_of` is at each opcode.
use Rattle.std.proofs.Common.{◌≡◌, ◌≢◌, ◌⊎◌, inl, inr, ℕ, Bool, ◌&&◌, true, false, cond, eqb, Option, Some, None, refl, arith, ◌∙◌}
use Rattle.std.specs.Option.{option_map}
use Rattle.std.proofs.lemmas.Bool.Decides.{nat_tests}
use Rattle.diva_decode.specs.Fields.{opcode, funct3, funct7, rs1, csr}
use Rattle.diva_decode.specs.Table.{row_of, format, instr_of, U, J, I, Shift, B, S, R, Open, Exact, Csr}
use Rattle.diva_decode.specs.Inner.{op_at}
use Rattle.diva_decode.specs.declared.op.Op.TheVariants.{Lui, Auipc, Jal, Ecall, Ebreak, Rdinstret, Rdinstreth}

-- two words with different opcodes are different
not_word : (w v k : ℕ) → opcode w ≡ k → eqb (opcode v) k ≡ false → eqb w v ≡ false
not_word w v k e f = grind (arith, nat_tests)

option_map-cond : {A B : Type 0} (f : A → B) (b : Bool) (x y : Option A) → option_map f (cond b x y) ≡ cond b (option_map f x) (option_map f y)
option_map-cond f true x y = refl
option_map-cond f false x y = refl

unequal : (a b : ℕ) → a ≢ b → eqb a b ≡ false
unequal a b d = grind (arith, nat_tests)

module _ (w : ℕ) where
  pub row_lui : opcode w ≡ 0x37 → row_of w ≡ Some (instr_of (U 0x37) Lui w)
  unfolding row_of
  row_lui e = rw e refl

  pub row_auipc : opcode w ≡ 0x17 → row_of w ≡ Some (instr_of (U 0x17) Auipc w)
  unfolding row_of
  row_auipc e = rw e refl

  pub row_jal : opcode w ≡ 0x6f → row_of w ≡ Some (instr_of (J 0x6f) Jal w)
  unfolding row_of
  row_jal e = rw e refl

  -- what is no word of opcode SYSTEM is looked up by its codes
  row_coded : (o : ℕ) → opcode w ≡ o → eqb (opcode 0x73) o ≡ false → row_of w ≡ option_map (λ op. instr_of (format op) op w) (op_at o (funct3 w) (funct7 w))
  unfolding row_of
  row_coded o e other =
      let p : eqb w 0x73 ≡ false = not_word w 0x73 o e other in
      let q : eqb w 0x100073 ≡ false = not_word w 0x100073 o e other in
      let r : eqb o 0x73 ≡ false = grind (arith, nat_tests) in
      rw (e, p, q, r) refl

  -- the operations of these opcodes have one format
  pub row_jalr : opcode w ≡ 0x67 → row_of w ≡ option_map (λ op. instr_of (I 0 0x67) op w) (op_at 0x67 (funct3 w) 0)
  row_jalr e = row_coded 0x67 e refl ∙ simp option_map-cond

  pub row_branch : opcode w ≡ 0x63 → row_of w ≡ option_map (λ op. instr_of (B 0 0x63) op w) (op_at 0x63 (funct3 w) 0)
  row_branch e = row_coded 0x63 e refl ∙ simp option_map-cond

  pub row_load : opcode w ≡ 0x03 → row_of w ≡ option_map (λ op. instr_of (I 0 0x03) op w) (op_at 0x03 (funct3 w) 0)
  row_load e = row_coded 0x03 e refl ∙ simp option_map-cond

  pub row_store : opcode w ≡ 0x23 → row_of w ≡ option_map (λ op. instr_of (S 0 0x23) op w) (op_at 0x23 (funct3 w) 0)
  row_store e = row_coded 0x23 e refl ∙ simp option_map-cond

  pub row_register : opcode w ≡ 0x33 → row_of w ≡ option_map (λ op. instr_of (R 0 0 0x33) op w) (op_at 0x33 (funct3 w) (funct7 w))
  row_register e = row_coded 0x33 e refl ∙ simp option_map-cond

  pub row_fence : opcode w ≡ 0x0f → row_of w ≡ option_map (λ op. instr_of (Open 0 0x0f) op w) (op_at 0x0f (funct3 w) 0)
  row_fence e = row_coded 0x0f e refl ∙ simp option_map-cond

  -- the immediates of 0x13 are shifts at funct3 1 and 5
  pub row_immediate : opcode w ≡ 0x13 → funct3 w ≢ 1 → funct3 w ≢ 5 → row_of w ≡ option_map (λ op. instr_of (I 0 0x13) op w) (op_at 0x13 (funct3 w) 0)
  row_immediate e d1 d5 =
      let n1 : eqb (funct3 w) 1 ≡ false = unequal (funct3 w) 1 d1 in
      let n5 : eqb (funct3 w) 5 ≡ false = unequal (funct3 w) 5 d5 in
      row_coded 0x13 e refl ∙ rw (n1, n5) (simp option_map-cond)

  pub row_shift : opcode w ≡ 0x13 → (funct3 w ≡ 1) ⊎ (funct3 w ≡ 5) → row_of w ≡ option_map (λ op. instr_of (Shift 0 0 0x13) op w) (op_at 0x13 (funct3 w) (funct7 w))
  row_shift e (inl one) = row_coded 0x13 e refl ∙ rw one (simp option_map-cond)
  row_shift e (inr five) = row_coded 0x13 e refl ∙ rw five (simp option_map-cond)

  pub row_ecall : w ≡ 0x73 → row_of w ≡ Some (instr_of (Exact 0) Ecall w)
  unfolding row_of
  row_ecall e = rw e refl

  pub row_ebreak : w ≡ 0x100073 → row_of w ≡ Some (instr_of (Exact 0) Ebreak w)
  unfolding row_of
  row_ebreak e = rw e refl

  -- a read of a register, by its number
  pub row_read : opcode w ≡ 0x73 → w ≢ 0x73 → w ≢ 0x100073 → row_of w ≡ cond (eqb (funct3 w) 2 && eqb (rs1 w) 0 && eqb (csr w) 0xc02) (Some (instr_of (Csr 0 0 0) Rdinstret w)) (cond (eqb (funct3 w) 2 && eqb (rs1 w) 0 && eqb (csr w) 0xc82) (Some (instr_of (Csr 0 0 0) Rdinstreth w)) None)
  unfolding row_of
  row_read e d1 d2 =
      let p : eqb w 0x73 ≡ false = unequal w 0x73 d1 in
      let q : eqb w 0x100073 ≡ false = unequal w 0x100073 d2 in
      rw (e, p, q) (simp option_map-cond)

  pub row_none : opcode w ≢ 0x37 → opcode w ≢ 0x17 → opcode w ≢ 0x6f → opcode w ≢ 0x67 → opcode w ≢ 0x63 → opcode w ≢ 0x03 → opcode w ≢ 0x23 → opcode w ≢ 0x13 → opcode w ≢ 0x33 → opcode w ≢ 0x0f → opcode w ≢ 0x73 → row_of w ≡ None
  unfolding row_of
  row_none a b c d e f g h i j k = grind (arith, nat_tests)

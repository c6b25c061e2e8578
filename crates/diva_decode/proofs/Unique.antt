-- Each word says one instruction, and but for FENCE each instruction is said by one word.
use Rattle.std.proofs.Common.{◌≡◌, ◌≢◌, ℕ, ◌+◌, ◌*◌, ◌^◌, ◌<◌, Bool, true, false, cond, List, [], ◌∷◌, Option, Some, None, pos, refl, ap, arith, ◌∙◌, sym, subst}
use Rattle.std.specs.List.{find}
use Rattle.std.specs.Option.{option_map, IfSome}
use Rattle.std.proofs.lemmas.Bool.Decides.{nat_tests}
use Rattle.std.proofs.lemmas.Int.{ints}
use Rattle.diva_decode.specs.Fields.{opcode, funct3, funct7, csr, rd, rs1, rs2, field, imm_i, imm_s, imm_b, imm_u, imm_j}
use Rattle.diva_decode.specs.Table.{row_of, encoding_of, word_in, op_of, table, format, Format, fits, instr_of, U, J, I, Shift, B, S, R, Open, Exact, Csr, FitsFormat, IsValid, HasRegisters}
use Rattle.diva_decode.specs.declared.op.Op.{Op}
use Rattle.diva_decode.specs.declared.op.Op.TheVariants.{Fence}
use Rattle.diva_decode.specs.declared.instr.Instr.{Instr}
use Rattle.diva_decode.proofs.Words.{word-parts, signed_one, row_word_of}

passes_by : {X : Type 0} (p : X → Bool) (y x : X) (rest : Option X) (b : Bool) → p y ≡ b → (rest ≡ Some x → p x ≡ true) → cond b (Some y) rest ≡ Some x → p x ≡ true
passes_by p y x rest true t h e = let same : y ≡ x = cc in rw (← same) t
passes_by p y x rest false t h e = h e

find_passes : {X : Type 0} (p : X → Bool) (xs : List X) (x : X) → find p xs ≡ Some x → p x ≡ true
find_passes p [] x e = absurd (cc)
find_passes p (y ∷ xs) x e = passes_by p y x (find p xs) (p y) refl (find_passes p xs x) e

map_parts : {X Y : Type 0} (f : X → Y) (o : Option X) (y : Y) → option_map f o ≡ Some y → (x : X) × (o ≡ Some x) × (f x ≡ y)
map_parts f None y e = absurd (cc)
map_parts f (Some x) y e = (x, refl, cc)

-- what a word says has the operation that was asked for
op-instr_of : (s : Format) (op : Op) (w : ℕ) → (instr_of s op w).op ≡ op
op-instr_of (Exact x) op w = refl
op-instr_of s op w = refl

pub row_parts : (w : ℕ) (i : Instr) → row_of w ≡ Some i → (fits w (format i.op) ≡ true) × (instr_of (format i.op) i.op w ≡ i)
unfolding row_of
row_parts w i e =
    let found = map_parts (λ op. instr_of (format op) op w) (op_of w) i e in
    let same : found.0 ≡ i.op = sym (op-instr_of (format found.0) found.0 w) ∙ ap (λ j. j.op) found.2 in
    let fitting = find_passes (λ op. fits w (format op)) table found.0 found.1 in
    (subst (λ op. fits w (format op) ≡ true) same fitting, subst (λ op. instr_of (format op) op w ≡ i) same found.2)

-- one word for each instruction of the format
abbrev IsClosed : Format → Type 0
IsClosed (Open f3 o) = ⊥
IsClosed s = Unit {0}

-- a word with the codes of a format, as numbers
one_code : (w o : ℕ) → fits w (U o) ≡ true → opcode w ≡ o
one_code w o e = grind (arith, nat_tests)

two_codes : (w f3 o : ℕ) → fits w (I f3 o) ≡ true → (opcode w ≡ o) × (funct3 w ≡ f3)
two_codes w f3 o e = grind (arith, nat_tests)

three_codes : (w f7 f3 o : ℕ) → fits w (R f7 f3 o) ≡ true → (opcode w ≡ o) × (funct3 w ≡ f3) × (funct7 w ≡ f7)
three_codes w f7 f3 o e = grind (arith, nat_tests)

read_codes : (w number f3 o : ℕ) → fits w (Csr number f3 o) ≡ true → (opcode w ≡ o) × (funct3 w ≡ f3) × (rs1 w ≡ 0) × (csr w ≡ number)
read_codes w number f3 o e = grind (arith, nat_tests)

module _ (op : Op) (v w : ℕ) (hv : v < 2 ^ 32) (hw : w < 2 ^ 32) where
  same_words : (s : Format) → IsClosed s → fits v s ≡ true → fits w s ≡ true → instr_of s op v ≡ instr_of s op w → v ≡ w
  same_words (U o) c p q e =
      let d : rd v ≡ rd w = ap (λ i. i.rd) e in
      let z : imm_u v ≡ imm_u w = ap (λ i. i.imm) e in
      let b : field 12 20 v * 2 ^ 12 ≡ field 12 20 w * 2 ^ 12 = signed_one 32 _ _ (omega arith) (omega arith) z in
      omega (arith, one_code v o p, one_code w o q)
  same_words (J o) c p q e =
      let d : rd v ≡ rd w = ap (λ i. i.rd) e in
      let z : imm_j v ≡ imm_j w = ap (λ i. i.imm) e in
      let b = signed_one 21 (field 31 1 v * 2 ^ 20 + field 12 8 v * 2 ^ 12 + field 20 1 v * 2 ^ 11 + field 21 10 v * 2 ^ 1) (field 31 1 w * 2 ^ 20 + field 12 8 w * 2 ^ 12 + field 20 1 w * 2 ^ 11 + field 21 10 w * 2 ^ 1) (omega arith) (omega arith) z in
      omega (arith, one_code v o p, one_code w o q)
  same_words (I f3 o) c p q e =
      let d : rd v ≡ rd w = ap (λ i. i.rd) e in
      let a : rs1 v ≡ rs1 w = ap (λ i. i.rs1) e in
      let z : imm_i v ≡ imm_i w = ap (λ i. i.imm) e in
      let b : field 20 12 v ≡ field 20 12 w = signed_one 12 (field 20 12 v) (field 20 12 w) (omega arith) (omega arith) z in
      omega (arith, two_codes v f3 o p, two_codes w f3 o q)
  same_words (B f3 o) c p q e =
      let a : rs1 v ≡ rs1 w = ap (λ i. i.rs1) e in
      let b : rs2 v ≡ rs2 w = ap (λ i. i.rs2) e in
      let z : imm_b v ≡ imm_b w = ap (λ i. i.imm) e in
      let m = signed_one 13 (field 31 1 v * 2 ^ 12 + field 7 1 v * 2 ^ 11 + field 25 6 v * 2 ^ 5 + field 8 4 v * 2 ^ 1) (field 31 1 w * 2 ^ 12 + field 7 1 w * 2 ^ 11 + field 25 6 w * 2 ^ 5 + field 8 4 w * 2 ^ 1) (omega arith) (omega arith) z in
      omega (arith, two_codes v f3 o p, two_codes w f3 o q)
  same_words (S f3 o) c p q e =
      let a : rs1 v ≡ rs1 w = ap (λ i. i.rs1) e in
      let b : rs2 v ≡ rs2 w = ap (λ i. i.rs2) e in
      let z : imm_s v ≡ imm_s w = ap (λ i. i.imm) e in
      let m = signed_one 12 (field 25 7 v * 2 ^ 5 + field 7 5 v) (field 25 7 w * 2 ^ 5 + field 7 5 w) (omega arith) (omega arith) z in
      omega (arith, two_codes v f3 o p, two_codes w f3 o q)
  same_words (R f7 f3 o) c p q e =
      let d : rd v ≡ rd w = ap (λ i. i.rd) e in
      let a : rs1 v ≡ rs1 w = ap (λ i. i.rs1) e in
      let b : rs2 v ≡ rs2 w = ap (λ i. i.rs2) e in
      omega (arith, three_codes v f7 f3 o p, three_codes w f7 f3 o q, word-parts v hv, word-parts w hw)
  same_words (Shift f7 f3 o) c p q e =
      let d : rd v ≡ rd w = ap (λ i. i.rd) e in
      let a : rs1 v ≡ rs1 w = ap (λ i. i.rs1) e in
      let z : pos (rs2 v) ≡ pos (rs2 w) = ap (λ i. i.imm) e in
      let b : rs2 v ≡ rs2 w = cc in
      omega (arith, three_codes v f7 f3 o p, three_codes w f7 f3 o q, word-parts v hv, word-parts w hw)
  same_words (Open f3 o) c p q e = absurd c
  same_words (Exact x) c p q e = grind (arith, nat_tests)
  same_words (Csr number f3 o) c p q e =
      let d : rd v ≡ rd w = ap (λ i. i.rd) e in
      omega (arith, read_codes v number f3 o p, read_codes w number f3 o q)

closed : (op : Op) → op ≢ Fence → IsClosed (format op)
closed Fence d = absurd (d refl)
closed op d = tt

-- but for FENCE, one word says an instruction
pub one_word : (v w : ℕ) (i : Instr) → v < 2 ^ 32 → w < 2 ^ 32 → i.op ≢ Fence → row_of v ≡ Some i → row_of w ≡ Some i → v ≡ w
one_word v w i hv hw d ev ew =
    let a = row_parts v i ev in
    let b = row_parts w i ew in
    same_words i.op v w hv hw (format i.op) (closed i.op d) a.0 b.0 (a.1 ∙ sym b.1)

-- what a word says is valid
valid_by : (s : Format) (op : Op) (w : ℕ) → w < 2 ^ 32 → FitsFormat s (instr_of s op w)
valid_by (R f7 f3 o) op w h = (omega arith, omega arith, omega arith, refl)
valid_by (Open f3 o) op w h = (refl, refl, refl, refl)
valid_by (Exact x) op w h = (refl, refl, refl, refl)
valid_by (Csr number f3 o) op w h = (omega arith, refl, refl, refl)
valid_by s op w h = grind (arith, ints, nat_tests)

pub row_valid : (w : ℕ) (i : Instr) → w < 2 ^ 32 → row_of w ≡ Some i → IsValid i
row_valid w i h e =
    let a = row_parts w i e in
    subst (λ j. FitsFormat (format i.op) j) a.1 (valid_by (format i.op) i.op w h)

registers_below : (s : Format) (op : Op) (w : ℕ) → HasRegisters (instr_of s op w)
registers_below (Exact x) op w = (omega arith, omega arith, omega arith)
registers_below s op w = (omega arith, omega arith, omega arith)

-- what a word says has registers below 32
pub registers_by : (r : Option Instr) (w : ℕ) → r ≡ row_of w → IfSome r HasRegisters
registers_by None w e = tt
registers_by (Some i) w e =
    let a = row_parts w i (sym e) in
    subst HasRegisters a.1 (registers_below (format i.op) i.op w)

pub valid_if : (r : Option Instr) (w : ℕ) → w < 2 ^ 32 → r ≡ row_of w → IfSome r IsValid
valid_if None w h e = tt
valid_if (Some i) w h e = row_valid w i h (sym e)

-- ---- the word of what a word says

word_in-below : (op : Op) (i : Instr) → FitsFormat (format op) i → word_in (format op) i < 2 ^ 32
word_in-below Fence i h = omega arith
word_in-below op i h = omega arith

word_of-below : (i : Instr) → IsValid i → encoding_of i < 2 ^ 32
unfolding encoding_of
word_of-below i h = word_in-below i.op i h

-- but for FENCE, the word of what w says is w
pub encodes_if : (r : Option Instr) (w : ℕ) → w < 2 ^ 32 → r ≡ row_of w → IfSome r (λ i. i.op ≢ Fence → encoding_of i ≡ w)
encodes_if None w h e = tt
encodes_if (Some i) w h e = λ d.
    let valid = row_valid w i h (sym e) in
    one_word (encoding_of i) w i (word_of-below i valid) h d (row_word_of i valid) (sym e)

-- What an instruction that is drawn can be.
use Rattle.std.proofs.Common.{◌≡◌, ◌≤◌, ◌<◌, ℕ, zero, suc, ◌+◌, ◌-◌, ◌%◌, ◌^◌, get_or, Some, refl, arith}
use Rattle.std.specs.Prelude.{pos}
use Rattle.std.proofs.lemmas.Int.{ints}
use Rattle.diva_decode.specs.Fields.{field}
use Rattle.diva_decode.specs.Table.{IsValid, row_of, encoding_of}
use Rattle.diva_decode.specs.declared.op.Op.TheVariants.{Addi, Blt, Lw, Mul, Rem, Sub, Sw, Xor}
use Rattle.diva_decode.specs.declared.instr.Instr.{Instr}
use Rattle.diva_decode.proofs.Words.{row_word_of}
use Rattle.diva_soak.specs.Soak.{drawn, kinds, of_immediate, of_registers, of_sources}

-- a register that is written is x1 to x8, as is one that is read
pub record IsOwn (r : ℕ) : Type 0 where
  pub low : 1 ≤ r
  pub high : r ≤ 8

-- a word of the data
pub record IsPlace (q : ℕ) : Type 0 where
  pub aligned : q % 4 ≡ 0
  pub inside : q + 4 ≤ 2048

-- what holds of the instructions of each kind
pub record OfKinds (P : Instr → Type 0) : Type 0 where
  pub of_addi : (rd rs1 m : ℕ) → IsOwn rd → IsOwn rs1 → m < 2048 → P (of_immediate Addi rd rs1 (pos m))
  pub of_sub : (rd rs1 rs2 : ℕ) → IsOwn rd → IsOwn rs1 → IsOwn rs2 → P (of_registers Sub rd rs1 rs2)
  pub of_xor : (rd rs1 rs2 : ℕ) → IsOwn rd → IsOwn rs1 → IsOwn rs2 → P (of_registers Xor rd rs1 rs2)
  pub of_mul : (rd rs1 rs2 : ℕ) → IsOwn rd → IsOwn rs1 → IsOwn rs2 → P (of_registers Mul rd rs1 rs2)
  pub of_rem : (rd rs1 rs2 : ℕ) → IsOwn rd → IsOwn rs1 → IsOwn rs2 → P (of_registers Rem rd rs1 rs2)
  pub of_blt : (rs1 rs2 : ℕ) → IsOwn rs1 → IsOwn rs2 → P (of_sources Blt rs1 rs2 (pos 8))
  pub of_sw : (rs2 q : ℕ) → IsOwn rs2 → IsPlace q → P (of_sources Sw 0 rs2 (pos q))
  pub of_lw : (rd q : ℕ) → IsOwn rd → IsPlace q → P (of_immediate Lw rd 0 (pos q))

module _ (P : Instr → Type 0) (each : OfKinds P) (rd rs1 rs2 m q : ℕ) (d : IsOwn rd) (a : IsOwn rs1) (b : IsOwn rs2) (small : m < 2048) (place : IsPlace q) (other : Instr) where
  by_number : (kind : ℕ) → kind < 8 → P (get_or (kinds rd rs1 rs2 m q) kind other)
  by_number zero h = each.of_addi rd rs1 m d a small
  by_number (suc zero) h = each.of_sub rd rs1 rs2 d a b
  by_number (suc (suc zero)) h = each.of_xor rd rs1 rs2 d a b
  by_number (suc (suc (suc zero))) h = each.of_mul rd rs1 rs2 d a b
  by_number (suc (suc (suc (suc zero)))) h = each.of_rem rd rs1 rs2 d a b
  by_number (suc (suc (suc (suc (suc zero))))) h = each.of_blt rs1 rs2 a b
  by_number (suc (suc (suc (suc (suc (suc zero)))))) h = each.of_sw rs2 q b place
  by_number (suc (suc (suc (suc (suc (suc (suc zero))))))) h = each.of_lw rd q d place
  by_number (suc (suc (suc (suc (suc (suc (suc (suc k)))))))) h = absurd (omega arith)

own : (low x : ℕ) → IsOwn (1 + field low 3 x)
own low x = record { low = omega arith; high = omega arith }

-- what holds of each kind holds of each instruction that is drawn
pub by_kind : (P : Instr → Type 0) → OfKinds P → (x : ℕ) → P (drawn x)
unfolding drawn
by_kind P each x =
    let m = field 9 11 x in
    let place : IsPlace (m - m % 4) = record { aligned = omega arith; inside = omega arith } in
    by_number P each (1 + field 26 3 x) (1 + field 23 3 x) (1 + field 20 3 x) m (m - m % 4) (own 26 x) (own 23 x) (own 20 x) (omega arith) place
    (of_immediate Lw (1 + field 26 3 x) 0 (pos (m - m % 4))) (field 29 3 x) (omega arith)

-- ---- it has a word

pub record HasWord (i : Instr) : Type 0 where
  pub says : row_of (encoding_of i) ≡ Some i
  pub below : encoding_of i < 2 ^ 32

valid_addi : (rd rs1 m : ℕ) → IsOwn rd → IsOwn rs1 → m < 2048 → IsValid (of_immediate Addi rd rs1 (pos m))
valid_addi rd rs1 m d a h = grind (arith, ints)

valid_lw : (rd q : ℕ) → IsOwn rd → IsPlace q → IsValid (of_immediate Lw rd 0 (pos q))
valid_lw rd q d p = grind (arith, ints)

valid_sw : (rs2 q : ℕ) → IsOwn rs2 → IsPlace q → IsValid (of_sources Sw 0 rs2 (pos q))
valid_sw rs2 q b p = grind (arith, ints)

valid_blt : (rs1 rs2 : ℕ) → IsOwn rs1 → IsOwn rs2 → IsValid (of_sources Blt rs1 rs2 (pos 8))
valid_blt rs1 rs2 a b = grind (arith, ints)

module _ (rd rs1 rs2 : ℕ) (d : IsOwn rd) (a : IsOwn rs1) (b : IsOwn rs2) where
  own_registers : (rd < 32) × (rs1 < 32) × (rs2 < 32) × (pos 0 ≡ pos 0)
  own_registers = (omega arith, omega arith, omega arith, refl)

below_addi : (rd rs1 m : ℕ) → IsOwn rd → IsOwn rs1 → encoding_of (of_immediate Addi rd rs1 (pos m)) < 2 ^ 32
unfolding encoding_of
below_addi rd rs1 m d a = omega arith

below_lw : (rd q : ℕ) → IsOwn rd → encoding_of (of_immediate Lw rd 0 (pos q)) < 2 ^ 32
unfolding encoding_of
below_lw rd q d = omega arith

below_sw : (rs2 q : ℕ) → IsOwn rs2 → encoding_of (of_sources Sw 0 rs2 (pos q)) < 2 ^ 32
unfolding encoding_of
below_sw rs2 q b = omega arith

below_blt : (rs1 rs2 : ℕ) → IsOwn rs1 → IsOwn rs2 → encoding_of (of_sources Blt rs1 rs2 (pos 8)) < 2 ^ 32
unfolding encoding_of
below_blt rs1 rs2 a b = omega arith

module _ (rd rs1 rs2 : ℕ) (d : IsOwn rd) (a : IsOwn rs1) (b : IsOwn rs2) where
  below_sub : encoding_of (of_registers Sub rd rs1 rs2) < 2 ^ 32
  unfolding encoding_of
  below_sub = omega arith

  below_xor : encoding_of (of_registers Xor rd rs1 rs2) < 2 ^ 32
  unfolding encoding_of
  below_xor = omega arith

  below_mul : encoding_of (of_registers Mul rd rs1 rs2) < 2 ^ 32
  unfolding encoding_of
  below_mul = omega arith

  below_rem : encoding_of (of_registers Rem rd rs1 rs2) < 2 ^ 32
  unfolding encoding_of
  below_rem = omega arith

pub has_word : (x : ℕ) → HasWord (drawn x)
has_word = by_kind HasWord record {
  of_addi = λ rd rs1 m d a h. record { says = row_word_of (of_immediate Addi rd rs1 (pos m)) (valid_addi rd rs1 m d a h); below = below_addi rd rs1 m d a };
  of_sub = λ rd rs1 rs2 d a b. record { says = row_word_of (of_registers Sub rd rs1 rs2) (own_registers rd rs1 rs2 d a b); below = below_sub rd rs1 rs2 d a b };
  of_xor = λ rd rs1 rs2 d a b. record { says = row_word_of (of_registers Xor rd rs1 rs2) (own_registers rd rs1 rs2 d a b); below = below_xor rd rs1 rs2 d a b };
  of_mul = λ rd rs1 rs2 d a b. record { says = row_word_of (of_registers Mul rd rs1 rs2) (own_registers rd rs1 rs2 d a b); below = below_mul rd rs1 rs2 d a b };
  of_rem = λ rd rs1 rs2 d a b. record { says = row_word_of (of_registers Rem rd rs1 rs2) (own_registers rd rs1 rs2 d a b); below = below_rem rd rs1 rs2 d a b };
  of_blt = λ rs1 rs2 a b. record { says = row_word_of (of_sources Blt rs1 rs2 (pos 8)) (valid_blt rs1 rs2 a b); below = below_blt rs1 rs2 a b };
  of_sw = λ rs2 q b p. record { says = row_word_of (of_sources Sw 0 rs2 (pos q)) (valid_sw rs2 q b p); below = below_sw rs2 q b };
  of_lw = λ rd q d p. record { says = row_word_of (of_immediate Lw rd 0 (pos q)) (valid_lw rd q d p); below = below_lw rd q d };
}

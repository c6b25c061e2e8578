-- What operands that were read keep.
use Rattle.std.proofs.Common.{◌≡◌, ◌<◌, ℕ, List, [], ◌∷◌, Bool, true, false, cond, refl, arith, subst}
use Rattle.std.specs.Prelude.{Option, Some, None, Result, Ok, Err, ℤ, nat_lt, ◌&&◌, pos, neg_ℤ}
use Rattle.std.specs.Option.{ok_or}
use Rattle.std.specs.List.{list_all, before_first, after_first}
use Rattle.diva_asm.specs.Texts.{trim}
use Rattle.std.specs.Map.{lookup}
use Rattle.std.specs.Str.{bytes_eq}
use Rattle.std.proofs.lemmas.Grind.{common_steps}
use Rattle.diva_asm.specs.Operands.{is_within, registers, register_of, operand_number, number_in, place_of, Place}
use Rattle.diva_asm.specs.Mnemonics.{operands_of}
use Rattle.diva_outside.specs.Steps.{and_then}
use Rattle.diva_asm.specs.Statements.{opens, closes, has_shape, have_shapes, with_operand, with_operands, no_operands}
use Rattle.diva_asm.specs.Reads.{Use, unused, with_use, uses, Keeps, IsRead}
use Rattle.diva_asm.specs.declared.fault.Kind.{Kind}
use Rattle.diva_asm.specs.declared.fault.Kind.TheVariants.{NoRegister, BadNumber}
use Rattle.diva_asm.specs.declared.mnemonic.Mnemonic.{Mnemonic}
use Rattle.diva_asm.specs.declared.operand.Operand.{Operand}
use Rattle.diva_asm.specs.declared.operand.Operand.TheVariants.{Rd, Rs1, Rs2, Number, Upper, Memory, Target}
use Rattle.diva_asm.specs.declared.operands.Operands.{Operands}

bind_ok : {A B : Type 0} (r : Result A Kind) (f : A → Result B Kind) (y : B) → and_then r f ≡ Ok y → (x : A) × (r ≡ Ok x) × (f x ≡ Ok y)
bind_ok (Ok x) f y e = (x, refl, e)
bind_ok (Err k) f y e = absurd (cc)

or_ok : {A : Type 0} (o : Option A) (k : Kind) (x : A) → ok_or o k ≡ Ok x → o ≡ Some x
or_ok (Some y) k x e = cc
or_ok None k x e = absurd (cc)

-- ---- registers are below 32

small_found : (test : List ℕ → Bool) (es : List (List ℕ × ℕ)) (n : ℕ) → list_all (λ e. nat_lt e.1 32) es ≡ true → lookup test es ≡ Some n → n < 32
small_found test [] n all e = absurd (cc)
small_found test (e ∷ es) n all found = by (test e.0) found (small_found test es n)
  where
    by : (t : Bool) → cond t (Some e.1) (lookup test es) ≡ Some n → (list_all (λ e. nat_lt e.1 32) es ≡ true → lookup test es ≡ Some n → n < 32) → n < 32
    by true f more = let same : e.1 ≡ n = cc in grind (arith, common_steps, all, same)
    by false f more = more (grind (arith, common_steps, all)) f

register_small : (word : List ℕ) (n : ℕ) → register_of word ≡ Some n → n < 32
unfolding register_of
register_small word n e = small_found (λ name. bytes_eq name word) registers n refl e

-- ---- numbers are in their range

number_within : (low high : ℤ) (text : List ℕ) (z : ℤ) → number_in low high text ≡ Some z → is_within low high z ≡ true
unfolding number_in
number_within low high text z e = by (operand_number text) e
  where
    by_test : (y : ℤ) (t : Bool) → is_within low high y ≡ t → cond t (Some y) None ≡ Some z → is_within low high z ≡ true
    by_test y true p q = let same : y ≡ z = cc in rw (← same) p
    by_test y false p q = absurd (cc)

    by : (o : Option ℤ) → (elim o as (λ _. Option ℤ) [ None ↦ None | Some y ↦ cond (is_within low high y) (Some y) None ]) ≡ Some z → is_within low high z ≡ true
    by None q = absurd (cc)
    by (Some y) q = by_test y (is_within low high y) refl q

-- ---- one operand, all of them

read_one : (operand : Operand) (text : List ℕ) (u : Use) (v w : Operands) → Keeps u v → with_operand operand text v ≡ Ok w → Keeps (with_use operand u) w
unfolding with_operand
read_one Rd text u v w k e =
    let b = bind_ok _ _ _ e in
    let s : b.0 < 32 = register_small text b.0 (or_ok _ _ _ b.1) in
    let same : record v { rd = b.0 } ≡ w = cc (b.2) in
    subst (λ x. Keeps (record u { rd = true }) x) same (record { rd = s; rs1 = k.rs1; rs2 = k.rs2; number = k.number })
read_one Rs1 text u v w k e =
    let b = bind_ok _ _ _ e in
    let s : b.0 < 32 = register_small text b.0 (or_ok _ _ _ b.1) in
    let same : record v { rs1 = b.0 } ≡ w = cc (b.2) in
    subst (λ x. Keeps (record u { rs1 = true }) x) same (record { rd = k.rd; rs1 = s; rs2 = k.rs2; number = k.number })
read_one Rs2 text u v w k e =
    let b = bind_ok _ _ _ e in
    let s : b.0 < 32 = register_small text b.0 (or_ok _ _ _ b.1) in
    let same : record v { rs2 = b.0 } ≡ w = cc (b.2) in
    subst (λ x. Keeps (record u { rs2 = true }) x) same (record { rd = k.rd; rs1 = k.rs1; rs2 = s; number = k.number })
read_one (Number low high) text u v w k e =
    let b = bind_ok _ _ _ e in
    let s = number_within low high text b.0 (or_ok _ _ _ b.1) in
    let same : record v { number = b.0 } ≡ w = cc (b.2) in
    subst (λ x. Keeps (record u { low = low; high = high }) x) same (record { rd = k.rd; rs1 = k.rs1; rs2 = k.rs2; number = s })
read_one Upper text u v w k e =
    let b = bind_ok _ _ _ e in
    let s = number_within (pos 0) (pos 0xfffff) text b.0 (or_ok _ _ _ b.1) in
    let same : record v { number = b.0 } ≡ w = cc (b.2) in
    subst (λ x. Keeps (record u { low = pos 0; high = pos 0xfffff }) x) same (record { rd = k.rd; rs1 = k.rs1; rs2 = k.rs2; number = s })
read_one Target text u v w k e =
    let set = λ (p : Place). record v { place = p } in
    let b = bind_ok (ok_or (place_of text) BadNumber) (λ p. Ok (set p)) w e in
    let same : set b.0 ≡ w = cc (b.2) in
    let kept : Keeps u (set b.0) = record { rd = k.rd; rs1 = k.rs1; rs2 = k.rs2; number = k.number } in
    subst (λ (x : Operands). Keeps u x) same kept
read_one Memory text u v w k e =
    let number = trim (before_first opens text) in
    let register = trim (before_first closes (after_first opens text)) in
    let set = λ (z : ℤ) (n : ℕ). record v { number = z; rs1 = n } in
    let b = bind_ok (ok_or (number_in (neg_ℤ (pos 2048)) (pos 2047) number) BadNumber) (λ z. and_then (ok_or (register_of register) NoRegister) (λ n. Ok (set z n))) w e in
    let d = bind_ok (ok_or (register_of register) NoRegister) (λ n. Ok (set b.0 n)) w b.2 in
    let s = number_within (neg_ℤ (pos 2048)) (pos 2047) number b.0 (or_ok _ _ _ b.1) in
    let r : d.0 < 32 = register_small register d.0 (or_ok _ _ _ d.1) in
    let same : record v { number = b.0; rs1 = d.0 } ≡ w = cc (d.2) in
    subst (λ x. Keeps (record u { rs1 = true; low = neg_ℤ (pos 2048); high = pos 2047 }) x) same (record { rd = k.rd; rs1 = r; rs2 = k.rs2; number = s })

read_all : (operands : List Operand) (texts : List (List ℕ)) (u : Use) (v w : Operands) → have_shapes operands texts ≡ true → Keeps u v → with_operands operands texts v ≡ Ok w → Keeps (uses operands u) w
unfolding with_operands have_shapes
read_all [] texts u v w h k e = let same : v ≡ w = cc in subst (λ x. Keeps u x) same k
read_all (operand ∷ operands) [] u v w h k e = absurd (cc)
read_all (operand ∷ operands) (text ∷ texts) u v w h k e =
    let b = bind_ok _ _ _ e in
    read_all operands texts (with_use operand u) b.0 w (second (has_shape operand text) _ h) (read_one operand text u v b.0 k b.1) b.2
  where
    second : (a b : Bool) → (a && b) ≡ true → b ≡ true
    second true b e = e
    second false b e = absurd (cc)

pub statement_read : (m : Mnemonic) (texts : List (List ℕ)) (v : Operands) → have_shapes (operands_of m) texts ≡ true → with_operands (operands_of m) texts no_operands ≡ Ok v → IsRead m v
statement_read m texts v h e = read_all (operands_of m) texts unused no_operands v h (record { rd = refl; rs1 = refl; rs2 = refl; number = refl }) e

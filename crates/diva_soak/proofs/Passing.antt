-- Each instruction that is drawn leads to the next one, or over it.
use Rattle.std.proofs.Common.{◌≡◌, ◌≢◌, ◌<◌, ◌⊎◌, inl, inr, ℕ, ◌+◌, ◌*◌, ◌%◌, ◌^◌, ◌==◌, List, Bool, true, false, Some, refl, ap, sym, ◌∙◌, subst, arith, if◌then◌else◌}
use Rattle.std.specs.Prelude.{pos}
use Rattle.std.specs.Int.{cast_unsigned, w32}
use Rattle.std.proofs.lemmas.Int.{ints}
use Rattle.std.proofs.lemmas.Bool.Decides.{nat_tests}
use Rattle.diva_decode.specs.declared.op.Op.TheVariants.{Addi, Blt, Lw, Mul, Rem, Sub, Sw, Xor}
use Rattle.diva_decode.specs.declared.instr.Instr.{Instr}
use Rattle.diva_decode.specs.Table.{row_of}
use Rattle.diva_isa.specs.Alu.{extended, is_taken}
use Rattle.diva_isa.specs.Kind.{kind}
use Rattle.diva_isa.specs.State.{State, memory_of, number_of, reg_of, word_of}
use Rattle.diva_isa.specs.Step.{effect, continues, load, loaded, record_by, step, store, stored, jumps_to}
use Rattle.diva_isa.specs.declared.record.Outcome.{Outcome}
use Rattle.diva_isa.specs.declared.record.Record.{Record}
use Rattle.diva_soak.specs.Soak.{drawn, of_immediate, of_registers, of_sources}
use Rattle.diva_soak.proofs.EachKind.{IsOwn, IsPlace, by_kind}
use Rattle.diva_soak.proofs.Placed.{IsNumber, number_inside}
use Rattle.diva_soak.proofs.Standing.{IsMild, Stands, stands_moved, steps_to}

-- the word of the instruction i is next, and each one that may follow it lies below 2^32
pub record IsNext (code : List ℕ) (s : State) (at w : ℕ) (i : Instr) : Type 0 where
  pub stands : Stands code s at
  pub there : word_of s s.pc ≡ Some w
  pub says : row_of w ≡ Some i
  pub small : 2048 + 4 * (at + 2) < 2 ^ 32

-- an instruction that goes on behind pc
pub straight : (code : List ℕ) (s : State) (at w : ℕ) (i : Instr) → IsNext code s at w i
    → (record_by s true w (Some i)).end ≡ 0 → (record_by s true w (Some i)).next ≡ (s.pc + 4) % 2 ^ 32 → IsMild (effect (kind i.op) i (record_by s true w (Some i)))
    → Stands code (step s) (at + 1)
straight code s at w i n good next mild =
    let r : Record = record_by s true w (Some i) in
    let pc = n.stands.pc in
    let small = n.small in
    let to : r.next ≡ 2048 + 4 * (at + 1) = next ∙ omega arith in
    subst (λ t. Stands code t (at + 1)) (sym (steps_to s w i n.stands.on n.there n.says good)) (stands_moved code s at (at + 1) r.next (effect (kind i.op) i r) n.stands mild to)

ten : (r : ℕ) → IsOwn r → r ≢ 10
ten r h = omega arith

-- ---- loads and stores of the data

place_is : (z q : ℕ) → z ≡ 0 → IsPlace q → (z + cast_unsigned w32 (pos q)) % 2 ^ 32 ≡ q
place_is z q h p = grind (arith, ints)

test_place : (q : ℕ) → IsPlace q → (q % 4 == 0) ≡ true
test_place q p = let a = p.aligned in grind (arith, nat_tests)

data_there : (code : List ℕ) (s : State) (at q : ℕ) → Stands code s at → IsPlace q → IsNumber (memory_of s) 4 q
data_there code s at q st p =
    let base = st.base in
    let long = st.long in
    let inside = p.inside in
    number_inside (memory_of s) 4 q (record { from = omega arith; to = omega arith })

load_at : (s : State) (pc q v : ℕ) → (q % 4 == 0) ≡ true → number_of s 4 q ≡ Some v → load s pc q Lw 4 ≡ continues pc (extended Lw v)
load_at s pc q v test there =
    ap (λ (b : Bool). if b then loaded pc Lw (number_of s 4 q) else (load s pc 1 Lw 4)) test ∙ ap (loaded pc Lw) there

store_at : (s : State) (pc q b v : ℕ) → (q % 4 == 0) ≡ true → number_of s 4 q ≡ Some v → store s pc q b 4 ≡ continues pc (b % 2 ^ 32)
store_at s pc q b v test there =
    ap (λ (c : Bool). if c then stored pc b 4 (number_of s 4 q) else (store s pc 1 b 4)) test ∙ ap (stored pc b 4) there

-- ---- the branch

target_is : (pc at : ℕ) → pc ≡ 2048 + 4 * at → 2048 + 4 * (at + 2) < 2 ^ 32 → (pc + cast_unsigned w32 (pos 8)) % 2 ^ 32 ≡ 2048 + 4 * (at + 2)
target_is pc at h small = omega arith

target_at : (pc t : ℕ) → t % 4 ≡ 0 → jumps_to pc 0 t ≡ record { value = 0; next = t; end = 0 }
target_at pc t h = rw h refl

-- the next instruction, or the one behind it
abbrev pub Goes : List ℕ → State → ℕ → Type 0
Goes code s at = Stands code s (at + 1) ⊎ Stands code s (at + 2)

abbrev pub Passes : Instr → Type 0
Passes i = (code : List ℕ) (s : State) (at w : ℕ) → IsNext code s at w i → Goes code (step s) at

by_branch : (taken : Bool) (rs1 rs2 : ℕ) (code : List ℕ) (s : State) (at w : ℕ) → IsNext code s at w (of_sources Blt rs1 rs2 (pos 8))
    → is_taken Blt (reg_of s rs1) (reg_of s rs2) ≡ taken → Goes code (step s) at
by_branch false rs1 rs2 code s at w n e =
    let t : ℕ = (s.pc + cast_unsigned w32 (pos 8)) % 2 ^ 32 in
    let is : (if is_taken Blt (reg_of s rs1) (reg_of s rs2) then jumps_to s.pc 0 t else continues s.pc 0) ≡ continues s.pc 0 = ap (λ (b : Bool). if b then jumps_to s.pc 0 t else continues s.pc 0) e in
    inl (straight code s at w (of_sources Blt rs1 rs2 (pos 8)) n (ap (λ (o : Outcome). o.end) is) (ap (λ (o : Outcome). o.next) is) tt)
by_branch true rs1 rs2 code s at w n e =
    let i : Instr = of_sources Blt rs1 rs2 (pos 8) in
    let t : ℕ = (s.pc + cast_unsigned w32 (pos 8)) % 2 ^ 32 in
    let to : t ≡ 2048 + 4 * (at + 2) = target_is s.pc at n.stands.pc n.small in
    let aligned : t % 4 ≡ 0 = omega arith in
    let is : (if is_taken Blt (reg_of s rs1) (reg_of s rs2) then jumps_to s.pc 0 t else continues s.pc 0) ≡ record { value = 0; next = t; end = 0 } =
    ap (λ (b : Bool). if b then jumps_to s.pc 0 t else continues s.pc 0) e ∙ target_at s.pc t aligned in
    let next : (record_by s true w (Some i)).next ≡ 2048 + 4 * (at + 2) = ap (λ (o : Outcome). o.next) is ∙ to in
    inr (subst (λ t. Stands code t (at + 2)) (sym (steps_to s w i n.stands.on n.there n.says (ap (λ (o : Outcome). o.end) is)))
    (stands_moved code s at (at + 2) _ (effect (kind i.op) i (record_by s true w (Some i))) n.stands tt next))

-- ---- one instruction of each kind

passes_lw : (rd q : ℕ) → IsOwn rd → IsPlace q → Passes (of_immediate Lw rd 0 (pos q))
passes_lw rd q d p code s at w n =
    let there = data_there code s at q n.stands p in
    let is : load s s.pc ((reg_of s 0 + cast_unsigned w32 (pos q)) % 2 ^ 32) Lw 4 ≡ continues s.pc (extended Lw there.number) =
    ap (λ (a : ℕ). load s s.pc a Lw 4) (place_is (reg_of s 0) q n.stands.none p) ∙ load_at s s.pc q there.number (test_place q p) there.is in
    inl (straight code s at w (of_immediate Lw rd 0 (pos q)) n (ap (λ (o : Outcome). o.end) is) (ap (λ (o : Outcome). o.next) is) (ten rd d))

passes_sw : (rs2 q : ℕ) → IsPlace q → Passes (of_sources Sw 0 rs2 (pos q))
passes_sw rs2 q p code s at w n =
    let there = data_there code s at q n.stands p in
    let place = place_is (reg_of s 0) q n.stands.none p in
    let inside = p.inside in
    let is : store s s.pc ((reg_of s 0 + cast_unsigned w32 (pos q)) % 2 ^ 32) (reg_of s rs2) 4 ≡ continues s.pc (reg_of s rs2 % 2 ^ 32) =
    ap (λ (a : ℕ). store s s.pc a (reg_of s rs2) 4) place ∙ store_at s s.pc q (reg_of s rs2) there.number (test_place q p) there.is in
    inl (straight code s at w (of_sources Sw 0 rs2 (pos q)) n (ap (λ (o : Outcome). o.end) is) (ap (λ (o : Outcome). o.next) is) (omega arith))

pub passes_addi : (rd rs1 m : ℕ) → rd ≢ 10 → (code : List ℕ) (s : State) (at w : ℕ) → IsNext code s at w (of_immediate Addi rd rs1 (pos m)) → Stands code (step s) (at + 1)
passes_addi rd rs1 m d code s at w n = straight code s at w (of_immediate Addi rd rs1 (pos m)) n refl refl d

pub passes : (x : ℕ) → Passes (drawn x)
passes = by_kind Passes record {
  of_addi = λ rd rs1 m d a h code s at w n. inl (passes_addi rd rs1 m (ten rd d) code s at w n);
  of_sub = λ rd rs1 rs2 d a b code s at w n. inl (straight code s at w (of_registers Sub rd rs1 rs2) n refl refl (ten rd d));
  of_xor = λ rd rs1 rs2 d a b code s at w n. inl (straight code s at w (of_registers Xor rd rs1 rs2) n refl refl (ten rd d));
  of_mul = λ rd rs1 rs2 d a b code s at w n. inl (straight code s at w (of_registers Mul rd rs1 rs2) n refl refl (ten rd d));
  of_rem = λ rd rs1 rs2 d a b code s at w n. inl (straight code s at w (of_registers Rem rd rs1 rs2) n refl refl (ten rd d));
  of_blt = λ rs1 rs2 a b code s at w n. by_branch (is_taken Blt (reg_of s rs1) (reg_of s rs2)) rs1 rs2 code s at w n refl;
  of_sw = λ rs2 q b p. passes_sw rs2 q p;
  of_lw = λ rd q d p. passes_lw rd q d p;
}

-- The state in which a pending claim stands, one older claim at a time.
use Rattle.std.proofs.Common.{◌≡◌, ◌≢◌, ◌<◌, ◌≤◌, ℕ, zero, suc, ◌+◌, ◌-◌, ◌^◌, ◌%◌, ◌==◌, ◌&&◌, not, ◌⊎◌, inl, inr, Bool, false, List, [], ◌∷◌, length, map, slice_get, slice_index, Some, true, if◌then◌else◌, refl, sym, ap, ◌∙◌, arith, add-one, length-take}
use Rattle.std.proofs.lemmas.Option.{none-some, same_Some}
use Rattle.std.proofs.lemmas.List.{length-map}
use Rattle.std.proofs.lemmas.Grind.{common_steps}
use Rattle.std.proofs.lemmas.Bool.{eqb-false, eqb-true}
use Rattle.std.proofs.lemmas.Bool.Decides.{nat_tests}
use Rattle.diva_memory.proofs.Writing.{same_number}
use Rattle.diva_isa.specs.State.{State, byte_of, memory_of, reg_of, word_of}
use Rattle.diva_isa.specs.Regs.{with_reg}
use Rattle.diva_isa.specs.Kind.{kind}
use Rattle.diva_isa.specs.declared.kind.Kind.{Kind}
use Rattle.diva_isa.specs.declared.kind.Kind.TheVariants.{Lui, Auipc, Jal, Jalr, Branch, Load, Store, OpImm, OpReg, Fence, Ecall, Ebreak, Counter}
use Rattle.diva_decode.specs.Table.{row_of}
use Rattle.diva_decode.specs.declared.instr.Instr.{Instr}
use Rattle.diva_isa.specs.Step.{apply, effect, effect_of, with_effect}
use Rattle.diva_isa.specs.declared.effect.Effect.{Effect}
use Rattle.diva_isa.specs.declared.effect.Effect.TheVariants.{Nothing, Writes, Stores, Puts}
use Rattle.diva_isa.specs.declared.record.Record.{Record}
use Rattle.diva_core.specs.declared.pending.Entry.{Entry}
use Rattle.diva_core.specs.Effects.{is_apart, with_effects}
use Rattle.diva_core.specs.Older.{after, before_entry, bypassed, led, older, with_claims}
use Rattle.diva_core.proofs.Forms.{writes_target}
use Rattle.diva_core.proofs.Laying.{apart_byte, effect_byte, over_none}

-- ---- where the state goes on, it is what is looked at

pub apply_moves : (s : State) (r : Record) → s.end ≡ 0 → r.end ≡ 0 → apply s r ≡ record (with_effect s (effect_of r)) { pc = r.next; instret = s.instret + 1 }
unfolding apply
apply_moves s r on off = rw (on, off) refl

pub apply_goes : (s : State) (r : Record) → (apply s r).end ≡ 0 → (s.end ≡ 0) × (r.end ≡ 0)
unfolding apply
apply_goes s r e = grind (arith, nat_tests)

-- what ended does not go on again
pub after_goes : (s : State) (rs : List Record) → (after s rs).end ≡ 0 → s.end ≡ 0
after_goes s [] h = h
after_goes s (r ∷ rs) h = (apply_goes s r (after_goes (apply s r) rs h)).0

-- where the state stands, and how many instructions led to it, is of no matter to an effect
abbrev at : State → (pc instret : ℕ) → State
at s pc instret = record s { pc = pc; instret = instret }

effect_at : (s : State) (q n : ℕ) (e : Effect) → at (with_effect s e) q n ≡ with_effect (at s q n) e
effect_at s q n Nothing = refl
effect_at s q n (Writes rd value) = refl
effect_at s q n (Stores width addr value) = refl
effect_at s q n (Puts byte) = refl

effects_at : (s : State) (q n p k : ℕ) (es : List Effect) → at (with_effects s es) p k ≡ at (with_effects (at s q n) es) p k
effects_at s q n p k [] = refl
effects_at s q n p k (e ∷ es) = effects_at (with_effect s e) q n p k es ∙ ap (λ (t : State). at (with_effects t es) p k) (effect_at s q n e)

after_is : (s : State) (rs : List Record) → (after s rs).end ≡ 0 → bypassed s rs ≡ after s rs
after_is s [] h = let none : s.instret + 0 ≡ s.instret = omega arith in ap (λ (n : ℕ). record s { instret = n }) none
after_is s (r ∷ rs) h =
    let on = apply_goes s r (after_goes (apply s r) rs h) in
    let one : s.instret + suc (length rs) ≡ s.instret + 1 + length rs = omega arith in
    ap (λ (k : ℕ). at (with_claims s (r ∷ rs)) (led r.next rs) k) one
    ∙ effects_at (with_effect s (effect_of r)) r.next (s.instret + 1) (led r.next rs) (s.instret + 1 + length rs) (map effect_of rs)
    ∙ ap (λ (t : State). bypassed t rs) (sym (apply_moves s r on.0 on.1))
    ∙ after_is (apply s r) rs h

pub before_is : (s : State) (entries : List Entry) (k : ℕ) → (before_entry s entries k).end ≡ 0 → bypassed s (older entries k) ≡ before_entry s entries k
before_is s entries k h = after_is s (older entries k) h

-- so many claims are older than the one at a place
pub older_length : (entries : List Entry) (k : ℕ) → k ≤ length entries → length (older entries k) ≡ k
older_length entries k h = rw (length-take, length-map) (omega arith)

-- ---- one older claim more

pub claims_more : (s : State) (entries : List Entry) (k : ℕ) (e : Entry) → slice_get entries k ≡ Some e
    → with_claims s (older entries (k + 1)) ≡ with_effect (with_claims s (older entries k)) (effect_of e.claim)
claims_more s [] k e h = absurd (none-some _ h)
claims_more s (x ∷ entries) zero e h = ap (λ (y : Entry). with_effect s (effect_of y.claim)) (same_Some _ _ h)
claims_more s (x ∷ entries) (suc k) e h = rw add-one (rw add-one at (claims_more (with_effect s (effect_of x.claim)) entries k e h))

led_more : (pc : ℕ) (entries : List Entry) (k : ℕ) (e : Entry) → slice_get entries k ≡ Some e → led pc (older entries (k + 1)) ≡ e.claim.next
led_more pc [] k e h = absurd (none-some _ h)
led_more pc (x ∷ entries) zero e h = ap (λ (y : Entry). y.claim.next) (same_Some _ _ h)
led_more pc (x ∷ entries) (suc k) e h = rw add-one (rw add-one at (led_more x.claim.next entries k e h))

-- the pc is where the last claim leads
pub led_last : (pc : ℕ) (entries : List Entry) (k : ℕ) (e : Entry) → k ≢ 0 → slice_get entries (k - 1) ≡ Some e → led pc (older entries k) ≡ e.claim.next
led_last pc entries k e n h =
    let one : k ≡ k - 1 + 1 = omega arith in ap (λ (j : ℕ). led pc (older entries j)) one ∙ led_more pc entries (k - 1) e h

-- ---- registers and output

pub with_reg_reads : (regs : List ℕ) (d v n : ℕ) → n < length regs → slice_index (with_reg regs d v) n ≡ (if (d == n) && not (n == 0) then v else slice_index regs n)
with_reg_reads regs d v n h = grind (arith, common_steps)

other_written : (s : State) (d v n : ℕ) → n < length s.regs → (d ≢ n) ⊎ (n ≡ 0) → reg_of (with_effect s (Writes d v)) n ≡ reg_of s n
other_written s d v n h (inl o) = grind (arith, common_steps, nat_tests, with_reg_reads s.regs d v n h)
other_written s d v n h (inr o) = grind (arith, common_steps, nat_tests, with_reg_reads s.regs d v n h)

other_put : (b : Bool) (r : Record) (s : State) (n : ℕ) → reg_of (with_effect s (if b then Puts (r.value % 2 ^ 8) else Nothing)) n ≡ reg_of s n
other_put true r s n = refl
other_put false r s n = refl

-- an instruction that has another register for its result leaves this one, and all leave x0
other_register : (k : Kind) (i : Instr) (r : Record) (s : State) (n : ℕ) → n < length s.regs → (i.rd ≢ n) ⊎ (n ≡ 0) → reg_of (with_effect s (effect k i r)) n ≡ reg_of s n
other_register Lui i r s n h d = other_written s i.rd r.value n h d
other_register Auipc i r s n h d = other_written s i.rd r.value n h d
other_register Jal i r s n h d = other_written s i.rd r.value n h d
other_register Jalr i r s n h d = other_written s i.rd r.value n h d
other_register Branch i r s n h d = refl
other_register (Load width) i r s n h d = other_written s i.rd r.value n h d
other_register (Store width) i r s n h d = refl
other_register OpImm i r s n h d = other_written s i.rd r.value n h d
other_register OpReg i r s n h d = other_written s i.rd r.value n h d
other_register Fence i r s n h d = refl
other_register Ecall i r s n h d = other_put (r.src1 == 1) r s n
other_register Ebreak i r s n h d = refl
other_register Counter i r s n h d = other_written s i.rd r.value n h d

-- a claim whose instruction names the register d for its result, 0 where it has none, or is none
pub target_reads : (s : State) (i : Instr) (r : Record) (n : ℕ) → row_of r.word ≡ Some i → n < length s.regs
    → reg_of (with_effect s (effect_of r)) n ≡ (if (i.rd == n) && not (n == 0) then r.value else reg_of s n)
target_reads s i r n e h = by_target (i.rd == n) (n == 0) refl refl
  where
    by_target : (b c : Bool) → (i.rd == n) ≡ b → (n == 0) ≡ c → reg_of (with_effect s (effect_of r)) n ≡ (if b && not c then r.value else reg_of s n)
    by_target true true p q = rw e (other_register (kind i.op) i r s n h (inr (eqb-true _ _ q)))
    by_target true false p q =
        let d : i.rd ≡ n = eqb-true _ _ p in
        let z : n ≢ 0 = eqb-false _ _ q in
        rw (writes_target r i e (λ w. z (sym d ∙ w))) (grind (arith, common_steps, nat_tests, with_reg_reads s.regs i.rd r.value n h))
    by_target false c p q = rw e (other_register (kind i.op) i r s n h (inl (eqb-false _ _ p)))

with_reg_length : (regs : List ℕ) (d v : ℕ) → length (with_reg regs d v) ≡ length regs
with_reg_length regs d v = grind (arith, common_steps)

effect_regs : (s : State) (e : Effect) → length (with_effect s e).regs ≡ length s.regs
effect_regs s Nothing = refl
effect_regs s (Writes rd value) = with_reg_length s.regs rd value
effect_regs s (Stores width addr value) = refl
effect_regs s (Puts byte) = refl

pub claims_regs : (s : State) (rs : List Record) → length (with_claims s rs).regs ≡ length s.regs
claims_regs s [] = refl
claims_regs s (r ∷ rs) = claims_regs (with_effect s (effect_of r)) rs ∙ effect_regs s (effect_of r)

pub put_length : (s : State) (byte : ℕ) → length (with_effect s (Puts byte)).output ≡ length s.output + 1
put_length s byte = grind (arith, common_steps)

-- ---- memory

-- a claim that stores beside a word keeps its bytes
pub apart_kept : (s : State) (e : Effect) (a i : ℕ) → is_apart e a 4 ≡ true → i < 4 → byte_of (with_effect s e) (a + i) ≡ byte_of s (a + i)
apart_kept s e a i h lt = effect_byte s e (a + i) ∙ over_none (byte_of s (a + i)) _ (apart_byte e a 4 i h lt)

pub word_kept : (s t : State) (a : ℕ) → ((i : ℕ) → i < 4 → byte_of s (a + i) ≡ byte_of t (a + i)) → word_of s a ≡ word_of t a
word_kept s t a h = rw (same_number (memory_of s) (memory_of t) 4 a h) refl

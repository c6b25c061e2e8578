-- What the due record is of, told by a claim that agrees with it so far.
use Rattle.std.proofs.Common.{◌≡◌, ◌≢◌, ◌==◌, ℕ, Option, Some, None, Bool, true, false, List, [], ◌∷◌, refl, sym, ap, ◌∙◌}
use Rattle.std.specs.Option.{is_some, unwrap_or}
use Rattle.diva_decode.specs.declared.instr.Instr.{Instr}
use Rattle.diva_decode.specs.Table.{row_of}
use Rattle.diva_isa.specs.State.{State, word_of}
use Rattle.diva_isa.specs.Step.{record_of, source1_of, source2_of, address_of, outcome_of, record_with}
use Rattle.diva_isa.specs.declared.record.Record.{Record}
use Rattle.diva_isa.proofs.Parts.{parts, word_is}
use Rattle.std.proofs.lemmas.Bool.{eq-eqb, ne_eqb}
use Rattle.diva_core.specs.declared.differences.Diff.{Diff}
use Rattle.diva_core.specs.declared.differences.Field.{Field}
use Rattle.diva_core.specs.declared.differences.Field.TheVariants.{Addr}
use Rattle.diva_core.specs.Difference.{difference_in, field_of}
use Rattle.diva_core.specs.Stages.{earlier, execute, fields_at, is_memory, is_memory_by, memory, operands, outcome_fields}
use Rattle.diva_core.proofs.Differing.{AreSame, in-none}

-- a record with other operands, or another address
abbrev pub with_operands : Record → ℕ → ℕ → Record
with_operands r a b = record r { src1 = a; src2 = b }

abbrev pub with_addr : Record → ℕ → Record
with_addr r a = record r { addr = a }

decoded_is : (r : Record) (s : State) → r.word ≡ (record_of s).word → row_of (unwrap_or (word_of s s.pc) 0) ≡ row_of r.word
decoded_is r s e = ap row_of (sym (e ∙ word_is s))

pub operands_filled : (r : Record) (s : State) → difference_in (earlier operands) r (record_of s) ≡ None
    → with_operands r (source1_of (row_of r.word) s) (source2_of (row_of r.word) s) ≡ with_operands r (record_of s).src1 (record_of s).src2
unfolding fields_at
operands_filled r s h =
    let same = in-none (earlier operands) r (record_of s) h in
    let decoded = decoded_is r s same.1.0 in
    let a = (parts s).src1 ∙ ap (λ (o : Option Instr). source1_of o s) decoded in
    let b = (parts s).src2 ∙ ap (λ (o : Option Instr). source2_of o s) decoded in
    λ i. record r { src1 = sym a i; src2 = sym b i }

-- the operands of a claim whose pc and word are due
pub operands_due : (r : Record) (s : State) → difference_in (earlier operands) r (record_of s) ≡ None
    → (source1_of (row_of r.word) s ≡ (record_of s).src1) × (source2_of (row_of r.word) s ≡ (record_of s).src2)
operands_due r s h = let same = operands_filled r s h in (ap (λ (x : Record). x.src1) same, ap (λ (x : Record). x.src2) same)

pub address_filled : (r : Record) (s : State) → difference_in (earlier execute) r (record_of s) ≡ None
    → with_addr r (address_of (row_of r.word) r.src1) ≡ with_addr r (record_of s).addr
unfolding fields_at
address_filled r s h =
    let same = in-none (earlier execute) r (record_of s) h in
    let a = (parts s).addr ∙ ap (λ (o : Option Instr). address_of o (record_of s).src1) (decoded_is r s same.1.0) ∙ ap (address_of (row_of r.word)) (sym same.1.1.0) in
    ap (with_addr r) (sym a)

-- the address of a claim whose operands are due
pub address_due : (r : Record) (s : State) → difference_in (earlier execute) r (record_of s) ≡ None
    → address_of (row_of r.word) r.src1 ≡ (record_of s).addr
address_due r s h = ap (λ (x : Record). x.addr) (address_filled r s h)

-- whether the word is there is asked only where it says nothing
any_there : (b c : Bool) (decoded : Option Instr) (s : State) (pc x y z : ℕ) → (decoded ≡ None → b ≡ c) → outcome_of b decoded s pc x y z ≡ outcome_of c decoded s pc x y z
any_there b c None s pc x y z h = rw (h refl) refl
any_there b c (Some i) s pc x y z h = refl

pub outcome_filled : (r : Record) (s : State) (there : Bool) (decoded : Option Instr) → decoded ≡ row_of r.word → (decoded ≡ None → there ≡ is_some (word_of s s.pc)) → difference_in (earlier memory) r (record_of s) ≡ None
    → record_with r.pc r.word r.src1 r.src2 r.addr (outcome_of there decoded s r.pc r.src1 r.src2 r.addr) ≡ record_of s
unfolding fields_at
outcome_filled r s there decoded e t h =
    let same = in-none (earlier memory) r (record_of s) h in
    let x = record_of s in
    let is : decoded ≡ row_of (unwrap_or (word_of s s.pc) 0) = e ∙ sym (decoded_is r s same.1.0) in
    ap (record_with r.pc r.word r.src1 r.src2 r.addr) (any_there there (is_some (word_of s s.pc)) decoded s r.pc r.src1 r.src2 r.addr t)
    ∙ rw (same.0, same.1.0, same.1.1.0, same.1.1.1.0, same.1.1.1.1.0, is) (sym (parts s).outcome)

pub outcome_due : (r x : Record) (v n e : ℕ) → record r { value = v; next = n; end = e } ≡ x → (v ≡ x.value) × (n ≡ x.next) × (e ≡ x.end)
outcome_due r x v n e h = (ap (λ (y : Record). y.value) h, ap (λ (y : Record). y.next) h, ap (λ (y : Record). y.end) h)

pub none-in : (fs : List Field) (p r : Record) → AreSame fs p r → difference_in fs p r ≡ None
none-in [] p r e = refl
none-in (f ∷ fs) p r e = rw (eq-eqb (field_of f p) (field_of f r) e.0) (none-in fs p r e.1)

-- where the fields read agree, they do with the due address too
pub placed_agrees : (r x : Record) → difference_in (earlier execute) r x ≡ None → difference_in (earlier memory) (with_addr r x.addr) x ≡ None
unfolding fields_at
placed_agrees r x h =
    let same = in-none (earlier execute) r x h in
    none-in (earlier memory) (with_addr r x.addr) x (same.0, (same.1.0, (same.1.1.0, (same.1.1.1.0, (refl, tt)))))

-- a claim that agrees in its word is a load or a store where the due record is
pub same_memory : (r x : Record) (b : Bool) → difference_in (earlier execute) r x ≡ None → is_memory_by (row_of r.word) ≡ b → is_memory x ≡ b
unfolding fields_at
same_memory r x b h e = ap (λ (w : ℕ). is_memory_by (row_of w)) (sym (in-none (earlier execute) r x h).1.0) ∙ e

-- ---- the stage that executes

-- the addresses differ
pub executed_addr : (claim due : Record) (a : ℕ) (b : Bool) → claim.addr ≢ a → a ≡ due.addr
    → Some (record { field = Addr; claimed = claim.addr; due = a }) ≡ difference_in (execute.fields b) claim due
executed_addr claim due a b n e = addr_first b (ne_eqb claim.addr a n)
  where
    addr_first : (b : Bool) → (claim.addr == a) ≡ false → Some (record { field = Addr; claimed = claim.addr; due = a }) ≡ difference_in (execute.fields b) claim due
    addr_first true other = rw (← e, other) refl
    addr_first false other = rw (← e, other) refl

-- of a load or a store nothing else is compared
pub executed_memory : (claim due : Record) (decoded : Option Instr) → decoded ≡ row_of claim.word → is_memory_by decoded ≡ true
    → difference_in (earlier execute) claim due ≡ None → claim.addr ≡ due.addr
    → None ≡ difference_in (execute.fields (is_memory due)) claim due
executed_memory claim due decoded f m h a =
    rw (same_memory claim due true h (ap is_memory_by (sym f) ∙ m), eq-eqb claim.addr due.addr a) refl

agrees_addr : (claim due : Record) → difference_in (earlier execute) claim due ≡ None → claim.addr ≡ due.addr → difference_in (earlier memory) claim due ≡ None
unfolding fields_at
agrees_addr claim due h a =
    let same = in-none (earlier execute) claim due h in
    none-in (earlier memory) claim due (same.0, (same.1.0, (same.1.1.0, (same.1.1.1.0, (a, tt)))))

pub executed_other : (claim due : Record) (answer : Option Diff) (decoded : Option Instr) → decoded ≡ row_of claim.word → is_memory_by decoded ≡ false
    → difference_in (earlier execute) claim due ≡ None → claim.addr ≡ due.addr
    → (difference_in (earlier memory) claim due ≡ None → answer ≡ difference_in outcome_fields claim due)
    → answer ≡ difference_in (execute.fields (is_memory due)) claim due
executed_other claim due answer decoded f m h a o =
    o (agrees_addr claim due h a)
    ∙ rw (same_memory claim due false h (ap is_memory_by (sym f) ∙ m), eq-eqb claim.addr due.addr a) refl

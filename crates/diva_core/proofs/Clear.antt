-- Reads of memory that meet no store in flight.
use Rattle.std.proofs.Common.{◌≡◌, ◌≤◌, ℕ, zero, suc, ◌^◌, ◌%◌, ◌==◌, List, [], ◌∷◌, Bool, true, false, ◌&&◌, inl, inr, refl, sym, arith, map, Option, Some, None, if◌then◌else◌}
use Rattle.std.specs.Prelude.{IfSome}
use Rattle.std.specs.List.{list_all}
use Rattle.std.proofs.lemmas.Bool.Decides.{nat_tests}
use Rattle.diva_memory.specs.Interval.{AreApart}
use Rattle.diva_decode.specs.Table.{row_of}
use Rattle.diva_decode.specs.declared.instr.Instr.{Instr}
use Rattle.diva_isa.specs.Kind.{kind, size}
use Rattle.diva_isa.specs.declared.kind.Width.{Width}
use Rattle.diva_isa.specs.declared.kind.Width.TheVariants.{Byte, Half, Word}
use Rattle.diva_isa.specs.State.{State, byte_of, number_of, word_of}
use Rattle.diva_isa.specs.Step.{effect, effect_by, effect_of}
use Rattle.diva_isa.specs.declared.effect.Effect.{Effect}
use Rattle.diva_isa.specs.declared.effect.Effect.TheVariants.{Nothing, Writes, Stores, Puts}
use Rattle.diva_isa.specs.declared.kind.Kind.{Kind}
use Rattle.diva_isa.specs.declared.kind.Kind.TheVariants.{Lui, Auipc, Jal, Jalr, Branch, Load, Store, OpImm, OpReg, Fence, Ecall, Ebreak, Counter}
use Rattle.diva_isa.specs.declared.record.Record.{Record}
use Rattle.diva_core.specs.declared.pending.Entry.{Entry}
use Rattle.diva_core.specs.Cycle.{is_store}
use Rattle.diva_core.specs.Effects.{is_apart}
use Rattle.diva_core.specs.Entries.{may_store, MayStore}
use Rattle.diva_core.specs.Older.{older, with_claims}
use Rattle.diva_core.proofs.Forms.{stores_none}
use Rattle.diva_core.proofs.Laying.{effects_byte, effects_number, effects_word}

-- ---- what is apart

quiet_apart : (e : Effect) (a n : ℕ) → is_store e ≡ false → is_apart e a n ≡ true
quiet_apart Nothing a n h = refl
quiet_apart (Writes rd value) a n h = refl
quiet_apart (Stores width addr value) a n h = absurd (cc)
quiet_apart (Puts byte) a n h = refl

-- a store lies in the word at its address
abbrev LiesAt : ℕ → Effect → Type 0
LiesAt at e = (a n : ℕ) → AreApart at 4 a n → is_apart e a n ≡ true

small : (w : Width) → size w ≤ 4
small Byte = omega arith
small Half = omega arith
small Word = omega arith

store_lies : (w : Width) (at value : ℕ) → LiesAt at (Stores w at value)
store_lies w at value a n (inl k) = let s = small w in grind (arith, nat_tests)
store_lies w at value a n (inr k) = let s = small w in grind (arith, nat_tests)

put_lies : (b : Bool) (byte at : ℕ) → LiesAt at (if b then Puts byte else Nothing)
put_lies true byte at a n k = refl
put_lies false byte at a n k = refl

effect_lies : (k : Kind) (i : Instr) (r : Record) → LiesAt r.addr (effect k i r)
effect_lies Lui i r a n k = refl
effect_lies Auipc i r a n k = refl
effect_lies Jal i r a n k = refl
effect_lies Jalr i r a n k = refl
effect_lies Branch i r a n k = refl
effect_lies (Load width) i r a n k = refl
effect_lies (Store width) i r a n k = store_lies width r.addr r.value a n k
effect_lies OpImm i r a n k = refl
effect_lies OpReg i r a n k = refl
effect_lies Fence i r a n k = refl
effect_lies Ecall i r a n k = put_lies (r.src1 == 1) (r.value % 2 ^ 8) r.addr a n k
effect_lies Ebreak i r a n k = refl
effect_lies Counter i r a n k = refl

claim_lies : (decoded : Option Instr) (r : Record) → LiesAt r.addr (effect_by decoded r)
claim_lies None r a n k = refl
claim_lies (Some i) r a n k = effect_lies (kind i.op) i r a n k

by_opcode : (b : Bool) (e : Entry) (a n : ℕ) → may_store e ≡ b → ((at k : ℕ) → MayStore e at k → AreApart at k a n) → is_apart (effect_of e.claim) a n ≡ true
by_opcode false e a n m apart = quiet_apart (effect_of e.claim) a n (stores_none e.claim (λ t. absurd (cc)))
by_opcode true e a n m apart = claim_lies (row_of e.claim.word) e.claim a n (apart e.claim.addr 4 (m, refl, refl))

-- what is apart from all that a claim may store is so from what it does store
pub claim_apart : (e : Entry) (a n : ℕ) → ((at k : ℕ) → MayStore e at k → AreApart at k a n) → is_apart (effect_of e.claim) a n ≡ true
claim_apart e a n apart = by_opcode (may_store e) e a n refl apart

-- ---- the word that is read

split : (b c : Bool) → (b && c) ≡ true → (b ≡ true) × (c ≡ true)
split true c h = (refl, h)
split false c h = absurd (cc)

older_apart : (entries : List Entry) (k a n : ℕ) → list_all (λ e. is_apart (effect_of e.claim) a n) entries ≡ true → list_all (λ e. is_apart e a n) (map effect_of (older entries k)) ≡ true
older_apart entries zero a n h = refl
older_apart [] (suc k) a n h = refl
older_apart (e ∷ entries) (suc k) a n h =
    let each = split (is_apart (effect_of e.claim) a n) (list_all (λ d. is_apart (effect_of d.claim) a n) entries) h in
    rw (each.0, older_apart entries k a n each.1) refl

pub clear_word : (s : State) (entries : List Entry) (k a : ℕ) → list_all (λ e. is_apart (effect_of e.claim) a 4) entries ≡ true → word_of (with_claims s (older entries k)) a ≡ word_of s a
clear_word s entries k a h = effects_word s (map effect_of (older entries k)) a (older_apart entries k a 4 h)

pub clear_number : (s : State) (entries : List Entry) (k a n : ℕ) → list_all (λ e. is_apart (effect_of e.claim) a n) entries ≡ true → number_of (with_claims s (older entries k)) n a ≡ number_of s n a
clear_number s entries k a n h = effects_number s (map effect_of (older entries k)) a n (older_apart entries k a n h)

pub clear_byte : (s : State) (entries : List Entry) (k a : ℕ) → list_all (λ e. is_apart (effect_of e.claim) a 1) entries ≡ true → byte_of (with_claims s (older entries k)) a ≡ byte_of s a
clear_byte s entries k a h = effects_byte s (map effect_of (older entries k)) a (older_apart entries k a 1 h)

-- ---- what is noted of a claim

-- what the table says of a word is its decoded form
pub decoded_by : (word : ℕ) (decoded : Option Instr) → decoded ≡ row_of word → IfSome decoded (λ i. row_of word ≡ Some i)
decoded_by word None h = tt
decoded_by word (Some i) h = sym h

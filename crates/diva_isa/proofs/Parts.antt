-- The parts of the due record, one after the other.
use Rattle.std.proofs.Common.{◌≡◌, ℕ, Option, Some, None, refl, ap, sym, ◌∙◌}
use Rattle.std.specs.Option.{is_some, option_and_then, unwrap_or}
use Rattle.diva_decode.specs.declared.instr.Instr.{Instr}
use Rattle.diva_decode.specs.Table.{row_of}
use Rattle.diva_isa.specs.State.{State, word_of}
use Rattle.diva_isa.specs.Step.{record_of, record_fetched, source1_of, source2_of, address_of, outcome_of, record_with, effect_by, effect_of}
use Rattle.diva_isa.specs.declared.record.Record.{Record}

-- what is known of the record of a state, where o is its word and decoded what the word says
pub record Parts (x : Record) (s : State) (o : Option ℕ) (decoded : Option Instr) : Type 0 where
  pub pc : x.pc ≡ s.pc
  pub word : x.word ≡ unwrap_or o 0
  pub src1 : x.src1 ≡ source1_of decoded s
  pub src2 : x.src2 ≡ source2_of decoded s
  pub addr : x.addr ≡ address_of decoded x.src1
  pub outcome : x ≡ record_with x.pc x.word x.src1 x.src2 x.addr (outcome_of (is_some o) decoded s x.pc x.src1 x.src2 x.addr)

-- the word 0, which a record has where there is no word, says nothing
pub row_of_zero : row_of 0 ≡ None
unfolding row_of
row_of_zero = refl

parts_fetched : (s : State) (o : Option ℕ) → Parts (record_fetched s o) s o (row_of (unwrap_or o 0))
parts_fetched s None = rw row_of_zero (record { pc = refl; word = refl; src1 = refl; src2 = refl; addr = refl; outcome = refl })
parts_fetched s (Some w) = record { pc = refl; word = refl; src1 = refl; src2 = refl; addr = refl; outcome = refl }

pub parts : (s : State) → Parts (record_of s) s (word_of s s.pc) (row_of (unwrap_or (word_of s s.pc) 0))
unfolding record_of
parts s = parts_fetched s (word_of s s.pc)

pub pc_is : (s : State) → (record_of s).pc ≡ s.pc
pc_is s = (parts s).pc

pub word_is : (s : State) → (record_of s).word ≡ unwrap_or (word_of s s.pc) 0
word_is s = (parts s).word

-- what the due record does is read off its word as it was fetched
effect_by_word : (o : Option ℕ) (r : Record) → r.word ≡ unwrap_or o 0 → effect_by (option_and_then row_of o) r ≡ effect_of r
effect_by_word None r h = ap (λ (decoded : Option Instr). effect_by decoded r) (sym row_of_zero ∙ ap row_of (sym h))
effect_by_word (Some w) r h = ap (λ (n : ℕ). effect_by (row_of n) r) (sym h)

pub effect_is : (s : State) → effect_by (option_and_then row_of (word_of s s.pc)) (record_of s) ≡ effect_of (record_of s)
effect_is s = effect_by_word (word_of s s.pc) (record_of s) (word_is s)

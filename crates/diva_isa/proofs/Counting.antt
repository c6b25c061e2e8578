-- What the due record has to do with the number of instructions that led to a state: where it is of an instruction that reads it,
-- the value, and else nothing.
use Rattle.std.proofs.Common.{◌≡◌, ℕ, Bool, true, Option, Some, None, refl, if◌then◌else◌}
use Rattle.diva_decode.specs.declared.instr.Instr.{Instr}
use Rattle.diva_decode.specs.Table.{row_of}
use Rattle.diva_isa.specs.State.{State, word_of}
use Rattle.diva_isa.specs.Kind.{kind, reads_instret, reads_instret_by}
use Rattle.diva_isa.specs.Step.{address, outcome, record_by, record_fetched, record_of, record_with, source1, source2}
use Rattle.diva_isa.specs.declared.kind.Kind.{Kind}
use Rattle.diva_isa.specs.declared.kind.Kind.TheVariants.{Lui}
use Rattle.diva_isa.specs.declared.record.Record.{Record}
use Rattle.diva_isa.proofs.Parts.{row_of_zero}

-- the state, had another number of instructions led to it
abbrev pub numbered : State → ℕ → State
numbered s n = record s { instret = n }

-- the record x, with the value of r if it reads `instret`
abbrev pub with_value : (reads : Bool) → Record → Record → Record
with_value reads x r = if reads then record x { value = r.value } else x

abbrev said : Kind → State → Instr → (w : ℕ) → Record
said k s i w =
    let a = source1 k s i in let b = source2 k s i in let addr = address k i a in
    record_with s.pc w a b addr (outcome k s i s.pc a b addr)

kind_counted : (k : Kind) (s : State) (n : ℕ) (i : Instr) (w : ℕ) → said k s i w ≡ with_value (reads_instret k) (said k (numbered s n) i w) (said k s i w)
kind_counted Lui s n i w = refl
kind_counted k s n i w = refl

said_counted : (s : State) (n w : ℕ) (o : Option Instr) → record_by s true w o ≡ with_value (reads_instret_by o) (record_by (numbered s n) true w o) (record_by s true w o)
said_counted s n w None = refl
said_counted s n w (Some i) = kind_counted (kind i.op) s n i w

fetched_counted : (s : State) (n : ℕ) (o : Option ℕ)
    → record_fetched s o ≡ with_value (reads_instret_by (row_of (record_fetched (numbered s n) o).word)) (record_fetched (numbered s n) o) (record_fetched s o)
fetched_counted s n None = rw row_of_zero refl
fetched_counted s n (Some w) = said_counted s n w (row_of w)

pub record_counted : (s : State) (n : ℕ) → record_of s ≡ with_value (reads_instret_by (row_of (record_of (numbered s n)).word)) (record_of (numbered s n)) (record_of s)
unfolding record_of
record_counted s n = fetched_counted s n (word_of s s.pc)

-- Where a state stands in the image, and how one instruction moves it.
use Rattle.std.proofs.Common.{◌≡◌, ◌≢◌, ◌≤◌, ℕ, ◌+◌, ◌*◌, ◌==◌, List, length, slice_get, true, Some, refl, ap, ◌∙◌, arith}
use Rattle.std.specs.Bool.{⊤}
use Rattle.std.proofs.lemmas.Grind.{common_steps}
use Rattle.std.proofs.lemmas.Bool.Decides.{nat_tests}
use Rattle.diva_decode.specs.declared.instr.Instr.{Instr}
use Rattle.diva_decode.specs.Table.{row_of}
use Rattle.diva_memory.proofs.Writing.{put_all_length}
use Rattle.diva_memory.specs.Bytes.{low_bytes}
use Rattle.diva_isa.specs.State.{State, goes_on, memory_of, reg_of, word_of}
use Rattle.diva_isa.specs.Kind.{kind, size}
use Rattle.diva_isa.specs.Step.{apply, effect, effect_by, record_fetched, record_of, record_by, step, with_effect}
use Rattle.diva_isa.specs.declared.record.Record.{Record}
use Rattle.diva_isa.specs.declared.effect.Effect.{Effect}
use Rattle.diva_isa.specs.declared.effect.Effect.TheVariants.{Nothing, Writes, Stores, Puts}
use Rattle.diva_core.specs.Effects.{is_apart}
use Rattle.diva_core.proofs.Bypassing.{with_reg_reads, word_kept}
use Rattle.diva_core.proofs.Laying.{apart_byte, effect_byte, over_none}
use Rattle.diva_core.proofs.Steps.{step-on}

-- the state goes on at the word `at` of the code, which stands in memory from 2048 on; x0 and x10 are 0
pub record Stands (code : List ℕ) (s : State) (at : ℕ) : Type 0 where
  pub on : s.end ≡ 0
  pub pc : s.pc ≡ 2048 + 4 * at
  pub base : s.base ≡ 0
  pub long : 2048 ≤ length s.bytes
  pub coded : (k w : ℕ) → slice_get code k ≡ Some w → word_of s (2048 + 4 * k) ≡ Some w
  pub regs : length s.regs ≡ 32
  pub none : reg_of s 0 ≡ 0
  pub status : reg_of s 10 ≡ 0

-- ---- what an effect leaves as it is

-- it writes another register than x10, and stores to the data alone
abbrev pub IsMild : Effect → Type 0
IsMild Nothing = ⊤
IsMild (Writes rd value) = rd ≢ 10
IsMild (Stores width addr value) = addr + size width ≤ 2048
IsMild (Puts byte) = ⊤

mild_apart : (e : Effect) (k : ℕ) → IsMild e → is_apart e (2048 + 4 * k) 4 ≡ true
mild_apart Nothing k h = refl
mild_apart (Writes rd value) k h = refl
mild_apart (Stores width addr value) k h = grind (arith, nat_tests)
mild_apart (Puts byte) k h = refl

code_kept : (s : State) (e : Effect) (k : ℕ) → IsMild e → word_of (with_effect s e) (2048 + 4 * k) ≡ word_of s (2048 + 4 * k)
code_kept s e k h =
    word_kept (with_effect s e) s (2048 + 4 * k) (λ i lt.
    effect_byte s e (2048 + 4 * k + i) ∙ over_none _ _ (apart_byte e (2048 + 4 * k) 4 i (mild_apart e k h) lt))

long_kept : (s : State) (e : Effect) → length (with_effect s e).bytes ≡ length s.bytes
long_kept s Nothing = refl
long_kept s (Writes rd value) = refl
long_kept s (Stores width addr value) = put_all_length (memory_of s) addr (low_bytes (size width) value)
long_kept s (Puts byte) = refl

regs_kept : (s : State) (e : Effect) → length (with_effect s e).regs ≡ length s.regs
regs_kept s Nothing = refl
regs_kept s (Writes rd value) = grind (arith, common_steps)
regs_kept s (Stores width addr value) = refl
regs_kept s (Puts byte) = refl

zero_kept : (s : State) (e : Effect) → length s.regs ≡ 32 → reg_of (with_effect s e) 0 ≡ reg_of s 0
zero_kept s Nothing h = refl
zero_kept s (Writes rd value) h = grind (arith, common_steps, nat_tests, with_reg_reads s.regs rd value 0 (omega arith))
zero_kept s (Stores width addr value) h = refl
zero_kept s (Puts byte) h = refl

status_kept : (s : State) (e : Effect) → length s.regs ≡ 32 → IsMild e → reg_of (with_effect s e) 10 ≡ reg_of s 10
status_kept s Nothing h m = refl
status_kept s (Writes rd value) h m = grind (arith, common_steps, nat_tests, with_reg_reads s.regs rd value 10 (omega arith))
status_kept s (Stores width addr value) h m = refl
status_kept s (Puts byte) h m = refl

on_kept : (s : State) (e : Effect) → (with_effect s e).end ≡ s.end
on_kept s Nothing = refl
on_kept s (Writes rd value) = refl
on_kept s (Stores width addr value) = refl
on_kept s (Puts byte) = refl

base_kept : (s : State) (e : Effect) → (with_effect s e).base ≡ s.base
base_kept s Nothing = refl
base_kept s (Writes rd value) = refl
base_kept s (Stores width addr value) = refl
base_kept s (Puts byte) = refl

abbrev pub moved : State → Effect → ℕ → State
moved s e next = record (with_effect s e) { pc = next; instret = s.instret + 1 }

pub stands_moved : (code : List ℕ) (s : State) (i j next : ℕ) (e : Effect) → Stands code s i → IsMild e → next ≡ 2048 + 4 * j → Stands code (moved s e next) j
stands_moved code s i j next e st mild is =
    record {
      on = on_kept s e ∙ st.on;
      pc = is;
      base = base_kept s e ∙ st.base;
      long = (let l = long_kept s e in let m = st.long in omega arith);
      coded = λ k w at. code_kept s e k mild ∙ st.coded k w at;
      regs = regs_kept s e ∙ st.regs;
      none = zero_kept s e st.regs ∙ st.none;
      status = status_kept s e st.regs mild ∙ st.status;
    }

-- ---- one instruction

pub record_is : (s : State) (w : ℕ) (i : Instr) → word_of s s.pc ≡ Some w → row_of w ≡ Some i → record_of s ≡ record_by s true w (Some i)
unfolding record_of
record_is s w i at row = ap (record_fetched s) at ∙ ap (record_by s true w) row

on_true : (s : State) → s.end ≡ 0 → goes_on s ≡ true
on_true s on = grind (arith, nat_tests)

applied : (s : State) (r : Record) (i : Instr) → goes_on s ≡ true → (r.end == 0) ≡ true → row_of r.word ≡ Some i → apply s r ≡ moved s (effect (kind i.op) i r) r.next
unfolding apply
applied s r i on good row = rw (on, good) (ap (λ decoded. moved s (effect_by decoded r) r.next) row)

good_true : (n : ℕ) → n ≡ 0 → (n == 0) ≡ true
good_true n h = grind (arith, nat_tests)

pub steps_to : (s : State) (w : ℕ) (i : Instr) → s.end ≡ 0 → word_of s s.pc ≡ Some w → row_of w ≡ Some i → (record_by s true w (Some i)).end ≡ 0
    → step s ≡ moved s (effect (kind i.op) i (record_by s true w (Some i))) (record_by s true w (Some i)).next
steps_to s w i on at row good =
    step-on s ∙ ap (apply s) (record_is s w i at row)
    ∙ applied s (record_by s true w (Some i)) i (on_true s on) (good_true _ good) row

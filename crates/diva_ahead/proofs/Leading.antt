-- What the core sees is the state to which its pending claims lead.
use Rattle.std.proofs.Common.{◌≡◌, ◌≢◌, ℕ, suc, ◌+◌, ◌-◌, ◌%◌, ◌^◌, ◌==◌, Bool, true, false, not, List, [], ◌∷◌, length, map, min, replicate, Option, Some, None, refl, ap, sym, ◌∙◌, arith, if◌then◌else◌, length-append}
use Rattle.std.specs.Prelude.{nat_lt}
use Rattle.std.proofs.lemmas.Bool.Decides.{nat_tests}
use Rattle.std.proofs.lemmas.Bool.{true≢false}
use Rattle.std.proofs.lemmas.List.{length-replicate}
use Rattle.diva_decode.specs.declared.instr.Instr.{Instr}
use Rattle.diva_decode.specs.Table.{row_of}
use Rattle.diva_memory.specs.Bytes.{Bytes, low_bytes, put_all}
use Rattle.diva_isa.specs.State.{State, goes_on, memory_of, word_of, output_limit}
use Rattle.diva_decode.specs.declared.op.Op.{Op}
use Rattle.diva_decode.specs.declared.op.Op.TheVariants.{Rdinstret, Rdinstreth}
use Rattle.diva_isa.specs.Alu.{half_read}
use Rattle.diva_isa.specs.Kind.{kind, size}
use Rattle.diva_isa.specs.Step.{apply, continues, effect_of, record_fetched, outcome, record_of, record_by, source1, source2, address_of, step, steps, with_effect}
use Rattle.diva_isa.specs.declared.kind.Kind.{Kind}
use Rattle.diva_isa.specs.declared.kind.Kind.TheVariants.{Lui, Ecall, Counter}
use Rattle.diva_isa.specs.declared.record.Record.{Record}
use Rattle.diva_isa.specs.declared.effect.Effect.{Effect}
use Rattle.diva_isa.specs.declared.effect.Effect.TheVariants.{Nothing, Writes, Stores, Puts}
use Rattle.diva_isa.proofs.Steps.{apply_record_of, steps-step, steps_ended}
use Rattle.diva_core.proofs.Calming.{AreDueFrom}
use Rattle.diva_core.specs.Effects.{with_effects}
use Rattle.diva_ahead.specs.Effects.{done_by}
use Rattle.diva_ahead.specs.Ahead.{Ahead, with_record, seen}
use Rattle.diva_ahead.proofs.Handing.{behind, behind_pc, behind_regs, regs_after}

-- ---- a record depends on no end, of the output on its length alone, up to where it is full, and of the number of instructions on
-- its low 64 bits alone

abbrev pub full : ℕ → ℕ
full n = min n output_limit

abbrev pub low_64 : ℕ → ℕ
low_64 n = n % 2 ^ 64

abbrev pub other : State → (output : List ℕ) (instret end : ℕ) → State
other s o n e = record s { output = o; instret = n; end = e }

-- what is said of each kind, all in the same way but for a call
source1_other : (k : Kind) (s : State) (o : List ℕ) (n e : ℕ) (i : Instr) → source1 k (other s o n e) i ≡ source1 k s i
source1_other Lui s o n e i = refl
source1_other k s o n e i = refl

source2_other : (k : Kind) (s : State) (o : List ℕ) (n e : ℕ) (i : Instr) → source2 k (other s o n e) i ≡ source2 k s i
source2_other Lui s o n e i = refl
source2_other k s o n e i = refl

same_room : (m n : ℕ) → full m ≡ full n → nat_lt m output_limit ≡ nat_lt n output_limit
same_room m n h = grind (arith, nat_tests)

half_same : (op : Op) (m n : ℕ) → low_64 m ≡ low_64 n → half_read op m ≡ half_read op n
half_same Rdinstret m n h = omega arith
half_same Rdinstreth m n h = omega arith
half_same op m n h = refl

outcome_other : (k : Kind) (s : State) (o : List ℕ) (n e : ℕ) (i : Instr) (pc a b addr : ℕ) → full (length o) ≡ full (length s.output) → low_64 n ≡ low_64 s.instret → outcome k (other s o n e) i pc a b addr ≡ outcome k s i pc a b addr
outcome_other Ecall s o n e i pc a b addr h g = rw (same_room (length o) (length s.output) h) refl
outcome_other Counter s o n e i pc a b addr h g = ap (continues pc) (half_same i.op n s.instret g)
outcome_other k s o n e i pc a b addr h g = refl

said_other : (s : State) (o : List ℕ) (n e : ℕ) (there : Bool) (w : ℕ) (decoded : Option Instr) → full (length o) ≡ full (length s.output) → low_64 n ≡ low_64 s.instret → record_by (other s o n e) there w decoded ≡ record_by s there w decoded
said_other s o n e true w None h g = refl
said_other s o n e false w None h g = refl
said_other s o n e there w (Some i) h g =
    rw (source1_other (kind i.op) s o n e i, source2_other (kind i.op) s o n e i, outcome_other (kind i.op) s o n e i s.pc (source1 (kind i.op) s i) (source2 (kind i.op) s i) (address_of (Some i) (source1 (kind i.op) s i)) h g) refl

fetched_other : (s : State) (o : List ℕ) (n e : ℕ) (w : Option ℕ) → full (length o) ≡ full (length s.output) → low_64 n ≡ low_64 s.instret → record_fetched (other s o n e) w ≡ record_fetched s w
fetched_other s o n e None h g = said_other s o n e false 0 None h g
fetched_other s o n e (Some w) h g = said_other s o n e true w (row_of w) h g

record_of_other : (s : State) (o : List ℕ) (n e : ℕ) → full (length o) ≡ full (length s.output) → low_64 n ≡ low_64 s.instret → record_of (other s o n e) ≡ record_of s
unfolding record_of
record_of_other s o n e h g = fetched_other s o n e (word_of s s.pc) h g

-- ---- the memory to which a record leads is what it does, laid over memory

abbrev laid : Bytes → Effect → Bytes
laid m Nothing = m
laid m (Writes rd value) = m
laid m (Stores width addr value) = record m { items = (put_all m addr (low_bytes (size width) value)).items }
laid m (Puts byte) = m

effect_memory : (s : State) (e : Effect) → memory_of (with_effect s e) ≡ laid (memory_of s) e
effect_memory s Nothing = refl
effect_memory s (Writes rd value) = refl
effect_memory s (Stores width addr value) = refl
effect_memory s (Puts byte) = refl

-- what is laid over equal memories gives equal memories
effects_same : (effects : List Effect) (s t : State) → memory_of s ≡ memory_of t → memory_of (with_effects s effects) ≡ memory_of (with_effects t effects)
effects_same [] s t h = h
effects_same (e ∷ effects) s t h =
    effects_same effects (with_effect s e) (with_effect t e) (effect_memory s e ∙ ap (λ (m : Bytes). laid m e) h ∙ sym (effect_memory t e))

behind_memory : (b : Bool) (s : State) (e : Effect) (next end : ℕ) → memory_of (behind b s e next end) ≡ memory_of (with_effect s (if b then e else Nothing))
behind_memory true s e next end = refl
behind_memory false s e next end = refl

apply_memory : (s : State) (r : Record) → goes_on s ≡ true → memory_of (apply s r) ≡ memory_of (with_effect s (done_by r))
unfolding apply done_by
apply_memory s r on = rw on (behind_memory (r.end == 0) s (effect_of r) r.next r.end)

-- ---- due claims

-- what goes on went on before
went_by : (b : Bool) (n : ℕ) (s : State) → goes_on s ≡ b → goes_on (steps n s) ≡ true → b ≡ true
went_by true n s e on = refl
went_by false n s e on = let off : s.end ≢ 0 = grind (arith, nat_tests) in absurd (true≢false (sym on ∙ ap goes_on (steps_ended n s off) ∙ e))

went_on : (n : ℕ) (s : State) → goes_on (steps n s) ≡ true → goes_on s ≡ true
went_on n s on = went_by (goes_on s) n s refl on

effects_due : (claims : List Record) (s : State) → AreDueFrom s claims → goes_on (steps (length claims) s) ≡ true → memory_of (with_effects s (map done_by claims)) ≡ memory_of (steps (length claims) s)
effects_due [] s due on = refl
effects_due (p ∷ claims) s due on =
    let here : goes_on s ≡ true = went_on (suc (length claims)) s on in
    let shift : steps (length claims) (step s) ≡ steps (suc (length claims)) s = steps-step (length claims) s in
    let one : memory_of (with_effect s (done_by p)) ≡ memory_of (step s) = sym (apply_memory s p here) ∙ ap memory_of (ap (apply s) (due.0 here) ∙ apply_record_of s) in
    effects_same (map done_by claims) (with_effect s (done_by p)) (step s) one ∙ effects_due claims (step s) due.1 (ap goes_on shift ∙ on) ∙ ap memory_of shift

-- what the core keeps of a state
pub record Shows (ahead : Ahead) (t : State) : Type 0 where
  pub regs : ahead.regs ≡ t.regs
  pub pc : ahead.pc ≡ t.pc
  pub output : full ahead.out_len ≡ full (length t.output)
  pub instret : low_64 ahead.instret ≡ low_64 t.instret

-- and it has stopped exactly where that ended
pub record Follows (ahead : Ahead) (t : State) : Type 0 where
  pub shows : Shows ahead t
  pub stopped : ahead.stopped ≡ not (goes_on t)

seen_is : (ahead : Ahead) (s t : State) → memory_of (with_effects s ahead.ring) ≡ memory_of t → Shows ahead t → seen ahead s ≡ other t (replicate ahead.out_len 0) ahead.instret 0
seen_is ahead s t memory shows = λ i. record {
  regs = shows.regs i;
  pc = shows.pc i;
  base = (memory i).base;
  bytes = (memory i).items;
  output = replicate ahead.out_len 0;
  instret = ahead.instret;
  end = 0;
}

-- the record of what the core sees is the record that is due behind its pending claims
pub seen_record : (ahead : Ahead) (s : State) (claims : List Record) → ahead.ring ≡ map done_by claims → AreDueFrom s claims → goes_on (steps (length claims) s) ≡ true → Shows ahead (steps (length claims) s)
    → record_of (seen ahead s) ≡ record_of (steps (length claims) s)
seen_record ahead s claims ring due on shows =
    let t : State = steps (length claims) s in
    let memory : memory_of (with_effects s ahead.ring) ≡ memory_of t = ap (λ (effects : List Effect). memory_of (with_effects s effects)) ring ∙ effects_due claims s due on in
    ap record_of (seen_is ahead s t memory shows) ∙ record_of_other t (replicate ahead.out_len 0) ahead.instret 0 (ap full (length-replicate ahead.out_len 0) ∙ shows.output) shows.instret

-- ---- and behind that record the core keeps the next state

-- how many bytes an effect puts
abbrev puts : Effect → ℕ
puts Nothing = 0
puts (Writes rd value) = 0
puts (Stores width addr value) = 0
puts (Puts byte) = 1

effect_puts : (t : State) (e : Effect) → length (with_effect t e).output ≡ length t.output + puts e
effect_puts t Nothing = omega arith
effect_puts t (Writes rd value) = omega arith
effect_puts t (Stores width addr value) = omega arith
effect_puts t (Puts byte) = length-append t.output (byte ∷ [])

behind_puts : (b : Bool) (t : State) (e : Effect) (next end : ℕ) → length (behind b t e next end).output ≡ length t.output + puts (if b then e else Nothing)
behind_puts true t e next end = effect_puts t e
behind_puts false t e next end = omega arith

instret_after : (m n : ℕ) → low_64 m ≡ low_64 n → low_64 (low_64 (m + 1)) ≡ low_64 (n + 1)
instret_after m n h = omega arith

full_after : (m n more : ℕ) → full m ≡ full n → full (min (m + more) (2 ^ 32 - 1)) ≡ full (n + more)
full_after m n more h = omega arith

behind_end : (b : Bool) (t : State) (e : Effect) (next end : ℕ) → goes_on t ≡ true → (end == 0) ≡ b → not b ≡ not (goes_on (behind b t e next end))
behind_end true t e next end on h = ap not (sym on ∙ ap (λ (n : ℕ). n == 0) (sym (effect_end t e)))
  where
    effect_end : (t : State) (e : Effect) → (with_effect t e).end ≡ t.end
    effect_end t Nothing = refl
    effect_end t (Writes rd value) = refl
    effect_end t (Stores width addr value) = refl
    effect_end t (Puts byte) = refl
behind_end false t e next end on h = ap not (sym h)

behind_out : (b : Bool) (u t : State) (e : Effect) (next end : ℕ) → full (length u.output) ≡ full (length t.output)
    → full (min (length (behind b u e next end).output) (2 ^ 32 - 1)) ≡ full (length (behind b t e next end).output)
behind_out b u t e next end h =
    ap (λ (n : ℕ). full (min n (2 ^ 32 - 1))) (behind_puts b u e next end)
    ∙ full_after (length u.output) (length t.output) (puts (if b then e else Nothing)) h
    ∙ ap full (sym (behind_puts b t e next end))

pub handed_shows : (ahead : Ahead) (s t : State) → goes_on t ≡ true → Shows ahead t → Follows (with_record ahead s (record_of t)) (step t)
unfolding with_record step apply done_by
handed_shows ahead s t on shows =
    let r : Record = record_of t in
    let b : Bool = r.end == 0 in
    rw on (record {
      shows = record {
        regs = behind_regs b (seen ahead s) (effect_of r) r.next r.end ∙ ap (λ (rs : List ℕ). regs_after rs (if b then effect_of r else Nothing)) shows.regs ∙ sym (behind_regs b t (effect_of r) r.next r.end);
        pc = behind_pc b (seen ahead s) (effect_of r) r.next r.end ∙ ap (λ (n : ℕ). if b then r.next else n) shows.pc ∙ sym (behind_pc b t (effect_of r) r.next r.end);
        output = behind_out b (seen ahead s) t (effect_of r) r.next r.end (ap full (length-replicate ahead.out_len 0) ∙ shows.output);
        instret = instret_after ahead.instret t.instret shows.instret;
      };
      stopped = behind_end b t (effect_of r) r.next r.end on refl;
    })

-- There is room for what the due record does: a store that does not trap is inside memory, at a multiple of its width, and a byte that is put finds an output that is not full.
use Rattle.std.proofs.Common.{◌≡◌, ◌<◌, ℕ, zero, suc, ◌+◌, ◌*◌, ◌%◌, ◌^◌, ◌==◌, length, Option, Some, None, Bool, true, false, cond, refl, arith, if◌then◌else◌}
use Rattle.std.specs.Bool.{⊤}
use Rattle.std.specs.Option.{option_map, option_and_then}
use Rattle.std.proofs.lemmas.Bool.Decides.{nat_tests}
use Rattle.diva_decode.specs.declared.instr.Instr.{Instr}
use Rattle.diva_decode.specs.Table.{row_of}
use Rattle.diva_memory.specs.Bytes.{Bytes, IsInside, byte_at, number_at}
use Rattle.diva_memory.proofs.Writing.{byte_within}
use Rattle.diva_isa.specs.declared.trap.Trap.TheVariants.{StoreMisaligned}
use Rattle.diva_isa.specs.State.{State, memory_of, number_of, word_of, output_limit}
use Rattle.diva_isa.specs.Kind.{kind, size}
use Rattle.diva_isa.specs.declared.kind.Kind.{Kind}
use Rattle.diva_isa.specs.declared.kind.Kind.TheVariants.{Lui, Auipc, Jal, Jalr, Branch, Load, Store, OpImm, OpReg, Fence, Ecall, Ebreak, Counter}
use Rattle.diva_isa.specs.declared.kind.Width.{Width}
use Rattle.diva_isa.specs.declared.kind.Width.TheVariants.{Byte, Half, Word}
use Rattle.diva_isa.specs.declared.effect.Effect.{Effect}
use Rattle.diva_isa.specs.declared.effect.Effect.TheVariants.{Nothing, Writes, Stores, Puts}
use Rattle.diva_isa.specs.End.{trap}
use Rattle.diva_isa.specs.Step.{record_of, record_fetched, record_by, record_with, outcome, source1, source2, address, call, stored, ended, effect, effect_by, effect_of}
use Rattle.diva_isa.specs.Inner.{HasRoom}

-- a number is there only where its lowest byte is, and the others
first_there : (o p : Option ℕ) (v : ℕ) → option_and_then (λ low. option_map (λ high. low + 2 ^ 8 * high) p) o ≡ Some v → (P : Type 0) → ((b c : ℕ) → o ≡ Some b → p ≡ Some c → P) → P
first_there None p v h P f = absurd (cc)
first_there (Some b) None v h P f = absurd (cc)
first_there (Some b) (Some c) v h P f = f b c refl refl

number_within : (m : Bytes) (n a v : ℕ) → number_at m (suc n) a ≡ Some v → IsInside m a (suc n)
number_within m zero a v h = first_there (byte_at m a) (number_at m zero (a + 1)) v h (IsInside m a 1) (λ b c p q. byte_within m a b p)
number_within m (suc n) a v h = first_there (byte_at m a) (number_at m (suc n) (a + 1)) v h (IsInside m a (suc (suc n)))
    (λ b c p q. let here = byte_within m a b p in let rest = number_within m n (a + 1) c q in record { from = here.from; to = let t = rest.to in omega arith })

sized_within : (w : Width) (m : Bytes) (a v : ℕ) → number_at m (size w) a ≡ Some v → IsInside m a (size w)
sized_within Byte m a v h = number_within m 0 a v h
sized_within Half m a v h = number_within m 1 a v h
sized_within Word m a v h = number_within m 3 a v h

stored_there : (pc b n : ℕ) (o : Option ℕ) → (stored pc b n o).end ≡ 0 → (P : Type 0) → ((v : ℕ) → o ≡ Some v → P) → P
stored_there pc b n None e P f = absurd (omega arith)
stored_there pc b n (Some v) e P f = f v refl

aligned : (c : Bool) (pc b n : ℕ) (o : Option ℕ) → (cond c (stored pc b n o) (ended pc (trap StoreMisaligned))).end ≡ 0 → (P : Type 0) → ((v : ℕ) → o ≡ Some v → P) → P
aligned true pc b n o e P f = stored_there pc b n o e P f
aligned false pc b n o e P f = absurd (omega arith)

call_has_room : (s : State) (pc a b : ℕ) → (call s pc a b).end ≡ 0 → (a == 1) ≡ true → length s.output < output_limit
call_has_room s pc a b e one = grind (arith, nat_tests)

put_has_room : (c : Bool) (s : State) (byte : ℕ) → (c ≡ true → length s.output < output_limit) → HasRoom s (if c then Puts byte else Nothing)
put_has_room true s byte h = h refl
put_has_room false s byte h = tt

kind_has_room : (k : Kind) (s : State) (i : Instr) (pc w a b addr : ℕ) → (outcome k s i pc a b addr).end ≡ 0 → HasRoom s (effect k i (record_with pc w a b addr (outcome k s i pc a b addr)))
kind_has_room Lui s i pc w a b addr e = tt
kind_has_room Auipc s i pc w a b addr e = tt
kind_has_room Jal s i pc w a b addr e = tt
kind_has_room Jalr s i pc w a b addr e = tt
kind_has_room Branch s i pc w a b addr e = tt
kind_has_room (Load width) s i pc w a b addr e = tt
kind_has_room (Store width) s i pc w a b addr e =
    aligned (addr % size width == 0) pc b (size width) (number_of s (size width) addr) e (IsInside (memory_of s) addr (size width)) (λ v h. sized_within width (memory_of s) addr v h)
kind_has_room OpImm s i pc w a b addr e = tt
kind_has_room OpReg s i pc w a b addr e = tt
kind_has_room Fence s i pc w a b addr e = tt
kind_has_room Ecall s i pc w a b addr e = put_has_room (a == 1) s ((call s pc a b).value % 2 ^ 8) (λ one. call_has_room s pc a b e one)
kind_has_room Ebreak s i pc w a b addr e = tt
kind_has_room Counter s i pc w a b addr e = tt

said_has_room : (s : State) (w : ℕ) (o : Option Instr) → (record_by s true w o).end ≡ 0 → HasRoom s (effect_by o (record_by s true w o))
said_has_room s w None e = absurd (omega arith)
said_has_room s w (Some i) e =
    let a = source1 (kind i.op) s i in
    kind_has_room (kind i.op) s i s.pc w a (source2 (kind i.op) s i) (address (kind i.op) i a) e

fetched_has_room : (s : State) (o : Option ℕ) → (record_fetched s o).end ≡ 0 → HasRoom s (effect_of (record_fetched s o))
fetched_has_room s None e = absurd (omega arith)
fetched_has_room s (Some w) e = said_has_room s w (row_of w) e

pub room : (s : State) → (record_of s).end ≡ 0 → HasRoom s (effect_of (record_of s))
unfolding record_of
room s e = fetched_has_room s (word_of s s.pc) e

-- ---- a store that does not trap stands at a multiple of its width

abbrev pub IsAligned : Effect → Type 0
IsAligned Nothing = ⊤
IsAligned (Writes rd value) = ⊤
IsAligned (Stores width addr value) = addr % size width ≡ 0
IsAligned (Puts byte) = ⊤

not_trapped : (c : Bool) (pc b n : ℕ) (o : Option ℕ) → (cond c (stored pc b n o) (ended pc (trap StoreMisaligned))).end ≡ 0 → c ≡ true
not_trapped true pc b n o e = refl
not_trapped false pc b n o e = absurd (omega arith)

multiple : (addr n : ℕ) → (addr % n == 0) ≡ true → addr % n ≡ 0
multiple addr n h = grind (arith, nat_tests)

put_is_aligned : (c : Bool) (byte : ℕ) → IsAligned (if c then Puts byte else Nothing)
put_is_aligned true byte = tt
put_is_aligned false byte = tt

kind_is_aligned : (k : Kind) (s : State) (i : Instr) (pc w a b addr : ℕ) → (outcome k s i pc a b addr).end ≡ 0 → IsAligned (effect k i (record_with pc w a b addr (outcome k s i pc a b addr)))
kind_is_aligned Lui s i pc w a b addr e = tt
kind_is_aligned Auipc s i pc w a b addr e = tt
kind_is_aligned Jal s i pc w a b addr e = tt
kind_is_aligned Jalr s i pc w a b addr e = tt
kind_is_aligned Branch s i pc w a b addr e = tt
kind_is_aligned (Load width) s i pc w a b addr e = tt
kind_is_aligned (Store width) s i pc w a b addr e =
    multiple addr (size width) (not_trapped (addr % size width == 0) pc b (size width) (number_of s (size width) addr) e)
kind_is_aligned OpImm s i pc w a b addr e = tt
kind_is_aligned OpReg s i pc w a b addr e = tt
kind_is_aligned Fence s i pc w a b addr e = tt
kind_is_aligned Ecall s i pc w a b addr e = put_is_aligned (a == 1) ((call s pc a b).value % 2 ^ 8)
kind_is_aligned Ebreak s i pc w a b addr e = tt
kind_is_aligned Counter s i pc w a b addr e = tt

said_is_aligned : (s : State) (w : ℕ) (o : Option Instr) → (record_by s true w o).end ≡ 0 → IsAligned (effect_by o (record_by s true w o))
said_is_aligned s w None e = tt
said_is_aligned s w (Some i) e =
    let a = source1 (kind i.op) s i in
    kind_is_aligned (kind i.op) s i s.pc w a (source2 (kind i.op) s i) (address (kind i.op) i a) e

fetched_is_aligned : (s : State) (o : Option ℕ) → (record_fetched s o).end ≡ 0 → IsAligned (effect_of (record_fetched s o))
fetched_is_aligned s None e = absurd (omega arith)
fetched_is_aligned s (Some w) e = said_is_aligned s w (row_of w) e

pub aligned_store : (s : State) → (record_of s).end ≡ 0 → IsAligned (effect_of (record_of s))
unfolding record_of
aligned_store s e = fetched_is_aligned s (word_of s s.pc) e

-- What an entry reads of memory.
use Rattle.std.proofs.Common.{◌≡◌, ◌<◌, ◌≤◌, ℕ, suc, ◌+◌, ◌-◌, ◌^◌, arith, append_assoc, length, List, [], ◌∷◌, ◌++◌, take, drop, map, Option, Some, None, Bool, true, false, refl, ap, sym, ◌∙◌, slice_get}
use Rattle.std.specs.Prelude.{nat_lt}
use Rattle.std.proofs.lemmas.Bool.Decides.{nat_tests}
use Rattle.std.proofs.lemmas.Grind.{common_steps}
use Rattle.std.specs.Option.{unwrap_or}
use Rattle.std.specs.List.{list_all}
use Rattle.std.proofs.lemmas.List.{append-nil, map-append}
use Rattle.diva_isa.specs.State.{State, byte_of, word_of}
use Rattle.diva_isa.specs.declared.effect.Effect.{Effect}
use Rattle.diva_isa.specs.declared.effect.Effect.TheVariants.{Nothing, Writes, Stores, Puts}
use Rattle.diva_isa.specs.declared.kind.Width.TheVariants.{Word}
use Rattle.diva_core.specs.Cycle.{is_store}
use Rattle.diva_core.specs.Effects.{byte_in, is_apart, with_effects}
use Rattle.diva_core.proofs.Laying.{effects_append, effects_more, effects_none, effects_word_none}
use Rattle.diva_ooo.specs.WindowEntry.{WindowEntry}
use Rattle.diva_ahead.proofs.Whole.{apart_more, whole_more}
use Rattle.diva_ooo.specs.MarkSets.{holds_at}
use Rattle.diva_ooo.proofs.Marking.{holds_drop, holds_end, holds_take}
use Rattle.diva_ahead.specs.Effects.{done_by}
use Rattle.diva_ooo.proofs.Places.{take_at, take_more}

abbrev pub effects : List WindowEntry → List Effect
effects w = map (λ x. (done_by x.result)) w

pub older_none : (s : State) (ring more : List Effect) (a : ℕ) → byte_of (with_effects s ring) a ≡ None → byte_of (with_effects s (ring ++ more)) a ≡ None
older_none s ring more a e = ap (λ (t : State). byte_of t a) (effects_append s ring more) ∙ effects_none (with_effects s ring) more a e

-- ---- one store more

ring_next : (ring : List Effect) (w : List WindowEntry) (at : ℕ) (e : WindowEntry) → slice_get w at ≡ Some e → ring ++ effects (take (at + 1) w) ≡ (ring ++ effects (take at w)) ++ (done_by e.result) ∷ []
ring_next ring w at e is =
    ap (λ (es : List Effect). ring ++ es) (ap effects (take_at w at e is) ∙ map-append (λ (x : WindowEntry). (done_by x.result)) (take at w) (e ∷ []))
    ∙ sym (append_assoc ring (effects (take at w)) ((done_by e.result) ∷ []))

pub byte_next : (s : State) (ring : List Effect) (w : List WindowEntry) (at : ℕ) (e : WindowEntry) (a b : ℕ) → slice_get w at ≡ Some e
    → byte_of (with_effects s (ring ++ effects (take at w))) a ≡ Some b
    → byte_of (with_effects s (ring ++ effects (take (at + 1) w))) a ≡ Some (unwrap_or (byte_in (done_by e.result) a) b)
byte_next s ring w at e a b is h =
    ap (λ (es : List Effect). byte_of (with_effects s es) a) (ring_next ring w at e is) ∙ effects_more s (ring ++ effects (take at w)) (done_by e.result) a b h

pub word_whole : (s : State) (ring : List Effect) (w : List WindowEntry) (at : ℕ) (e : WindowEntry) (a v b : ℕ) → slice_get w at ≡ Some e → (done_by e.result) ≡ Stores Word a v → v < 2 ^ 32
    → word_of (with_effects s (ring ++ effects (take at w))) a ≡ Some b
    → word_of (with_effects s (ring ++ effects (take (at + 1) w))) a ≡ Some v
word_whole s ring w at e a v b is whole fits h =
    ap (λ (es : List Effect). word_of (with_effects s es) a) (ring_next ring w at e is ∙ ap (λ (d : Effect). (ring ++ effects (take at w)) ++ d ∷ []) whole)
    ∙ whole_more s (ring ++ effects (take at w)) a v b fits h

pub word_apart : (s : State) (ring : List Effect) (w : List WindowEntry) (at : ℕ) (e : WindowEntry) (a b : ℕ) → slice_get w at ≡ Some e → is_apart (done_by e.result) a 4 ≡ true
    → word_of (with_effects s (ring ++ effects (take at w))) a ≡ Some b
    → word_of (with_effects s (ring ++ effects (take (at + 1) w))) a ≡ Some b
word_apart s ring w at e a b is apart h =
    ap (λ (es : List Effect). word_of (with_effects s es) a) (ring_next ring w at e is) ∙ apart_more s (ring ++ effects (take at w)) (done_by e.result) a b apart h

-- ---- entries that store nothing

quiet_one : (e : Effect) (a n : ℕ) → is_store e ≡ false → is_apart e a n ≡ true
quiet_one Nothing a n h = refl
quiet_one (Writes rd value) a n h = refl
quiet_one (Stores width addr value) a n h = absurd (cc)
quiet_one (Puts byte) a n h = refl

all_quiet : (w : List WindowEntry) (a n : ℕ) → ((i : ℕ) → holds_at (λ e. is_store (done_by e.result)) w i ≡ false) → list_all (λ d. is_apart d a n) (effects w) ≡ true
all_quiet [] a n none = refl
all_quiet (x ∷ w) a n none = rw (quiet_one (done_by x.result) a n (none 0)) (all_quiet w a n (λ i. none (suc i)))

none_by : (c : Bool) (p : WindowEntry → Bool) (w : List WindowEntry) (from k i : ℕ) → nat_lt i k ≡ c → ((j : ℕ) → from ≤ j → j < from + k → holds_at p w j ≡ false) → holds_at p (take k (drop from w)) i ≡ false
none_by true p w from k i is none =
    let within : i < k = grind (arith, nat_tests) in
    holds_take p (drop from w) k i within ∙ holds_drop p w from i ∙ none (from + i) (omega arith) (omega arith)
none_by false p w from k i is none =
    let far : k ≤ i = grind (arith, nat_tests) in
    let long : length (take k (drop from w)) ≤ i = grind (arith, common_steps) in
    holds_end p (take k (drop from w)) i long

-- entries from a place to another
seen_more : (s : State) (ring : List Effect) (w : List WindowEntry) (from k : ℕ)
    → with_effects s (ring ++ effects (take (from + k) w)) ≡ with_effects (with_effects s (ring ++ effects (take from w))) (effects (take k (drop from w)))
seen_more s ring w from k =
    ap (λ (es : List Effect). with_effects s (ring ++ es)) (ap effects (take_more w from k) ∙ map-append (λ (x : WindowEntry). (done_by x.result)) (take from w) (take k (drop from w)))
    ∙ ap (with_effects s) (sym (append_assoc ring (effects (take from w)) (effects (take k (drop from w)))))
    ∙ effects_append s (ring ++ effects (take from w)) (effects (take k (drop from w)))

abbrev pub NoneStores : List WindowEntry → (from to : ℕ) → Type 0
NoneStores w from to = (i : ℕ) → from ≤ i → i < to → holds_at (λ e. is_store (done_by e.result)) w i ≡ false

up_to : (w : List WindowEntry) (from to : ℕ) → from ≤ to → NoneStores w from to → NoneStores w from (from + (to - from))
up_to w from to le none = λ i h k. none i h (omega arith)

-- what is read at an address, where stores that are apart from n bytes there leave it
pub quiet : (read : State → ℕ → Option ℕ) (n : ℕ) → ((s : State) (es : List Effect) (a : ℕ) → list_all (λ d. is_apart d a n) es ≡ true → read (with_effects s es) a ≡ read s a)
    → (s : State) (ring : List Effect) (w : List WindowEntry) (from to a b : ℕ) → from ≤ to → NoneStores w from to
    → read (with_effects s (ring ++ effects (take from w))) a ≡ Some b
    → read (with_effects s (ring ++ effects (take to w))) a ≡ Some b
quiet read n kept s ring w from to a b le none h =
    let at : from + (to - from) ≡ to = omega arith in
    let k = to - from in
    let apart = all_quiet (take k (drop from w)) a n (λ i. none_by (nat_lt i k) (λ e. is_store (done_by e.result)) w from k i refl (up_to w from to le none)) in
    ap (λ (i : ℕ). read (with_effects s (ring ++ effects (take i w))) a) (sym at)
    ∙ ap (λ (t : State). read t a) (seen_more s ring w from k)
    ∙ kept (with_effects s (ring ++ effects (take from w))) (effects (take k (drop from w))) a apart
    ∙ h

-- no entry yet
pub none_yet : (ring : List Effect) (w : List WindowEntry) → ring ++ effects (take 0 w) ≡ ring
none_yet ring w = append-nil ring

-- ---- the words that an entry reads

pub older_word_none : (s : State) (ring more : List Effect) (a : ℕ) → word_of (with_effects s ring) a ≡ None → word_of (with_effects s (ring ++ more)) a ≡ None
older_word_none s ring more a e = ap (λ (t : State). word_of t a) (effects_append s ring more) ∙ effects_word_none (with_effects s ring) more a e

-- What effects that are laid over memory change, and what they leave as it is.
use Rattle.std.proofs.Common.{◌≡◌, ◌<◌, ℕ, zero, suc, ◌+◌, ◌^◌, List, [], ◌∷◌, ◌++◌, Option, Some, None, Bool, true, false, ◌&&◌, ◌*◌, refl, ap, sym, ◌∙◌, arith}
use Rattle.std.proofs.lemmas.Grind.{common_steps}
use Rattle.std.proofs.lemmas.Bool.Decides.{nat_tests}
use Rattle.std.specs.List.{list_all}
use Rattle.std.specs.Option.{is_some, unwrap_or, option_and_then, option_map}
use Rattle.diva_memory.specs.Bytes.{Bytes, byte_at, low_bytes, put_all}
use Rattle.diva_memory.proofs.Writing.{over, put_all_base, put_all_byte, same_number}
use Rattle.diva_isa.specs.State.{State, byte_of, memory_of, number_of, word_of}
use Rattle.diva_isa.specs.Kind.{size}
use Rattle.diva_isa.specs.Step.{with_effect}
use Rattle.diva_isa.specs.declared.kind.Width.{Width}
use Rattle.diva_isa.specs.declared.effect.Effect.{Effect}
use Rattle.diva_isa.specs.declared.effect.Effect.TheVariants.{Nothing, Writes, Stores, Puts}
use Rattle.diva_storeq.proofs.Laying.{word_none}
use Rattle.diva_isa.proofs.Stored.{length_low_bytes}
use Rattle.diva_core.specs.Effects.{with_effects, byte_in, is_apart}

pub effects_append : (s : State) (older newer : List Effect) → with_effects s (older ++ newer) ≡ with_effects (with_effects s older) newer
effects_append s [] newer = refl
effects_append s (e ∷ older) newer = effects_append (with_effect s e) older newer

-- ---- each byte

over_nothing : (x : Option ℕ) → x ≡ over x None
over_nothing None = refl
over_nothing (Some x) = refl

pub over_none : (x y : Option ℕ) → y ≡ None → over x y ≡ x
over_none None y e = refl
over_none (Some x) y e = rw e refl

stored_memory : (s : State) (bs : List ℕ) (a : ℕ) → memory_of (record s { bytes = (put_all (memory_of s) a bs).items }) ≡ put_all (memory_of s) a bs
stored_memory s bs a = sym (λ i. record { base = put_all_base (memory_of s) a bs i; items = (put_all (memory_of s) a bs).items })

-- a byte is the effect's, or else memory's
pub effect_byte : (s : State) (e : Effect) (a : ℕ) → byte_of (with_effect s e) a ≡ over (byte_of s a) (byte_in e a)
effect_byte s Nothing a = over_nothing (byte_of s a)
effect_byte s (Writes rd value) a = over_nothing (byte_of s a)
effect_byte s (Stores width addr value) a =
    ap (λ (m : Bytes). byte_at m a) (stored_memory s (low_bytes (size width) value) addr) ∙ put_all_byte (memory_of s) addr a (low_bytes (size width) value)
effect_byte s (Puts byte) a = over_nothing (byte_of s a)

-- what is outside stays outside
pub effects_none : (s : State) (effects : List Effect) (a : ℕ) → byte_of s a ≡ None → byte_of (with_effects s effects) a ≡ None
effects_none s [] a h = h
effects_none s (e ∷ effects) a h =
    effects_none (with_effect s e) effects a (effect_byte s e a ∙ ap (λ (x : Option ℕ). over x (byte_in e a)) h)

over_some : (b : ℕ) (newer : Option ℕ) → over (Some b) newer ≡ Some (unwrap_or newer b)
over_some b None = refl
over_some b (Some c) = refl

pub effect_more : (s : State) (e : Effect) (a b : ℕ) → byte_of s a ≡ Some b → byte_of (with_effect s e) a ≡ Some (unwrap_or (byte_in e a) b)
effect_more s e a b h = effect_byte s e a ∙ ap (λ (x : Option ℕ). over x (byte_in e a)) h ∙ over_some b (byte_in e a)

-- one more
pub effects_more : (s : State) (effects : List Effect) (e : Effect) (a b : ℕ)
    → byte_of (with_effects s effects) a ≡ Some b
    → byte_of (with_effects s (effects ++ e ∷ [])) a ≡ Some (unwrap_or (byte_in e a) b)
effects_more s effects e a b h =
    ap (λ (t : State). byte_of t a) (effects_append s effects (e ∷ []))
    ∙ effect_more (with_effects s effects) e a b h

-- ---- what stays as it is

apart_stored : (w : Width) (addr value a n i : ℕ) → is_apart (Stores w addr value) a n ≡ true → i < n → byte_in (Stores w addr value) (a + i) ≡ None
apart_stored w addr value a n i h lt = grind (arith, common_steps, nat_tests, length_low_bytes w value)

pub apart_byte : (e : Effect) (a n i : ℕ) → is_apart e a n ≡ true → i < n → byte_in e (a + i) ≡ None
apart_byte Nothing a n i h lt = refl
apart_byte (Writes rd value) a n i h lt = refl
apart_byte (Stores width addr value) a n i h lt = apart_stored width addr value a n i h lt
apart_byte (Puts byte) a n i h lt = refl

both : (b c : Bool) → (b && c) ≡ true → (b ≡ true) × (c ≡ true)
both true c h = (refl, h)
both false c h = absurd (cc)

pub effects_apart_byte : (s : State) (effects : List Effect) (a n i : ℕ) → list_all (λ e. is_apart e a n) effects ≡ true → i < n → byte_of (with_effects s effects) (a + i) ≡ byte_of s (a + i)
effects_apart_byte s [] a n i h lt = refl
effects_apart_byte s (e ∷ effects) a n i h lt =
    let each = both (is_apart e a n) (list_all (λ d. is_apart d a n) effects) h in
    effects_apart_byte (with_effect s e) effects a n i each.1 lt
    ∙ effect_byte s e (a + i)
    ∙ over_none (byte_of s (a + i)) (byte_in e (a + i)) (apart_byte e a n i each.0 lt)

-- effects that store not this byte, or none of its bytes, leave a byte, a number or a word as it is
pub effects_byte : (s : State) (effects : List Effect) (a : ℕ) → list_all (λ e. is_apart e a 1) effects ≡ true → byte_of (with_effects s effects) a ≡ byte_of s a
effects_byte s effects a h =
    let here : a + 0 ≡ a = omega arith in
    ap (byte_of (with_effects s effects)) (sym here) ∙ effects_apart_byte s effects a 1 0 h (omega arith) ∙ ap (byte_of s) here

pub effects_number : (s : State) (effects : List Effect) (a n : ℕ) → list_all (λ e. is_apart e a n) effects ≡ true → number_of (with_effects s effects) n a ≡ number_of s n a
effects_number s effects a n h = same_number (memory_of (with_effects s effects)) (memory_of s) n a (λ i lt. effects_apart_byte s effects a n i h lt)

pub effects_word : (s : State) (effects : List Effect) (a : ℕ) → list_all (λ e. is_apart e a 4) effects ≡ true → word_of (with_effects s effects) a ≡ word_of s a
effects_word s effects a h = rw (effects_number s effects a 4 h) refl

-- a word that is not there is not there with the effects laid over
pub effects_word_none : (s : State) (effects : List Effect) (a : ℕ) → word_of s a ≡ None → word_of (with_effects s effects) a ≡ None
effects_word_none s effects a h = word_none (memory_of s) (memory_of (with_effects s effects)) (effects_none s effects) a h

-- ---- the effects take no byte away

some_or : (p q r t : Option ℕ) → is_some p ≡ is_some q → is_some r ≡ is_some t → is_some (option_and_then (λ low. option_map (λ high. low + 2 ^ 8 * high) r) p) ≡ is_some (option_and_then (λ low. option_map (λ high. low + 2 ^ 8 * high) t) q)
some_or None None r t f g = refl
some_or None (Some c) r t f g = absurd (cc)
some_or (Some b) None r t f g = absurd (cc)
some_or (Some b) (Some c) None None f g = refl
some_or (Some b) (Some c) None (Some e) f g = absurd (cc)
some_or (Some b) (Some c) (Some d) None f g = absurd (cc)
some_or (Some b) (Some c) (Some d) (Some e) f g = refl

over_there : (x y : Option ℕ) → is_some (over x y) ≡ is_some x
over_there None y = refl
over_there (Some b) None = refl
over_there (Some b) (Some c) = refl

byte_there : (s : State) (effects : List Effect) (a : ℕ) → is_some (byte_of (with_effects s effects) a) ≡ is_some (byte_of s a)
byte_there s [] a = refl
byte_there s (e ∷ effects) a =
    byte_there (with_effect s e) effects a ∙ ap is_some (effect_byte s e a) ∙ over_there (byte_of s a) (byte_in e a)

pub effects_there : (s : State) (effects : List Effect) (n a : ℕ) → is_some (number_of (with_effects s effects) n a) ≡ is_some (number_of s n a)
effects_there s effects zero a = refl
effects_there s effects (suc n) a =
    some_or (byte_of (with_effects s effects) a) (byte_of s a) (number_of (with_effects s effects) n (a + 1)) (number_of s n (a + 1)) (byte_there s effects a) (effects_there s effects n (a + 1))

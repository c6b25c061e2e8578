-- A store over a whole word.
use Rattle.std.proofs.Common.{◌≡◌, ◌<◌, ℕ, zero, suc, ◌+◌, ◌*◌, ◌%◌, ◌^◌, ◌==◌, List, [], ◌∷◌, ◌++◌, Option, Some, None, Bool, true, false, if◌then◌else◌, refl, ap, ◌∙◌, arith}
use Rattle.std.specs.Option.{option_and_then, option_map, unwrap_or}
use Rattle.std.proofs.lemmas.Bool.Decides.{nat_tests}
use Rattle.std.proofs.lemmas.Bool.{eqb-true}
use Rattle.std.proofs.lemmas.Grind.{common_steps}
use Rattle.diva_memory.specs.Bytes.{word_byte}
use Rattle.diva_storeq.proofs.Laying.{has_word}
use Rattle.diva_isa.specs.State.{State, byte_of, memory_of, number_of, word_of}
use Rattle.diva_isa.specs.Step.{with_effect}
use Rattle.diva_isa.specs.declared.kind.Width.TheVariants.{Word}
use Rattle.diva_isa.specs.declared.effect.Effect.{Effect}
use Rattle.diva_isa.specs.declared.effect.Effect.TheVariants.{Stores}
use Rattle.diva_core.specs.Effects.{byte_in, is_apart, with_effects}
use Rattle.diva_core.proofs.Laying.{effect_more, effects_append, effects_word}

-- ---- a word that is there has four bytes

parts : (p q : Option ℕ) (w : ℕ) → option_and_then (λ low. option_map (λ high. low + 2 ^ 8 * high) q) p ≡ Some w → ((b : ℕ) × (p ≡ Some b)) × ((c : ℕ) × (q ≡ Some c))
parts None q w h = absurd (cc)
parts (Some b) None w h = absurd (cc)
parts (Some b) (Some c) w h = ((b, refl), (c, refl))

bytes_there : (s : State) (n a i w : ℕ) → i < n → number_of s n a ≡ Some w → (b : ℕ) × (byte_of s (a + i) ≡ Some b)
bytes_there s zero a i w lt h = absurd (omega arith)
bytes_there s (suc n) a zero w lt h =
    let here : a + 0 ≡ a = omega arith in
    let first = (parts (byte_of s a) (number_of s n (a + 1)) w h).0 in
    (first.0, ap (byte_of s) here ∙ first.1)
bytes_there s (suc n) a (suc i) w lt h =
    let next : a + suc i ≡ a + 1 + i = omega arith in
    let rest = (parts (byte_of s a) (number_of s n (a + 1)) w h).1 in
    let more = bytes_there s n (a + 1) i rest.0 (omega arith) rest.1 in
    (more.0, ap (byte_of s) next ∙ more.1)

aligned_if : (b : Bool) (o : Option ℕ) (w : ℕ) → (if b then o else None) ≡ Some w → (b ≡ true) × (o ≡ Some w)
aligned_if true o w h = (refl, h)
aligned_if false o w h = absurd (cc)

-- ---- and so the store's bytes are read

stored_byte : (a v i : ℕ) → i < 4 → byte_in (Stores Word a v) (a + i) ≡ Some (word_byte v i)
stored_byte a v zero lt = grind (arith, common_steps, nat_tests)
stored_byte a v (suc zero) lt = grind (arith, common_steps, nat_tests)
stored_byte a v (suc (suc zero)) lt = grind (arith, common_steps, nat_tests)
stored_byte a v (suc (suc (suc zero))) lt = grind (arith, common_steps, nat_tests)
stored_byte a v (suc (suc (suc (suc i)))) lt = absurd (omega arith)

stored_word : (s : State) (a v w : ℕ) → v < 2 ^ 32 → word_of s a ≡ Some w → word_of (with_effect s (Stores Word a v)) a ≡ Some v
stored_word s a v w lt h =
    let there = aligned_if (a % 4 == 0) (number_of s 4 a) w h in
    has_word (memory_of (with_effect s (Stores Word a v))) a v (eqb-true _ _ there.0) lt (λ i small.
    let b = bytes_there s 4 a i w small there.1 in
    effect_more s (Stores Word a v) (a + i) b.0 b.1 ∙ ap (λ (o : Option ℕ). Some (unwrap_or o b.0)) (stored_byte a v i small))

-- ---- one effect more

pub whole_more : (s : State) (effects : List Effect) (a v w : ℕ) → v < 2 ^ 32 → word_of (with_effects s effects) a ≡ Some w
    → word_of (with_effects s (effects ++ Stores Word a v ∷ [])) a ≡ Some v
whole_more s effects a v w lt h =
    ap (λ (t : State). word_of t a) (effects_append s effects (Stores Word a v ∷ [])) ∙ stored_word (with_effects s effects) a v w lt h

pub apart_more : (s : State) (effects : List Effect) (e : Effect) (a w : ℕ) → is_apart e a 4 ≡ true → word_of (with_effects s effects) a ≡ Some w
    → word_of (with_effects s (effects ++ e ∷ [])) a ≡ Some w
apart_more s effects e a w n h =
    ap (λ (t : State). word_of t a) (effects_append s effects (e ∷ [])) ∙ effects_word (with_effects s effects) (e ∷ []) a (rw n refl) ∙ h

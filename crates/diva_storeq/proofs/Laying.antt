-- What entries that are laid over memory change, and what they leave as it is.
use Rattle.std.proofs.Common.{◌≡◌, ◌<◌, ℕ, zero, suc, ◌+◌, ◌%◌, ◌^◌, ◌==◌, List, [], ◌∷◌, ◌++◌, length, Option, Some, None, Bool, true, false, ◌*◌, if◌then◌else◌, refl, ap, ◌∙◌, arith}
use Rattle.std.proofs.lemmas.Bool.Decides.{nat_tests}
use Rattle.std.specs.Option.{unwrap_or, option_and_then, option_map}
use Rattle.diva_memory.specs.Bytes.{Bytes, IsInside, byte_at, number_at, word_at, word_byte, HasWord}
use Rattle.diva_memory.proofs.Writing.{over, put_all_covered, put_all_others}
use Rattle.diva_storeq.specs.declared.masked.Masked.{Masked}
use Rattle.diva_storeq.specs.declared.store.Store.{Store}
use Rattle.diva_storeq.specs.Masked.{byte_in, merge}
use Rattle.diva_storeq.specs.Stores.{store_bytes, placed_bytes, lay, laid, masked}
use Rattle.diva_storeq.proofs.Merging.{merge_base, merge_length, merge_byte}
use Rattle.diva_storeq.proofs.Placing.{merge_masked}

-- ---- the order

-- older stores are laid first
pub laid_append : (m : Bytes) (older newer : List Masked) → laid m (older ++ newer) ≡ laid (laid m older) newer
laid_append m [] newer = refl
laid_append m (e ∷ older) newer = laid_append (merge m e) older newer

-- ---- the range

pub laid_base : (m : Bytes) (entries : List Masked) → (laid m entries).base ≡ m.base
laid_base m [] = refl
laid_base m (e ∷ entries) = laid_base (merge m e) entries ∙ merge_base m e

pub laid_length : (m : Bytes) (entries : List Masked) → length (laid m entries).items ≡ length m.items
laid_length m [] = refl
laid_length m (e ∷ entries) = laid_length (merge m e) entries ∙ merge_length m e

-- what is inside memory is inside it with the stores laid over, and the other way round
pub laid_inside : (m : Bytes) (entries : List Masked) (a n : ℕ) → IsInside m a n → IsInside (laid m entries) a n
laid_inside m entries a n h =
    record { from = omega (arith, laid_base m entries); to = omega (arith, laid_base m entries, laid_length m entries) }

pub inside_laid : (m : Bytes) (entries : List Masked) (a n : ℕ) → IsInside (laid m entries) a n → IsInside m a n
inside_laid m entries a n h =
    record { from = omega (arith, laid_base m entries); to = omega (arith, laid_base m entries, laid_length m entries) }

-- ---- each byte

-- a byte that the store covers is the store's
pub lay_covered : (m : Bytes) (s : Store) (a : ℕ) → IsInside m a 1 → IsInside (placed_bytes s) a 1 → byte_at (lay m s) a ≡ byte_at (placed_bytes s) a
unfolding lay
lay_covered m s a h k = put_all_covered m s.addr a (store_bytes s) h k

-- any other stays
pub lay_others : (m : Bytes) (s : Store) (a : ℕ) → (IsInside (placed_bytes s) a 1 → ⊥) → byte_at (lay m s) a ≡ byte_at m a
unfolding lay
lay_others m s a h = put_all_others m s.addr a (store_bytes s) h

-- ---- one more store

pub laid_push : (m : Bytes) (entries : List Masked) (s : Store) → s.addr % s.width ≡ 0 → laid m (entries ++ masked s ∷ []) ≡ lay (laid m entries) s
laid_push m entries s h = laid_append m entries (masked s ∷ []) ∙ merge_masked (laid m entries) s h

pub laid_push_covered : (m : Bytes) (entries : List Masked) (s : Store) (a : ℕ) → s.addr % s.width ≡ 0 → IsInside m a 1 → IsInside (placed_bytes s) a 1 → byte_at (laid m (entries ++ masked s ∷ [])) a ≡ byte_at (placed_bytes s) a
laid_push_covered m entries s a z h k = rw (laid_push m entries s z) (lay_covered (laid m entries) s a (laid_inside m entries a 1 h) k)

pub laid_push_others : (m : Bytes) (entries : List Masked) (s : Store) (a : ℕ) → s.addr % s.width ≡ 0 → (IsInside (placed_bytes s) a 1 → ⊥) → byte_at (laid m (entries ++ masked s ∷ [])) a ≡ byte_at (laid m entries) a
laid_push_others m entries s a z h = rw (laid_push m entries s z) (lay_others (laid m entries) s a h)

-- ---- one more entry

-- what is outside stays outside
pub laid_none : (m : Bytes) (entries : List Masked) (a : ℕ) → byte_at m a ≡ None → byte_at (laid m entries) a ≡ None
laid_none m [] a h = h
laid_none m (e ∷ entries) a h =
    laid_none (merge m e) entries a (merge_byte m e a ∙ ap (λ (x : Option ℕ). over x (byte_in e a)) h)

over_some : (b : ℕ) (newer : Option ℕ) → over (Some b) newer ≡ Some (unwrap_or newer b)
over_some b None = refl
over_some b (Some c) = refl

pub laid_more : (m : Bytes) (entries : List Masked) (e : Masked) (a b : ℕ)
    → byte_at (laid m entries) a ≡ Some b
    → byte_at (laid m (entries ++ e ∷ [])) a ≡ Some (unwrap_or (byte_in e a) b)
laid_more m entries e a b h =
    ap (λ (x : Bytes). byte_at x a) (laid_append m entries (e ∷ []))
    ∙ merge_byte (laid m entries) e a
    ∙ ap (λ (x : Option ℕ). over x (byte_in e a)) h
    ∙ over_some b (byte_in e a)

-- ---- words

-- four bytes are a word
pub has_word : (m : Bytes) (a w : ℕ) → a % 4 ≡ 0 → w < 2 ^ 32 → HasWord m a w → word_at m a ≡ Some w
has_word m a w z lt h =
    let here : a + 0 ≡ a = omega arith in
    let two : a + 1 + 1 ≡ a + 2 = omega arith in
    let three : a + 2 + 1 ≡ a + 3 = omega arith in
    let aligned : (a % 4 == 0) ≡ true = grind (arith, nat_tests) in
    let sum : word_byte w 0 + 2 ^ 8 * (word_byte w 1 + 2 ^ 8 * (word_byte w 2 + 2 ^ 8 * (word_byte w 3 + 2 ^ 8 * 0))) ≡ w = omega arith in
    let b0 : byte_at m a ≡ Some (word_byte w 0) = rw here at (h 0 (omega arith)) in
    rw (aligned, two, three, b0, h 1 (omega arith), h 2 (omega arith), h 3 (omega arith)) (ap (λ (n : ℕ). Some n) sum)

-- a word that is not there is not there in bytes that lack each byte which the others lack
none_or : (p q r t : Option ℕ) → (p ≡ None → q ≡ None) → (r ≡ None → t ≡ None) → option_and_then (λ low. option_map (λ high. low + 2 ^ 8 * high) r) p ≡ None → option_and_then (λ low. option_map (λ high. low + 2 ^ 8 * high) t) q ≡ None
none_or None q r t f g h = rw (f refl) refl
none_or (Some b) None r t f g h = refl
none_or (Some b) (Some c) None t f g h = rw (g refl) refl
none_or (Some b) (Some c) (Some d) t f g h = absurd (cc)

number_none : (m n : Bytes) → ((a : ℕ) → byte_at m a ≡ None → byte_at n a ≡ None) → (k a : ℕ) → number_at m k a ≡ None → number_at n k a ≡ None
number_none m n lacks zero a h = absurd (cc)
number_none m n lacks (suc k) a h = none_or (byte_at m a) (byte_at n a) (number_at m k (a + 1)) (number_at n k (a + 1)) (lacks a) (number_none m n lacks k (a + 1)) h

test_none : (c : Bool) (p q : Option ℕ) → (p ≡ None → q ≡ None) → (if c then p else None) ≡ None → (if c then q else None) ≡ None
test_none true p q f h = f h
test_none false p q f h = refl

pub word_none : (m n : Bytes) → ((a : ℕ) → byte_at m a ≡ None → byte_at n a ≡ None) → (a : ℕ) → word_at m a ≡ None → word_at n a ≡ None
word_none m n lacks a h = test_none (a % 4 == 0) (number_at m 4 a) (number_at n 4 a) (number_none m n lacks 4 a) h

pub laid_word_none : (m : Bytes) (entries : List Masked) (a : ℕ) → word_at m a ≡ None → word_at (laid m entries) a ≡ None
laid_word_none m entries a h = word_none m (laid m entries) (laid_none m entries) a h

-- ---- half words

-- a half word of which a byte is outside
pub half_none : (m : Bytes) (a : ℕ) → byte_at m a ≡ None → number_at m 2 a ≡ None
half_none m a h = rw h refl

high_none : (low : Option ℕ) → option_and_then (λ (b : ℕ). option_map (λ (c : ℕ). b + 2 ^ 8 * c) None) low ≡ None
high_none None = refl
high_none (Some b) = refl

pub half_high_none : (m : Bytes) (a : ℕ) → byte_at m (a + 1) ≡ None → number_at m 2 a ≡ None
half_high_none m a h = rw h (high_none (byte_at m a))

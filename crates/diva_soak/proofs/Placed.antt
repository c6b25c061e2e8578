-- Where the words of the image stand: in the code, and in memory.
use Rattle.std.proofs.Common.{◌≡◌, ◌<◌, ℕ, zero, suc, ◌+◌, ◌-◌, ◌*◌, ◌/◌, ◌%◌, ◌^◌, List, [], ◌∷◌, ◌++◌, length, get_or, slice_get, Some, true, refl, ap, sym, ◌∙◌, append_assoc, arith}
use Rattle.std.specs.Prelude.{nat_le}
use Rattle.std.specs.Int.{to_le_bytes, w32}
use Rattle.std.proofs.lemmas.Grind.{common_steps}
use Rattle.std.proofs.lemmas.Bool.{le-leb}
use Rattle.std.proofs.lemmas.Option.{none-some, same_Some}
use Rattle.diva_memory.specs.Bytes.{Bytes, IsInside, byte_at, number_at, word_at}
use Rattle.diva_memory.proofs.Writing.{byte_inside}
use Rattle.diva_decode.specs.Table.{encoding_of}
use Rattle.diva_seed.specs.Generator.{next_number}
use Rattle.diva_soak.specs.Soak.{words_as_bytes, drawn, last_words, words_after}
use Rattle.diva_soak.proofs.EachKind.{has_word}

-- ---- in the code

pub get_behind : (xs ys : List ℕ) (k : ℕ) → slice_get (xs ++ ys) (length xs + k) ≡ slice_get ys k
get_behind [] ys k = let none : 0 + k ≡ k = omega arith in ap (slice_get ys) none
get_behind (x ∷ xs) ys k = let one : suc (length xs) + k ≡ suc (length xs + k) = omega arith in ap (slice_get (x ∷ xs ++ ys)) one ∙ get_behind xs ys k

pub length_words : (n x : ℕ) → length (words_after n x) ≡ n
length_words zero x = refl
length_words (suc n) x = ap suc (length_words n (next_number x))

-- the code of a seed
abbrev pub code_of : (seed n : ℕ) → List ℕ
code_of seed n = words_after n seed ++ last_words

-- the word at a place of the code is that of an instruction that some number draws
pub record IsDrawnAt (code : List ℕ) (i : ℕ) : Type 0 where
  pub x : ℕ
  pub is : slice_get code i ≡ Some (encoding_of (drawn x))

pub drawn_at : (n seed i : ℕ) → i < n → IsDrawnAt (code_of seed n) i
drawn_at zero seed i h = absurd (omega arith)
drawn_at (suc n) seed zero h = record { x = next_number seed; is = refl }
drawn_at (suc n) seed (suc i) h = let rest = drawn_at n (next_number seed) i (omega arith) in record { x = rest.x; is = rest.is }

-- and behind those are the last words
pub last_at : (n seed k : ℕ) → slice_get (code_of seed n) (n + k) ≡ slice_get last_words k
last_at n seed k = ap (λ (at : ℕ). slice_get (code_of seed n) (at + k)) (sym (length_words n seed)) ∙ get_behind (words_after n seed) last_words k

-- all of them are words
abbrev pub AreWords : List ℕ → Type 0
AreWords words = (i w : ℕ) → slice_get words i ≡ Some w → w < 2 ^ 32

last_below : AreWords last_words
last_below zero w e = omega (arith, same_Some _ _ e)
last_below (suc zero) w e = omega (arith, same_Some _ _ e)
last_below (suc (suc zero)) w e = omega (arith, same_Some _ _ e)
last_below (suc (suc (suc i))) w e = absurd (none-some _ e)

pub code_below : (n seed : ℕ) → AreWords (code_of seed n)
code_below zero seed i w e = last_below i w e
code_below (suc n) seed zero w e = omega (arith, same_Some _ _ e, (has_word (next_number seed)).below)
code_below (suc n) seed (suc i) w e = code_below n (next_number seed) i w e

-- ---- in memory

-- a number of bytes that are inside
pub record IsNumber (m : Bytes) (n a : ℕ) : Type 0 where
  pub number : ℕ
  pub is : number_at m n a ≡ Some number

pub number_inside : (m : Bytes) (n a : ℕ) → IsInside m a n → IsNumber m n a
number_inside m zero a h = record { number = 0; is = refl }
number_inside m (suc n) a h =
    let from = h.from in
    let to = h.to in
    let rest = number_inside m n (a + 1) (record { from = omega arith; to = omega arith }) in
    record { number = get_or m.items (a - m.base) 0 + 2 ^ 8 * rest.number; is = rw (byte_inside m a (record { from = omega arith; to = omega arith }), rest.is) refl }

abbrev from_zero : List ℕ → Bytes
from_zero items = record { base = 0; items = items }

byte_behind : (pre xs : List ℕ) (k : ℕ) → byte_at (from_zero (pre ++ xs)) (length pre + k) ≡ slice_get xs k
byte_behind pre xs k =
    let from : nat_le 0 (length pre + k) ≡ true = le-leb 0 (length pre + k) (omega arith) in
    let at : length pre + k - 0 ≡ length pre + k = omega arith in
    rw (from, at) (get_behind pre xs k)

number_more : (m : Bytes) (n a b v : ℕ) → byte_at m a ≡ Some b → number_at m n (a + 1) ≡ Some v → number_at m (suc n) a ≡ Some (b + 2 ^ 8 * v)
number_more m n a b v p q = rw (p, q) refl

whole : (w : ℕ) → w < 2 ^ 32 → w % 2 ^ 8 + 2 ^ 8 * (w / 2 ^ 8 % 2 ^ 8 + 2 ^ 8 * (w / 2 ^ 16 % 2 ^ 8 + 2 ^ 8 * (w / 2 ^ 24 % 2 ^ 8 + 2 ^ 8 * 0))) ≡ w
whole w below = omega arith

-- four bytes of a word are the word
word_here : (pre rest : List ℕ) (w a : ℕ) → w < 2 ^ 32 → a ≡ length pre → number_at (from_zero (pre ++ (to_le_bytes w32 w ++ rest))) 4 a ≡ Some w
word_here pre rest w a below at =
    let xs : List ℕ = to_le_bytes w32 w ++ rest in
    let n0 : a ≡ length pre + 0 = omega arith in
    let n1 : a + 1 ≡ length pre + 1 = omega arith in
    let n2 : a + 1 + 1 ≡ length pre + 2 = omega arith in
    let n3 : a + 1 + 1 + 1 ≡ length pre + 3 = omega arith in
    let b0 : byte_at (from_zero (pre ++ xs)) a ≡ Some (w % 2 ^ 8) = ap (byte_at (from_zero (pre ++ xs))) n0 ∙ byte_behind pre xs 0 in
    let b1 : byte_at (from_zero (pre ++ xs)) (a + 1) ≡ Some (w / 2 ^ 8 % 2 ^ 8) = ap (byte_at (from_zero (pre ++ xs))) n1 ∙ byte_behind pre xs 1 in
    let b2 : byte_at (from_zero (pre ++ xs)) (a + 1 + 1) ≡ Some (w / 2 ^ 16 % 2 ^ 8) = ap (byte_at (from_zero (pre ++ xs))) n2 ∙ byte_behind pre xs 2 in
    let b3 : byte_at (from_zero (pre ++ xs)) (a + 1 + 1 + 1) ≡ Some (w / 2 ^ 24 % 2 ^ 8) = ap (byte_at (from_zero (pre ++ xs))) n3 ∙ byte_behind pre xs 3 in
    let n0 = number_more (from_zero (pre ++ xs)) 0 (a + 1 + 1 + 1) (w / 2 ^ 24 % 2 ^ 8) 0 b3 refl in
    let n1 = number_more (from_zero (pre ++ xs)) 1 (a + 1 + 1) (w / 2 ^ 16 % 2 ^ 8) (w / 2 ^ 24 % 2 ^ 8 + 2 ^ 8 * 0) b2 n0 in
    let n2 = number_more (from_zero (pre ++ xs)) 2 (a + 1) (w / 2 ^ 8 % 2 ^ 8) (w / 2 ^ 16 % 2 ^ 8 + 2 ^ 8 * (w / 2 ^ 24 % 2 ^ 8 + 2 ^ 8 * 0)) b1 n1 in
    number_more (from_zero (pre ++ xs)) 3 a (w % 2 ^ 8) (w / 2 ^ 8 % 2 ^ 8 + 2 ^ 8 * (w / 2 ^ 16 % 2 ^ 8 + 2 ^ 8 * (w / 2 ^ 24 % 2 ^ 8 + 2 ^ 8 * 0))) b0 n2
    ∙ ap Some (whole w below)

-- each word of a list stands in memory at its place
number_placed : (words pre : List ℕ) (i w a : ℕ) → AreWords words → slice_get words i ≡ Some w → a ≡ length pre + 4 * i → number_at (from_zero (pre ++ words_as_bytes words)) 4 a ≡ Some w
number_placed [] pre i w a are e at = absurd (none-some _ e)
number_placed (v ∷ words) pre zero w a are e at =
    let same : v ≡ w = same_Some _ _ e in
    rw same (word_here pre (words_as_bytes words) w a (are zero w e) (omega arith))
number_placed (v ∷ words) pre (suc i) w a are e at =
    let longer : length (pre ++ to_le_bytes w32 v) ≡ length pre + 4 = grind (arith, common_steps) in
    ap (λ (items : List ℕ). number_at (from_zero items) 4 a) (sym (append_assoc pre (to_le_bytes w32 v) (words_as_bytes words)))
    ∙ number_placed words (pre ++ to_le_bytes w32 v) i w a (λ j u f. are (suc j) u f) e (omega arith)

pub word_placed : (words pre : List ℕ) (i w : ℕ) → AreWords words → slice_get words i ≡ Some w → length pre % 4 ≡ 0 → word_at (from_zero (pre ++ words_as_bytes words)) (length pre + 4 * i) ≡ Some w
word_placed words pre i w are e aligned =
    let test : (length pre + 4 * i) % 4 ≡ 0 = omega arith in
    rw test (number_placed words pre i w (length pre + 4 * i) are e refl)

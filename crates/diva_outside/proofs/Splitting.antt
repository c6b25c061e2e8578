-- Where texts are cut into lines and words.
use Rattle.std.proofs.Common.{◌≡◌, ◌<◌, ◌≤◌, ◌-◌, ℕ, ◌+◌, suc, List, [], ◌∷◌, take, drop, length, Bool, true, false, cond, not, refl, ap, sym, ◌∙◌, arith}
use Rattle.std.specs.Prelude.{Some, None}
use Rattle.std.specs.List.{before_first, after_first, position, position_or_len, onto_first, slice_split, filter}
use Rattle.std.proofs.Math.Seq.{take-length, drop-length}
use Rattle.std.proofs.Math.ListN.{drop_of_length-le}
use Rattle.std.proofs.lemmas.Bool.{false_from_ne_true, eqb-true}
use Rattle.std.proofs.lemmas.Grind.{common_steps}
use Rattle.std.proofs.lemmas.List.{take_rest, length-take-le}
use Rattle.std.proofs.lemmas.List.Sums.{prefix_len-le-length}
use Rattle.diva_outside.specs.Text.{Text}
use Rattle.diva_outside.specs.Lines.{is_feed, lines_of}
use Rattle.diva_outside.specs.Words.{from_first, is_blank, is_letter, is_word, words_in}

-- ---- cutting at the first place where a test passes

module _ (p : ℕ → Bool) (text : Text) where
  at_place : (at : ℕ) → position p text ≡ Some at → position_or_len p text ≡ at
  at_place at found = grind (arith, common_steps)

  at_end : position p text ≡ None → position_or_len p text ≡ length text
  at_end none = let most = prefix_len-le-length (λ b. not (p b)) text in grind (arith, common_steps)

  pub from_place : (at : ℕ) → position p text ≡ Some at → take (length text - at) (drop at text) ≡ from_first p text
  from_place at found = take_rest text at ∙ ap (λ n. drop n text) (sym (at_place at found))

  pub after_place : (at : ℕ) → position p text ≡ Some at → take (length text - (at + 1)) (drop (at + 1) text) ≡ after_first p text
  after_place at found = take_rest text (at + 1) ∙ ap (λ n. drop (n + 1) text) (sym (at_place at found))

  pub before_end : position p text ≡ None → text ≡ before_first p text
  before_end none = sym (ap (λ n. take n text) (at_end none) ∙ take-length text)

  pub from_end : position p text ≡ None → [] ≡ from_first p text
  from_end none = sym (ap (λ n. drop n text) (at_end none) ∙ drop-length text)

  pub after_end : position p text ≡ None → [] ≡ after_first p text
  after_end none = let e = at_end none in sym (drop_of_length-le text (omega arith))

-- ---- lines

-- one byte before the lines of a text
abbrev Onto : ℕ → List ℕ → Type 0
Onto b bytes = onto_first b (lines_of bytes) ≡ (b ∷ before_first is_feed bytes) ∷ lines_of (after_first is_feed bytes)

line-step : (b : ℕ) (bytes : List ℕ) (t : Bool) → is_feed b ≡ t → Onto b bytes
    → lines_of (b ∷ bytes) ≡ take (cond (not t) (1 + position_or_len is_feed bytes) 0) (b ∷ bytes) ∷ lines_of (drop (cond (not t) (1 + position_or_len is_feed bytes) 0 + 1) (b ∷ bytes))
line-step b bytes true p more = rw p refl
line-step b bytes false p more =
    let n = position_or_len is_feed bytes in
    let one : 1 + n ≡ suc n = omega arith in
    let two : suc n + 1 ≡ suc (n + 1) = omega arith in
    rw (p, one, two) more

line-first : (b : ℕ) (bytes : List ℕ) → lines_of (b ∷ bytes) ≡ before_first is_feed (b ∷ bytes) ∷ lines_of (after_first is_feed (b ∷ bytes))
line-first b [] = line-step b [] (is_feed b) refl refl
line-first b (c ∷ bytes) = line-step b (c ∷ bytes) (is_feed b) refl (rw (line-first c bytes) refl)

-- the first line of a text that is not empty, and the others
pub lines_next : (text line rest : Text) → 0 < length text → line ≡ before_first is_feed text → rest ≡ after_first is_feed text → lines_of text ≡ line ∷ lines_of rest
lines_next [] line rest some first others = absurd (omega arith)
lines_next (b ∷ text) line rest some first others = rw (first, others) (line-first b text)

length-onto : (b : ℕ) (parts : List Text) → length (onto_first b parts) ≤ length parts + 1
length-onto b [] = omega arith
length-onto b (part ∷ parts) = omega arith

lines_fewer : (b : ℕ) (bytes : List ℕ) (t : Bool) → length (lines_of bytes) ≤ length bytes → length (cond t ([] ∷ lines_of bytes) (onto_first b (lines_of bytes))) ≤ suc (length bytes)
lines_fewer b bytes true few = omega arith
lines_fewer b bytes false few = omega (arith, length-onto b (lines_of bytes))

-- there are no more lines than bytes
pub lines_few : (text : Text) → length (lines_of text) ≤ length text
lines_few [] = omega arith
lines_few (b ∷ text) = lines_fewer b text (is_feed b) (lines_few text)

-- ---- words

-- a blank at the front is nothing
words-blank : (b : ℕ) (text : Text) → is_blank b ≡ true → words_in (b ∷ text) ≡ words_in text
unfolding words_in
words-blank b text blank = rw blank refl

blanks-step : (b : ℕ) (text : Text) (t : Bool) → is_blank b ≡ t
    → words_in text ≡ words_in (from_first is_letter text)
    → words_in (b ∷ text) ≡ words_in (drop (cond (not (not t)) (1 + position_or_len is_letter text) 0) (b ∷ text))
blanks-step b text true p more = let one : 1 + position_or_len is_letter text ≡ suc (position_or_len is_letter text) = omega arith in rw one (words-blank b text p ∙ more)
blanks-step b text false p more = refl

-- blanks at the front are nothing
pub words-blanks : (text : Text) → words_in text ≡ words_in (from_first is_letter text)
words-blanks [] = refl
words-blanks (b ∷ text) = blanks-step b text (is_blank b) refl (words-blanks text)

-- the parts that follow the first one
abbrev tails : Text → List Text
tails [] = []
tails (b ∷ text) = slice_split is_blank text

split-step : (b : ℕ) (text : Text) (t : Bool) → is_blank b ≡ t
    → slice_split is_blank text ≡ before_first is_blank text ∷ tails (from_first is_blank text)
    → slice_split is_blank (b ∷ text) ≡ take (cond (not t) (1 + position_or_len is_blank text) 0) (b ∷ text) ∷ tails (drop (cond (not t) (1 + position_or_len is_blank text) 0) (b ∷ text))
split-step b text true p more = rw p refl
split-step b text false p more =
    let one : 1 + position_or_len is_blank text ≡ suc (position_or_len is_blank text) = omega arith in
    rw (p, one, more) refl

split-first : (text : Text) → slice_split is_blank text ≡ before_first is_blank text ∷ tails (from_first is_blank text)
split-first [] = refl
split-first (b ∷ text) = split-step b text (is_blank b) refl (split-first text)

tails-step : (b : ℕ) (text : Text) (t : Bool) → is_blank b ≡ t
    → filter is_word (tails (from_first is_blank text)) ≡ words_in (from_first is_blank text)
    → filter is_word (tails (drop (cond (not t) (1 + position_or_len is_blank text) 0) (b ∷ text))) ≡ words_in (drop (cond (not t) (1 + position_or_len is_blank text) 0) (b ∷ text))
unfolding words_in
tails-step b text true p more = rw p refl
tails-step b text false p more =
    let one : 1 + position_or_len is_blank text ≡ suc (position_or_len is_blank text) = omega arith in
    rw one more

words-tails : (text : Text) → filter is_word (tails (from_first is_blank text)) ≡ words_in (from_first is_blank text)
unfolding words_in
words-tails [] = refl
words-tails (b ∷ text) = tails-step b text (is_blank b) refl (words-tails text)

-- a word before others, where it is one
abbrev with_word : Text → List Text → List Text
with_word [] words = words
with_word (b ∷ word) words = (b ∷ word) ∷ words

is_word-some : (b : ℕ) (word : Text) → is_word (b ∷ word) ≡ true
is_word-some b word = ap not (false_from_ne_true _ (λ t. let e = eqb-true (length (b ∷ word)) 0 t in omega arith))

kept-word : (word : Text) (words : List Text) → filter is_word (word ∷ words) ≡ with_word word (filter is_word words)
kept-word [] words = refl
kept-word (b ∷ word) words = rw (is_word-some b word) refl

-- the words of a text: what stands before its first blank, if it is a word, and those of the rest
words-more : (text : Text) → words_in text ≡ with_word (before_first is_blank text) (words_in (from_first is_blank text))
unfolding words_in
words-more text =
    ap (filter is_word) (split-first text)
    ∙ kept-word (before_first is_blank text) (tails (from_first is_blank text))
    ∙ ap (with_word (before_first is_blank text)) (words-tails text)

ends-step : (b : ℕ) (text : Text) (t : Bool) → is_blank b ≡ t
    → (position_or_len is_blank (from_first is_letter text) ≡ 0 → from_first is_letter text ≡ [])
    → position_or_len is_blank (drop (cond (not (not t)) (1 + position_or_len is_letter text) 0) (b ∷ text)) ≡ 0
    → drop (cond (not (not t)) (1 + position_or_len is_letter text) 0) (b ∷ text) ≡ []
ends-step b text true p more none =
    let one : 1 + position_or_len is_letter text ≡ suc (position_or_len is_letter text) = omega arith in
    rw one (more (rw one at none))
ends-step b text false p more none =
    absurd (let e : 1 + position_or_len is_blank text ≡ 0 = (rw p at none) in omega arith)

-- behind its blanks a text has a word, or ends
text-ends : (text : Text) → position_or_len is_blank (from_first is_letter text) ≡ 0 → from_first is_letter text ≡ []
text-ends [] none = refl
text-ends (b ∷ text) none = ends-step b text (is_blank b) refl (text-ends text) none

words-none : words_in [] ≡ []
unfolding words_in
words-none = refl

-- the first word of a text, and what is left
module _ (old text word rest : Text) (is : text ≡ from_first is_letter old)
    (first : word ≡ before_first is_blank text) (others : rest ≡ from_first is_blank text) where
  words-old : words_in old ≡ with_word word (words_in rest)
  words-old = words-blanks old ∙ ap words_in (sym is) ∙ rw (first, others) (words-more text)

  pub words_end : length word ≡ 0 → (words_in old ≡ []) × (words_in rest ≡ [])
  words_end none =
      let short : length (before_first is_blank text) ≡ 0 = ap length (sym first) ∙ none in
      let at : position_or_len is_blank text ≡ 0 = (let most = prefix_len-le-length (λ b. not (is_blank b)) text in let e = length-take-le (position_or_len is_blank text) text most in omega arith) in
      let empty : text ≡ [] = is ∙ text-ends old (ap (position_or_len is_blank) (sym is) ∙ at) in
      let left : words_in rest ≡ [] = ap words_in (others ∙ ap (from_first is_blank) empty) ∙ words-none in
      let gone : word ≡ [] = first ∙ ap (before_first is_blank) empty in
      (words-old ∙ ap (λ w. with_word w (words_in rest)) gone ∙ left, left)

  pub words_next : 0 < length word → words_in old ≡ word ∷ words_in rest
  words_next some = words-old ∙ with-some word some
    where
      with-some : (word : Text) → 0 < length word → with_word word (words_in rest) ≡ word ∷ words_in rest
      with-some [] some = absurd (omega arith)
      with-some (b ∷ word) some = refl

-- The words of a line, from its first byte on.
use Rattle.std.proofs.Common.{◌≡◌, ◌∙◌, ℕ, ◌+◌, suc, List, [], ◌∷◌, ◌++◌, Bool, true, false, cond, not, length, refl, ap, sym, append_assoc, append-nil, arith}
use Rattle.std.proofs.lemmas.Bool.{false_from_ne_true, eqb-true}
use Rattle.std.specs.List.{before_first, filter, onto_first, position_or_len, slice_split}
use Rattle.diva_outside.specs.Text.{Text}
use Rattle.diva_outside.specs.Words.{begins_comment, is_blank, is_word, words_in, words_of}

-- ---- what stands before the comment

before-step : (b : ℕ) (line : Text) → begins_comment b ≡ false → before_first begins_comment (b ∷ line) ≡ b ∷ before_first begins_comment line
before-step b line none =
    let n = position_or_len begins_comment line in
    let one : 1 + n ≡ suc n = omega arith in
    rw (none, one) refl

before-comment : (b : ℕ) (line : Text) → begins_comment b ≡ true → before_first begins_comment (b ∷ line) ≡ []
before-comment b line some = rw some refl

-- ---- words by their first byte

abbrev parts_of : Text → List Text
parts_of line = slice_split is_blank (before_first begins_comment line)

words-none : words_in [] ≡ []
unfolding words_in
words-none = refl

words-parts : (line : Text) → words_of line ≡ filter is_word (parts_of line)
unfolding words_in
words-parts line = refl

pub words_nothing : words_of [] ≡ []
words_nothing = words-none

-- a comment has no words
pub words_comment : (b : ℕ) (line : Text) → begins_comment b ≡ true → words_of (b ∷ line) ≡ []
words_comment b line some = ap words_in (before-comment b line some) ∙ words-none

parts-blank : (b : ℕ) (line : Text) → begins_comment b ≡ false → is_blank b ≡ true → parts_of (b ∷ line) ≡ [] ∷ parts_of line
parts-blank b line none blank = ap (slice_split is_blank) (before-step b line none) ∙ rw blank refl

parts-letter : (b : ℕ) (line : Text) → begins_comment b ≡ false → is_blank b ≡ false → parts_of (b ∷ line) ≡ onto_first b (parts_of line)
parts-letter b line none letter = ap (slice_split is_blank) (before-step b line none) ∙ rw letter refl

-- a blank is nothing
pub words_blank : (b : ℕ) (line : Text) → begins_comment b ≡ false → is_blank b ≡ true → words_of (b ∷ line) ≡ words_of line
words_blank b line none blank =
    words-parts (b ∷ line) ∙ ap (filter is_word) (parts-blank b line none blank) ∙ sym (words-parts line)

-- the words of what is left of a line, the first of which has begun with these letters
abbrev pub words_after : Text → Text → List Text
words_after word [] = word ∷ []
words_after word (b ∷ line) =
    cond (begins_comment b) (word ∷ []) (cond (is_blank b) (word ∷ words_of line) (words_after (word ++ b ∷ []) line))

-- letters before the first part
abbrev onto_part : Text → List Text → List Text
onto_part word [] = word ∷ []
onto_part word (part ∷ parts) = (word ++ part) ∷ parts

onto-one : (b : ℕ) (parts : List Text) → onto_first b parts ≡ onto_part (b ∷ []) parts
onto-one b [] = refl
onto-one b (part ∷ parts) = refl

onto-more : (word : Text) (b : ℕ) (parts : List Text) → onto_part word (onto_first b parts) ≡ onto_part (word ++ b ∷ []) parts
onto-more word b [] = refl
onto-more word b (part ∷ parts) = ap (λ (w : Text). w ∷ parts) (sym (append_assoc word (b ∷ []) part))

is_word-some : (b : ℕ) (word : Text) → is_word (b ∷ word) ≡ true
is_word-some b word = ap not (false_from_ne_true _ (λ t. let e = eqb-true (length (b ∷ word)) 0 t in omega arith))

kept-first : (x : ℕ) (word : Text) (parts : List Text) → filter is_word ((x ∷ word) ∷ parts) ≡ (x ∷ word) ∷ filter is_word parts
kept-first x word parts = rw (is_word-some x word) refl

kept-end : (x : ℕ) (word : Text) → (x ∷ word) ∷ [] ≡ filter is_word (onto_part (x ∷ word) ([] ∷ []))
kept-end x word = sym (kept-first x (word ++ []) [] ∙ ap (λ (w : Text). (x ∷ w) ∷ []) (append-nil word))

abbrev IsAfter : ℕ → Text → Text → Type 0
IsAfter x word line = words_after (x ∷ word) line ≡ filter is_word (onto_part (x ∷ word) (parts_of line))

after-comment : (x : ℕ) (word : Text) (b : ℕ) (line : Text) → begins_comment b ≡ true → IsAfter x word (b ∷ line)
after-comment x word b line some =
    let left : words_after (x ∷ word) (b ∷ line) ≡ (x ∷ word) ∷ [] = rw some refl in
    left ∙ kept-end x word ∙ sym (ap (λ (t : Text). filter is_word (onto_part (x ∷ word) (slice_split is_blank t))) (before-comment b line some))

after-blank : (x : ℕ) (word : Text) (b : ℕ) (line : Text) → begins_comment b ≡ false → is_blank b ≡ true → IsAfter x word (b ∷ line)
after-blank x word b line none blank =
    let left : words_after (x ∷ word) (b ∷ line) ≡ (x ∷ word) ∷ words_of line = rw (none, blank) refl in
    left
    ∙ ap (λ (ws : List Text). (x ∷ word) ∷ ws) (words-parts line)
    ∙ sym (kept-first x (word ++ []) (parts_of line) ∙ ap (λ (w : Text). (x ∷ w) ∷ filter is_word (parts_of line)) (append-nil word))
    ∙ sym (ap (λ (ps : List Text). filter is_word (onto_part (x ∷ word) ps)) (parts-blank b line none blank))

after-letter : (x : ℕ) (word : Text) (b : ℕ) (line : Text) → begins_comment b ≡ false → is_blank b ≡ false
    → IsAfter x (word ++ b ∷ []) line → IsAfter x word (b ∷ line)
after-letter x word b line none letter more =
    let left : words_after (x ∷ word) (b ∷ line) ≡ words_after (x ∷ word ++ b ∷ []) line = rw (none, letter) refl in
    left ∙ more
    ∙ ap (filter is_word) (sym (onto-more (x ∷ word) b (parts_of line)))
    ∙ sym (ap (λ (ps : List Text). filter is_word (onto_part (x ∷ word) ps)) (parts-letter b line none letter))

after-marked : (x : ℕ) (word : Text) (b : ℕ) (line : Text) (blank : Bool) → begins_comment b ≡ false → is_blank b ≡ blank
    → IsAfter x (word ++ b ∷ []) line → IsAfter x word (b ∷ line)
after-marked x word b line true none is more = after-blank x word b line none is
after-marked x word b line false none is more = after-letter x word b line none is more

after-byte : (x : ℕ) (word : Text) (b : ℕ) (line : Text) (comment : Bool) → begins_comment b ≡ comment
    → IsAfter x (word ++ b ∷ []) line → IsAfter x word (b ∷ line)
after-byte x word b line true is more = after-comment x word b line is
after-byte x word b line false is more = after-marked x word b line (is_blank b) is refl more

after-all : (x : ℕ) (word line : Text) → IsAfter x word line
after-all x word [] = kept-end x word
after-all x word (b ∷ line) = after-byte x word b line (begins_comment b) refl (after-all x (word ++ b ∷ []) line)

-- a letter begins a word
pub words_letter : (b : ℕ) (line : Text) → begins_comment b ≡ false → is_blank b ≡ false → words_of (b ∷ line) ≡ words_after (b ∷ []) line
words_letter b line none letter =
    words-parts (b ∷ line)
    ∙ ap (filter is_word) (parts-letter b line none letter ∙ onto-one b (parts_of line))
    ∙ sym (after-all b [] line)

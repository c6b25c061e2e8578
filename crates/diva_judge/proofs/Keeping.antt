-- What is kept of a line's words says what the line says: no line of more than ten words and no word of more than eight bytes is taken.
use Rattle.std.proofs.Common.{◌≡◌, ◌∙◌, add-one, inl, inr, ◌≤◌, ◌+◌, ℕ, zero, suc, false, List, [], ◌∷◌, length, take, drop, Option, Some, None, Result, Ok, Err, ap, sym, refl, arith, rules, nat_eq}
use Rattle.std.proofs.lemmas.Bool.{and_right, cases_lt}
use Rattle.std.proofs.lemmas.List.{take_all}
use Rattle.std.specs.Prelude.{slice_get}
use Rattle.std.specs.Str.{bytes_eq}
use Rattle.diva_claims.specs.declared.said.Said.{Said}
use Rattle.diva_claims.specs.declared.said.SaidEnd.{SaidEnd}
use Rattle.diva_outside.specs.NextWords.{others_of, with_first}
use Rattle.diva_outside.specs.Numbers.{hex_of}
use Rattle.diva_outside.specs.Steps.{and_then}
use Rattle.diva_outside.specs.Text.{Text}
use Rattle.diva_source.specs.KeptWords.{kept_of}
use Rattle.diva_judge.specs.Logs.{end_said_by, first_by, number_said, said_in, said_of, unless_more}
use Rattle.diva_judge.specs.declared.log_line.Kind.{Kind}
use Rattle.diva_judge.specs.declared.log_line.Kind.TheVariants.{Word}

-- ---- the words from a place on

pub first_dropped : {A : Type 0} (words : List A) (at : ℕ) → slice_get words at ≡ slice_get (drop at words) 0
first_dropped [] zero = refl
first_dropped (w ∷ words) zero = refl
first_dropped [] (suc at) = refl
first_dropped (w ∷ words) (suc at) = first_dropped words at

pub others_dropped : (words : List Text) (at : ℕ) → drop (at + 1) words ≡ others_of (drop at words)
others_dropped [] zero = refl
others_dropped (w ∷ words) zero = refl
others_dropped [] (suc at) = simp add-one refl
others_dropped (w ∷ words) (suc at) = simp add-one (simp add-one at (others_dropped words at))

pub none_dropped : {A : Type 0} (words : List A) (at : ℕ) → at ≡ length words → drop at words ≡ []
none_dropped [] zero e = refl
none_dropped (w ∷ words) zero e = absurd (omega (arith, e))
none_dropped [] (suc at) e = refl
none_dropped (w ∷ words) (suc at) e = none_dropped words at (omega (arith, e))

-- ---- a word of more than eight bytes is no number, no `-` and no `t`

no_hex : (word : Text) → 9 ≤ length word → hex_of word ≡ None
unfolding hex_of
no_hex word long = search rules

no_mark : (mark : ℕ) (word : Text) → 9 ≤ length word → bytes_eq word (mark ∷ []) ≡ false
no_mark mark [] long = refl
no_mark mark (b ∷ []) long = absurd (omega (arith, long))
no_mark mark (b ∷ c ∷ word) long = and_right (nat_eq b mark) _ refl

long_number : (word : Text) → 9 ≤ length word → number_said word ≡ Err Word
long_number word long = rw (no_mark 45 word long, no_hex word long) refl

long_end : (word : Text) → 9 ≤ length word → end_said_by word ≡ Err Word
long_end word long = rw (no_mark 116 word long, no_mark 45 word long, no_hex word long) refl

-- so a rule that takes no such word says the same of what is kept
kept_word : {A : Type 0} (rule : Text → Result A Kind) → ((word : Text) → 9 ≤ length word → rule word ≡ Err Word)
    → (word : Text) → rule (take 9 word) ≡ rule word
kept_word rule long word =
    elim (cases_lt 9 (length word)) [
      | inl more ↦ long (take 9 word) (search rules) ∙ sym (long word (omega (arith, more)))
      | inr most ↦ ap rule (take_all 9 word most)
    ]

-- ---- a line

-- the words of a line by rules for a number and for the end
said_by : (Text → Result (Option ℕ) Kind) → (Text → Result (Option SaidEnd) Kind) → List Text → Result Said Kind
said_by number end words =
    with_first (first_by number) words (λ pc words.
    with_first (first_by number) words (λ word words.
    with_first (first_by number) words (λ src1 words.
    with_first (first_by number) words (λ src2 words.
    with_first (first_by number) words (λ addr words.
    with_first (first_by number) words (λ value words.
    with_first (first_by number) words (λ next words.
    with_first (first_by end) words (λ at_end words.
    effects_by number (record { pc = pc; word = word; src1 = src1; src2 = src2; addr = addr; value = value; next = next; end = at_end; rd = None; mask = None })
    words))))))))
  where
    effects_by : (Text → Result (Option ℕ) Kind) → Said → List Text → Result Said Kind
    effects_by number said [] = Ok said
    effects_by number said (word ∷ words) =
        with_first (first_by number) (word ∷ words) (λ rd words.
        with_first (first_by number) words (λ mask words.
        unless_more (record said { rd = rd; mask = mask }) words))

module _ (number : Text → Result (Option ℕ) Kind) (end : Text → Result (Option SaidEnd) Kind)
    (numbers : (word : Text) → number (take 9 word) ≡ number word) (ends : (word : Text) → end (take 9 word) ≡ end word) where
  kept_by : (words : List Text) → said_by number end (kept_of words) ≡ said_by number end words
  unfolding said_by
  kept_by [] = refl
  kept_by (a ∷ []) = rw (numbers a) refl
  kept_by (a ∷ b ∷ []) = rw (numbers a, numbers b) refl
  kept_by (a ∷ b ∷ c ∷ []) = rw (numbers a, numbers b, numbers c) refl
  kept_by (a ∷ b ∷ c ∷ d ∷ []) = rw (numbers a, numbers b, numbers c, numbers d) refl
  kept_by (a ∷ b ∷ c ∷ d ∷ e ∷ []) = rw (numbers a, numbers b, numbers c, numbers d, numbers e) refl
  kept_by (a ∷ b ∷ c ∷ d ∷ e ∷ f ∷ []) = rw (numbers a, numbers b, numbers c, numbers d, numbers e, numbers f) refl
  kept_by (a ∷ b ∷ c ∷ d ∷ e ∷ f ∷ g ∷ []) = rw (numbers a, numbers b, numbers c, numbers d, numbers e, numbers f, numbers g) refl
  kept_by (a ∷ b ∷ c ∷ d ∷ e ∷ f ∷ g ∷ h ∷ []) = rw (numbers a, numbers b, numbers c, numbers d, numbers e, numbers f, numbers g, ends h) refl
  kept_by (a ∷ b ∷ c ∷ d ∷ e ∷ f ∷ g ∷ h ∷ i ∷ []) = rw (numbers a, numbers b, numbers c, numbers d, numbers e, numbers f, numbers g, ends h, numbers i) refl
  kept_by (a ∷ b ∷ c ∷ d ∷ e ∷ f ∷ g ∷ h ∷ i ∷ j ∷ []) = rw (numbers a, numbers b, numbers c, numbers d, numbers e, numbers f, numbers g, ends h, numbers i, numbers j) refl
  kept_by (a ∷ b ∷ c ∷ d ∷ e ∷ f ∷ g ∷ h ∷ i ∷ j ∷ k ∷ words) = rw (numbers a, numbers b, numbers c, numbers d, numbers e, numbers f, numbers g, ends h, numbers i, numbers j) refl

pub said_kept : (all : List Text) → said_of (kept_of all) ≡ said_of all
unfolding said_in said_by
said_kept [] = refl
said_kept (word ∷ words) =
    ap (λ (said : Result Said Kind). and_then said (λ item. Ok (Some item)))
    (kept_by number_said end_said_by (kept_word number_said long_number) (kept_word end_said_by long_end) (word ∷ words))

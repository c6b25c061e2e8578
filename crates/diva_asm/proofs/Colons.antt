-- The labels that a text begins with.
use Rattle.std.proofs.Common.{◌≡◌, ◌<◌, ℕ, ◌+◌, suc, List, [], ◌∷◌, ◌++◌, length, take, drop, Bool, true, false, cond, not, refl, sym, ◌∙◌, ap, arith, append_assoc, append-nil}
use Rattle.std.specs.List.{position_or_len, before_first, after_first}
use Rattle.diva_asm.specs.Texts.{trim, is_name, is_colon, Labelled, onto_names, labels_after, labels_of}

abbrev bare : List ℕ → Labelled
bare text = record { names = []; rest = text }

-- before a colon, after it, and the whole
abbrev pub at_colon : List ℕ → List ℕ → List ℕ → Labelled
at_colon front rest whole = cond (is_name (trim front)) (onto_names (trim front) (labels_after [] rest)) (bare whole)

pub no_colon : (seen text : List ℕ) → position_or_len is_colon text ≡ length text → labels_after seen text ≡ bare (seen ++ text)
no_colon seen [] e = ap bare (sym (append-nil seen))
no_colon seen (b ∷ text) e = step (no_colon (seen ++ b ∷ []) text) (is_colon b) refl e
  where
    step : (position_or_len is_colon text ≡ length text → labels_after (seen ++ b ∷ []) text ≡ bare ((seen ++ b ∷ []) ++ text))
        → (t : Bool) → is_colon b ≡ t → cond (not t) (1 + position_or_len is_colon text) 0 ≡ length (b ∷ text) → labels_after seen (b ∷ text) ≡ bare (seen ++ b ∷ text)
    step more true p h = absurd (omega arith)
    step more false p h = rw p (more (omega arith) ∙ ap bare (append_assoc seen (b ∷ []) text))

pub first_colon : (seen text : List ℕ) → position_or_len is_colon text < length text
    → labels_after seen text ≡ at_colon (seen ++ before_first is_colon text) (after_first is_colon text) (seen ++ text)
first_colon seen [] h = absurd (omega arith)
first_colon seen (b ∷ text) h = step (first_colon (seen ++ b ∷ []) text) (is_colon b) refl h
  where
    step : (position_or_len is_colon text < length text
        → labels_after (seen ++ b ∷ []) text ≡ at_colon ((seen ++ b ∷ []) ++ before_first is_colon text) (after_first is_colon text) ((seen ++ b ∷ []) ++ text))
        → (t : Bool) → is_colon b ≡ t → cond (not t) (1 + position_or_len is_colon text) 0 < length (b ∷ text)
        → labels_after seen (b ∷ text) ≡ at_colon (seen ++ take (cond (not t) (1 + position_or_len is_colon text) 0) (b ∷ text)) (drop (cond (not t) (1 + position_or_len is_colon text) 0 + 1) (b ∷ text)) (seen ++ b ∷ text)
    step more true p h = rw (p, append-nil seen) refl
    step more false p h =
        let n = position_or_len is_colon text in
        let one : 1 + n ≡ suc n = omega arith in
        let two : suc n + 1 ≡ suc (n + 1) = omega arith in
        rw (p, one, two) (more (omega arith) ∙ rw (append_assoc seen (b ∷ []) (take n text), append_assoc seen (b ∷ []) text) refl)

-- a text without a colon, one whose first colon follows no name, and one that begins with a label
pub no_label : (text : List ℕ) → position_or_len is_colon text ≡ length text → labels_of text ≡ bare text
unfolding labels_of
no_label text e = no_colon [] text e

pub one_label : (text : List ℕ) → position_or_len is_colon text < length text → is_name (trim (before_first is_colon text)) ≡ true
    → labels_of text ≡ onto_names (trim (before_first is_colon text)) (labels_of (after_first is_colon text))
unfolding labels_of
one_label text h f = first_colon [] text h ∙ rw f refl

pub no_name : (text : List ℕ) → position_or_len is_colon text < length text → is_name (trim (before_first is_colon text)) ≡ false → labels_of text ≡ bare text
unfolding labels_of
no_name text h f = first_colon [] text h ∙ rw f refl

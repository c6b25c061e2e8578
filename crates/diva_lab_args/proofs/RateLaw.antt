-- What the words of `rate` ask for, if they are the names of files as they stand.
use Rattle.std.proofs.Common.{◌≡◌, ◌∙◌, ◌≤◌, ◌+◌, ◌||◌, Bool, true, false, List, [], ◌∷◌, ◌++◌, append-nil, arith, ap, codes, drop, length, refl, sym, take, Some}
use Rattle.std.specs.Prelude.{option_map}
use Rattle.std.specs.List.{after_first, before_first, list_any, position_or_len}
use Rattle.std.proofs.Math.Seq.{drop-append-add, take-append-add}
use Rattle.std.proofs.lemmas.Slice.Eq.{bytes_eq-Decides}
use Rattle.clap.specs.Walk.{Text}
use Rattle.diva_lab_args.specs.Lab.{lab_of}
use Rattle.diva_lab_args.specs.Rate.{is_dashed, is_end, names_of, some_names}
use Rattle.diva_lab_args.specs.declared.lab.LabJob.TheVariants.{Rate}

-- a word that does not look like an option is not `--`
no_end : (word : Text) → is_dashed word ≡ false → is_end word ≡ false
no_end word plain = go (is_end word) refl
  where
    go : (b : Bool) → is_end word ≡ b → is_end word ≡ false
    go false e = e
    go true e = absurd (let h = sym (ap is_dashed ((bytes_eq-Decides word (codes "--")).0 e)) ∙ plain in cc)

neither : (a b : Bool) → a || b ≡ false → (a ≡ false) × (b ≡ false)
neither false b e = (refl, e)
neither true b e = cc

-- ---- words of which none looks like an option, and then others

module _ (rest : List Text) where
  place : (names : List Text) → list_any is_dashed names ≡ false → position_or_len is_end (names ++ rest) ≡ length names + position_or_len is_end rest
  place [] plain = omega arith
  place (name ∷ names) plain =
      let h = neither (is_dashed name) (list_any is_dashed names) plain in
      let further = place names h.1 in
      rw (no_end name h.0) (omega (arith, further))

  before : (names : List Text) → list_any is_dashed names ≡ false → before_first is_end (names ++ rest) ≡ names ++ before_first is_end rest
  before names plain = ap (λ n. take n (names ++ rest)) (place names plain) ∙ take-append-add names rest (position_or_len is_end rest)

  after : (names : List Text) → list_any is_dashed names ≡ false → after_first is_end (names ++ rest) ≡ after_first is_end rest
  after names plain =
      let further = place names plain in
      ap (λ n. drop n (names ++ rest)) (omega (arith, further)) ∙ drop-append-add names rest (position_or_len is_end rest + 1)

some : (names : List Text) → 1 ≤ length names → some_names names ≡ Some names
some [] has = absurd (omega arith)
some (name ∷ names) has = refl

-- ---- the names

plain_names : (names : List Text) → list_any is_dashed names ≡ false → 1 ≤ length names → names_of names ≡ Some names
unfolding names_of
plain_names names plain has =
    let all : before_first is_end names ≡ names = ap (before_first is_end) (sym (append-nil names)) ∙ before [] names plain ∙ append-nil names in
    let none : after_first is_end names ≡ [] = ap (after_first is_end) (sym (append-nil names)) ∙ after [] names plain in
    rw (all, none, plain, append-nil names) (some names has)

names_round_end : (names others : List Text) → list_any is_dashed names ≡ false → 1 ≤ length (names ++ others) → names_of (names ++ codes "--" ∷ others) ≡ Some (names ++ others)
unfolding names_of
names_round_end names others plain has =
    let first : before_first is_end (names ++ codes "--" ∷ others) ≡ names = before (codes "--" ∷ others) names plain ∙ append-nil names in
    let later : after_first is_end (names ++ codes "--" ∷ others) ≡ others = after (codes "--" ∷ others) names plain in
    rw (first, later, plain) (some (names ++ others) has)

-- ---- the whole line

pub plain_rate_line : (words names : List Text) → list_any is_dashed names ≡ false → 1 ≤ length names → words ≡ codes "rate" ∷ names → lab_of words ≡ Some (Rate names)
unfolding lab_of
plain_rate_line words names plain has spelled = ap lab_of spelled ∙ ap (option_map Rate) (plain_names names plain has)

pub rate_line_round_end : (words names others : List Text) → list_any is_dashed names ≡ false → 1 ≤ length (names ++ others) → words ≡ codes "rate" ∷ names ++ codes "--" ∷ others
    → lab_of words ≡ Some (Rate (names ++ others))
unfolding lab_of
rate_line_round_end words names others plain has spelled = ap lab_of spelled ∙ ap (option_map Rate) (names_round_end names others plain has)

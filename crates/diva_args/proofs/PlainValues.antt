-- The values that a plain line gives, and what the rules make of two sources of the same values.
use Rattle.std.proofs.Common.{◌≡◌, ◌∙◌, ◌||◌, Bool, true, false, not, List, [], ◌∷◌, map, refl, ap, subst, Option, codes}
use Rattle.std.specs.List.{list_all}
use Rattle.std.specs.Str.{bytes_eq}
use Rattle.std.proofs.lemmas.Slice.Eq.{bytes_eq-Decides}
use Rattle.clap.specs.Walk.{Text}
use Rattle.diva_args.specs.Line.{config_from, config_with, room_from, setup_from, setup_with, values_of, wide_from}
use Rattle.diva_args.specs.Plain.{has_text}
use Rattle.diva_args.specs.Rows.{NumberRow, port_row, stores_row, watchdog_row, width_row, window_row}
use Rattle.diva_args.specs.Values.{core_of, is_set_by, named, number_by, number_of, room_behind}
use Rattle.diva_args.proofs.PlainSteps.{first_given, given_row}
use Rattle.diva_args.proofs.PlainFlags.{flag_kept, value_kept, with_flags}
use Rattle.diva_args.proofs.PlainOptions.{Given}

-- ---- the values of a line

-- two sources that give the same value of each id that is no flag, and the same flags
pub record SameValues (flags : List Text) (f g : Text → Option Text) : Type 0 where
  pub value : (id : Text) → has_text id flags ≡ false → f id ≡ g id
  pub flag : (id : Text) → is_set_by (f id) ≡ is_set_by (g id)

pub same_values : (flags : List Text) (gs : Given) → SameValues flags (values_of (with_flags flags (map given_row gs))) (named gs)
same_values flags gs = record {
  value = λ id none. value_kept flags (map given_row gs) id none ∙ first_given gs id;
  flag = λ id. flag_kept flags (map given_row gs) id ∙ ap is_set_by (first_given gs id);
}

-- where there is no flag they are one
pub one_source : (f g : Text → Option Text) → SameValues [] f g → f ≡ g
one_source f g s = λ i id. s.value id refl i

-- ---- one flag

-- the words of a setup
abbrev setup_words : List Text
setup_words =
    codes "IMAGE" ∷ codes "room" ∷ codes "core" ∷ codes "tape" ∷ codes "script"
    ∷ width_row.word ∷ window_row.word ∷ stores_row.word ∷ watchdog_row.word ∷ port_row.word ∷ []

-- a name that is none of some words is not this one of them
apart_from : (name : Text) (words : List Text) (word : Text) → list_all (λ w. not (bytes_eq name w)) words ≡ true → has_text word words ≡ true → bytes_eq name word ≡ false
apart_from name [] word apart has = cc
apart_from name (w ∷ ws) word apart has = go (bytes_eq name w) (bytes_eq w word) refl refl (apart_from name ws word)
  where
    go : (a b : Bool) → bytes_eq name w ≡ a → bytes_eq w word ≡ b → (list_all (λ w. not (bytes_eq name w)) ws ≡ true → has_text word ws ≡ true → bytes_eq name word ≡ false)
        → bytes_eq name word ≡ false
    go true b e f rest = absurd (let h = rw e at apart in cc)
    go false true e f rest = subst (λ (x : Text). bytes_eq name x ≡ false) ((bytes_eq-Decides w word).0 f) e
    go false false e f rest = rest (rw e at apart) (rw f at has)

-- a command with one flag
module _ (name : Text) (f g : Text → Option Text) (s : SameValues (name ∷ []) f g) where
  -- the same value, and the same number
  pub same_at : (id : Text) → bytes_eq name id ≡ false → f id ≡ g id
  same_at id other = s.value id (rw other refl)

  pub same_number : (row : NumberRow) → bytes_eq name row.word ≡ false → number_of row f ≡ number_of row g
  same_number row other = ap (number_by row) (same_at row.word other)

  -- the same setup, if the flag is none of its words
  pub wide_same : (list_all (λ word. not (bytes_eq name word)) setup_words) ≡ true → wide_from f ≡ wide_from g
  unfolding setup_from room_from config_from
  wide_same apart =
      let other : (word : Text) → has_text word setup_words ≡ true → bytes_eq name word ≡ false = λ word has. apart_from name setup_words word apart has in
      let at : (id : Text) → has_text id setup_words ≡ true → f id ≡ g id = λ id has. same_at id (other id has) in
      let by : (row : NumberRow) → has_text row.word setup_words ≡ true → number_of row f ≡ number_of row g = λ row has. same_number row (other row.word has) in
      λ i. setup_with
      (at (codes "IMAGE") refl i) (room_behind (at (codes "room") refl i)) (core_of (at (codes "core") refl i) (at (codes "tape") refl i)) (at (codes "script") refl i)
      (config_with (by width_row refl i) (by window_row refl i) (by stores_row refl i) (by watchdog_row refl i) (by port_row refl i))

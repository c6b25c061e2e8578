-- A plain line of any table's command is taken.
use Rattle.std.proofs.Common.{◌≡◌, ◌∙◌, ◌&&◌, ◌||◌, Bool, true, false, not, List, [], ◌∷◌, ◌++◌, map, refl, ap, subst, Some}
use Rattle.std.specs.List.{flat_map, list_all}
use Rattle.std.specs.Str.{bytes_eq}
use Rattle.std.proofs.lemmas.Slice.Eq.{bytes_eq-Decides}
use Rattle.clap.specs.Walk.{Row, Text, nothing_held}
use Rattle.clap.specs.Simple.{Shape, argument_words, built}
use Rattle.clap.proofs.WalkLemmas.{both}
use Rattle.diva_args.specs.Command.{Leaf, app_with}
use Rattle.diva_args.specs.Line.{taken}
use Rattle.diva_args.specs.Plain.{IsPlainLine, PlainLine, Use, are_distinct, flagged, given_by, given_in, has_text, is_plain_word, is_use_of, name_of, names_in, use_words, valued, values_in, words_of}
use Rattle.diva_args.proofs.PlainSteps.{Stands, given_row}
use Rattle.diva_args.proofs.PlainFlags.{with_flags}
use Rattle.diva_args.proofs.PlainOptions.{Given, Places, apart_at, are_apart, built_rules, has_first, has_later, is_name, line_end, serves}
use Rattle.diva_args.proofs.PlainEnd.{Enters, PlainLevel, built_shape, entered_fault_is, entered_rows, plain_level}

-- ---- what each command of a table meets

-- its names are names, and none stands twice
abbrev pub has_sound_names : Leaf → Bool
has_sound_names l = list_all is_name l.options && list_all is_name l.flags && are_apart l.options l.positionals && are_apart l.flags l.options
    && are_apart l.flags l.positionals && are_distinct l.positionals

pub record IsRegular (l : Leaf) : Type 0 where
  pub places : Places (built_rules l) 1 l.positionals
  pub names : has_sound_names l ≡ true

-- the command of a table enters it by its name
pub record IsEntered (table : List Leaf) (l : Leaf) : Type 0 where
  pub words : (words : List Text) → argument_words (app_with table) words ≡ words
  pub enters : Enters (built (app_with table)) l.name (built_shape l)

-- ---- names and words

-- options and flags that the command knows are no positionals
no_positional : (l : Leaf) (uses : List Use) (id : Text) → are_apart l.options l.positionals ≡ true → are_apart l.flags l.positionals ≡ true
    → list_all (is_use_of l) uses ≡ true → has_text id l.positionals ≡ true → has_text id (names_in uses) ≡ false
no_positional l [] id apart flags_apart known has = refl
no_positional l (u ∷ uses) id apart flags_apart known has =
    go (bytes_eq (name_of u) id) refl (no_positional l uses id apart flags_apart (both _ _ known).1 has)
  where
    among : (v : Use) → is_use_of l v ≡ true → name_of v ≡ id → has_text id l.positionals ≡ false
    among (valued name value) h same = apart_at l.options l.positionals id apart (subst (λ (x : Text). has_text x l.options ≡ true) same h)
    among (flagged name) h same = apart_at l.flags l.positionals id flags_apart (subst (λ (x : Text). has_text x l.flags ≡ true) same h)

    go : (b : Bool) → bytes_eq (name_of u) id ≡ b → has_text id (names_in uses) ≡ false → (bytes_eq (name_of u) id || has_text id (names_in uses)) ≡ false
    go false e rest = rw e rest
    go true e rest =
        let same : name_of u ≡ id = (bytes_eq-Decides (name_of u) id).0 e in
        let bad = among u (both _ _ known).0 same in
        cc

not_among : (x : Text) (xs ys : List Text) → not (has_text x xs) ≡ true → has_text x ys ≡ false → has_text x (xs ++ ys) ≡ false
not_among x [] ys h k = k
not_among x (y ∷ xs) ys h k = go (bytes_eq y x) refl h (not_among x xs ys)
  where
    go : (b : Bool) → bytes_eq y x ≡ b → not (b || has_text x xs) ≡ true → (not (has_text x xs) ≡ true → has_text x ys ≡ false → has_text x (xs ++ ys) ≡ false)
        → (bytes_eq y x || has_text x (xs ++ ys)) ≡ false
    go true e h rest = cc
    go false e h rest = rw e (rest h k)

distinct_append : (ids names : List Text) → are_distinct ids ≡ true → ((id : Text) → has_text id ids ≡ true → has_text id names ≡ false)
    → are_distinct names ≡ true → are_distinct (ids ++ names) ≡ true
distinct_append [] names distinct none once = once
distinct_append (x ∷ xs) names distinct none once =
    rw (not_among x xs names (both _ _ distinct).0 (none x (has_first x xs)))
    (distinct_append xs names (both _ _ distinct).1 (λ id has. none id (has_later id x xs has)) once)

-- what every word of two lists passes, those of each pass
all_parts : (xs ys : List Text) → list_all is_plain_word (xs ++ ys) ≡ true
    → (list_all is_plain_word xs ≡ true) × (list_all is_plain_word ys ≡ true)
all_parts [] ys h = (refl, h)
all_parts (x ∷ xs) ys h =
    let parts = both _ _ h in
    let first : is_plain_word x ≡ true = parts.0 in
    let rest = all_parts xs ys parts.1 in
    let passes : (is_plain_word x && list_all is_plain_word xs) ≡ true = rw first rest.0 in
    (passes, rest.1)

-- ---- the whole line

taken_at : (table : List Leaf) (l : Leaf) (rest : List Text) (gs : Given) → IsEntered table l → PlainLevel l rest (map given_row gs)
    → taken table (l.name ∷ rest) ≡ Some (l.name, with_flags l.flags (map given_row gs))
unfolding taken
taken_at table l rest gs enters level =
    rw (enters.words (l.name ∷ rest), entered_fault_is (built (app_with table)) l.name (built_shape l) rest enters.enters ∙ level.passes)
    (entered_rows (built (app_with table)) l.name (built_shape l) rest enters.enters ∙ ap (λ (rs : List Row). Some (l.name, rs)) level.rows_are)

start : (s : Shape) → Stands s nothing_held []
start s = record { rows_are = refl; passes = refl }

level_at : (table : List Leaf) (words : List Text) (line : PlainLine) → IsPlainLine table words line → IsRegular line.command
    → PlainLevel line.command (line.positionals ++ flat_map use_words line.uses) (map given_row (given_in line))
level_at table words line plain sound =
    let l = line.command in
    let s = built_shape l in
    let parts = all_parts line.positionals (values_in line.uses) plain.plain in
    let ids = both _ _ sound.names in
    let flags = both _ _ ids.0 in
    let options = both _ _ flags.0 in
    let apart = both _ _ options.0 in
    let names = both _ _ apart.0 in
    let distinct = distinct_append l.positionals (names_in line.uses) ids.1
    (λ id has. no_positional l line.uses id apart.1 flags.1 plain.known has) plain.once in
    plain_level l _ line.positionals (map given_by line.uses) plain.complete
    (line_end s l (serves l names.0 names.1 apart.1 options.1) line.uses l.positionals line.positionals nothing_held 1 []
    sound.places plain.complete parts.0 plain.known distinct parts.1 (λ name has. tt) (start s))

pub plain_taken : (table : List Leaf) (words : List Text) (line : PlainLine) → IsPlainLine table words line → IsRegular line.command
    → IsEntered table line.command → taken table words ≡ Some (line.command.name, with_flags line.command.flags (map given_row (given_in line)))
plain_taken table words line plain regular enters =
    ap (taken table) plain.spelled ∙ taken_at table line.command _ (given_in line) enters (level_at table words line plain regular)

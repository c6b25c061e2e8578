-- What a simple command makes of a plain line's positionals, options and flags, one after the other.
use Rattle.std.proofs.Common.{◌≡◌, ◌∙◌, ◌&&◌, ◌||◌, ◌+◌, ℕ, Bool, true, false, not, List, [], ◌∷◌, ◌++◌, length, map, refl, ap, ap₂, sym, subst, Option, Some, None, is_some, codes, arith}
use Rattle.std.specs.Prelude.{find, fold, min, suc}
use Rattle.std.specs.List.{flat_map, list_any, list_all, zip}
use Rattle.std.specs.Str.{bytes_eq}
use Rattle.std.proofs.lemmas.Slice.Eq.{bytes_eq-Decides}
use Rattle.std.proofs.lemmas.List.{append-nil, append_assoc}
use Rattle.clap.specs.Lexer.{long_of}
use Rattle.clap.specs.Walk.{Held, Row, Rule, Text, Walk, arg_by_id, arg_by_index, arg_by_long, has_long, reacted, walked}
use Rattle.clap.specs.Simple.{Shape}
use Rattle.clap.specs.Faults.{turn_fault, walk_fault}
use Rattle.clap.specs.Kinds.{or_else}
use Rattle.clap.proofs.WalkLemmas.{both}
use Rattle.diva_args.specs.Command.{Leaf}
use Rattle.diva_args.specs.Plain.{Use, are_distinct, dashed, flagged, given_by, has_text, is_plain_word, is_use_of, names_in, use_words, valued, values_in}
use Rattle.diva_args.proofs.PlainSteps.{Absent, IsName, Stands, between, built_flag, built_option, built_positional, flag_passes, flag_step, given_row, option_first, option_first_fault, option_second, option_second_fault, plain_word_is, positional_fault, positional_step, stands_flag, stands_option, stands_positional, with_value, within_option}

-- names, each with its text
abbrev pub Given : Type 0
Given = List (Text × Text)

-- ---- the rules of a built command

abbrev pub built_positionals : ℕ → List Text → List Rule
built_positionals p [] = []
built_positionals p (id ∷ ids) = built_positional p id ∷ built_positionals (p + 1) ids

abbrev pub built_uses : List Text → List Text → List Rule
built_uses options flags = map built_option options ++ map built_flag flags

abbrev pub built_rules : Leaf → List Rule
built_rules l = built_positionals 1 l.positionals ++ built_uses l.options l.flags

-- the rules answer to the options and flags of a command
pub record Serves (c : List Rule) (l : Leaf) : Type 0 where
  pub name : (name : Text) → has_text name l.options ≡ true → IsName name
  pub long : (name : Text) → has_text name l.options ≡ true → arg_by_long c name ≡ Some (built_option name)
  pub id : (name : Text) → has_text name l.options ≡ true → arg_by_id c name ≡ Some (built_option name)
  pub flag_name : (name : Text) → has_text name l.flags ≡ true → IsName name
  pub flag_long : (name : Text) → has_text name l.flags ≡ true → arg_by_long c name ≡ Some (built_flag name)

-- the rules have these positionals from place p on
abbrev pub Places : List Rule → ℕ → List Text → Type 0
Places c p [] = Unit {0}
Places c p (id ∷ ids) = (arg_by_index c p ≡ Some (built_positional p id)) × (arg_by_id c id ≡ Some (built_positional p id))
    × (min (p + 1) 18446744073709551615 ≡ p + 1) × Places c (p + 1) ids

-- ---- names

abbrev is_long_as : Text → Option (Text × Option Text) → Bool
is_long_as name None = false
is_long_as name (Some p) = bytes_eq p.0 name && not (is_some p.1)

-- a text that may name an option
abbrev pub is_name : Text → Bool
is_name name = is_long_as name (long_of (dashed name)) && not (bytes_eq (dashed name) (45 ∷ 45 ∷ []))

not_some : (o : Option Text) → not (is_some o) ≡ true → o ≡ None
not_some None h = refl
not_some (Some x) h = cc

is_not : (b : Bool) → not b ≡ true → b ≡ false
is_not true h = cc
is_not false h = refl

name_is : (name : Text) → is_name name ≡ true → IsName name
name_is name h =
    let parts = both _ _ h in
    record { long = go (long_of (dashed name)) refl parts.0; other = is_not _ parts.1 }
  where
    go : (o : Option (Text × Option Text)) → long_of (dashed name) ≡ o → is_long_as name o ≡ true → long_of (dashed name) ≡ Some (name, None)
    go None e h = cc
    go (Some p) e h =
        let parts = both _ _ h in
        let first : p.0 ≡ name = (bytes_eq-Decides p.0 name).0 parts.0 in
        let second : p.1 ≡ None = not_some p.1 parts.1 in
        let pair : ◌≡◌ {A = Option (Text × Option Text)} (Some p) (Some (name, None)) = λ i. Some (first i, second i) in
        e ∙ pair

-- one of some names is a name
all_names : (names : List Text) (name : Text) → list_all is_name names ≡ true → has_text name names ≡ true → IsName name
all_names [] name h has = cc
all_names (x ∷ xs) name h has = go (bytes_eq x name) refl has (all_names xs name (both _ _ h).1)
  where
    go : (b : Bool) → bytes_eq x name ≡ b → (b || has_text name xs) ≡ true → (has_text name xs ≡ true → IsName name) → IsName name
    go true e has rest = subst IsName ((bytes_eq-Decides x name).0 e) (name_is x (both _ _ h).0)
    go false e has rest = rest has

-- no name of the first list is in the second
abbrev pub are_apart : List Text → List Text → Bool
are_apart names others = list_all (λ name. not (has_text name others)) names

pub apart_at : (names others : List Text) (name : Text) → are_apart names others ≡ true → has_text name names ≡ true → has_text name others ≡ false
apart_at [] others name h has = cc
apart_at (x ∷ xs) others name h has = go (bytes_eq x name) refl has (apart_at xs others name (both _ _ h).1)
  where
    go : (b : Bool) → bytes_eq x name ≡ b → (b || has_text name xs) ≡ true → (has_text name xs ≡ true → has_text name others ≡ false)
        → has_text name others ≡ false
    go true e has later = subst (λ y. has_text y others ≡ false) ((bytes_eq-Decides x name).0 e) (is_not _ (both _ _ h).0)
    go false e has later = later has

-- ---- finding an option

-- the first rule of this name, by any test that only the rule of that name passes
found_named : (make : Text → Rule) (test : Rule → Bool) (names : List Text) (rest : List Rule) (name : Text)
    → ((x : Text) → test (make x) ≡ bytes_eq x name) → has_text name names ≡ true
    → find test (map make names ++ rest) ≡ Some (make name)
found_named make test [] rest name is has = cc
found_named make test (x ∷ xs) rest name is has = go (bytes_eq x name) refl has (found_named make test xs rest name is)
  where
    go : (b : Bool) → bytes_eq x name ≡ b → (b || has_text name xs) ≡ true
        → (has_text name xs ≡ true → find test (map make xs ++ rest) ≡ Some (make name))
        → find test (map make (x ∷ xs) ++ rest) ≡ Some (make name)
    go true e has later = rw (is x, e) (ap (λ (y : Text). Some (make y)) ((bytes_eq-Decides x name).0 e))
    go false e has later = rw (is x, e) (later has)

-- no rule of other names passes such a test
none_named : (make : Text → Rule) (test : Rule → Bool) (names : List Text) (name : Text) → ((x : Text) → test (make x) ≡ bytes_eq x name)
    → has_text name names ≡ false → list_any test (map make names) ≡ false
none_named make test [] name is none = refl
none_named make test (x ∷ xs) name is none = go (bytes_eq x name) refl none (none_named make test xs name is)
  where
    go : (b : Bool) → bytes_eq x name ≡ b → (b || has_text name xs) ≡ false → (has_text name xs ≡ false → list_any test (map make xs) ≡ false)
        → list_any test (map make (x ∷ xs)) ≡ false
    go true e none later = cc
    go false e none later = rw (is x, e) (later none)

-- past those that fail the test
found_past : (test : Rule → Bool) (before rest : List Rule) (a : Rule) → list_any test before ≡ false → find test rest ≡ Some a
    → find test (before ++ rest) ≡ Some a
found_past test [] rest a none found = found
found_past test (x ∷ xs) rest a none found = go (test x) refl none (found_past test xs rest a)
  where
    go : (b : Bool) → test x ≡ b → (b || list_any test xs) ≡ false → (list_any test xs ≡ false → find test rest ≡ Some a → find test (xs ++ rest) ≡ Some a)
        → find test (x ∷ (xs ++ rest)) ≡ Some a
    go true e none later = cc
    go false e none later = rw e (later none found)

abbrev by_long : Text → Rule → Bool
by_long name a = not (is_some a.index) && has_long a name

abbrev by_id : Text → Rule → Bool
by_id name a = bytes_eq a.id name

or_false : (b : Bool) → (b || false) ≡ b
or_false true = refl
or_false false = refl

no_positional_long : (p : ℕ) (ids : List Text) (name : Text) → list_any (by_long name) (built_positionals p ids) ≡ false
no_positional_long p [] name = refl
no_positional_long p (id ∷ ids) name = no_positional_long (p + 1) ids name

no_positional_id : (p : ℕ) (ids : List Text) (name : Text) → has_text name ids ≡ false → list_any (by_id name) (built_positionals p ids) ≡ false
no_positional_id p [] name none = refl
no_positional_id p (id ∷ ids) name none = go (bytes_eq id name) refl none (no_positional_id (p + 1) ids name)
  where
    go : (b : Bool) → bytes_eq id name ≡ b → (b || has_text name ids) ≡ false
        → (has_text name ids ≡ false → list_any (by_id name) (built_positionals (p + 1) ids) ≡ false)
        → list_any (by_id name) (built_positionals p (id ∷ ids)) ≡ false
    go true e none later = cc
    go false e none later = rw e (later none)

pub serves : (l : Leaf) → list_all is_name l.options ≡ true → list_all is_name l.flags ≡ true → are_apart l.options l.positionals ≡ true
    → are_apart l.flags l.options ≡ true → Serves (built_rules l) l
serves l names flag_names apart flags_apart = record {
  name = λ name has. all_names l.options name names has;
  long = λ name has. found_past (by_long name) (built_positionals 1 l.positionals) _ _ (no_positional_long 1 l.positionals name)
      (found_named built_option (by_long name) l.options (map built_flag l.flags) name (λ x. or_false (bytes_eq x name)) has);
  id = λ name has. found_past (by_id name) (built_positionals 1 l.positionals) _ _
      (no_positional_id 1 l.positionals name (apart_at l.options l.positionals name apart has))
      (found_named built_option (by_id name) l.options (map built_flag l.flags) name (λ x. refl) has);
  flag_name = λ name has. all_names l.flags name flag_names has;
  flag_long = λ name has. found_past (by_long name) (built_positionals 1 l.positionals) _ _ (no_positional_long 1 l.positionals name)
      (found_past (by_long name) (map built_option l.options) _ _
      (none_named built_option (by_long name) l.options name (λ x. or_false (bytes_eq x name)) (apart_at l.flags l.options name flags_apart has))
      (subst (λ (rules : List Rule). find (by_long name) rules ≡ Some (built_flag name)) (append-nil (map built_flag l.flags))
      (found_named built_flag (by_long name) l.flags [] name (λ x. or_false (bytes_eq x name)) has)));
}

-- ---- the walk over some words

-- the walk over the words passes, and leaves these rows
pub record Ends (s : Shape) (w : Walk) (words : List Text) (rows : List Row) : Type 0 where
  pub held : Held
  pub position : ℕ
  pub walk_is : fold (walked s.rules []) w words ≡ between held position
  pub passes : walk_fault s [] w words ≡ []
  pub stands : Stands s held rows

one_word : (s : Shape) (w after : Walk) (word : Text) (words : List Text) (rows : List Row) → walked s.rules [] w word ≡ after
    → turn_fault s [] w word ≡ [] → Ends s after words rows → Ends s w (word ∷ words) rows
unfolding walk_fault
one_word s w after word words rows is fault rest = record {
  held = rest.held;
  position = rest.position;
  walk_is = ap (λ (v : Walk). fold (walked s.rules []) v words) is ∙ rest.walk_is;
  passes = ap₂ or_else fault (ap (λ (v : Walk). walk_fault s [] v words) is ∙ rest.passes);
  stands = rest.stands;
}

no_words : (s : Shape) (h : Held) (p : ℕ) (rows : List Row) → Stands s h rows → Ends s (between h p) [] rows
unfolding walk_fault
no_words s h p rows stands = record { held = h; position = p; walk_is = refl; passes = refl; stands = stands }

-- ---- names without a row

absent_more : (id : Text) (rows : List Row) (r : Row) → Absent id rows → bytes_eq r.id id ≡ false → Absent id (rows ++ r ∷ [])
absent_more id [] r h other = (other, tt)
absent_more id (x ∷ xs) r h other = (h.0, absent_more id xs r h.1 other)

-- none of the names has a row
abbrev pub AreAbsent : List Text → List Row → Type 0
AreAbsent names rows = (name : Text) → has_text name names ≡ true → Absent name rows

or_right : (a b : Bool) → b ≡ true → (a || b) ≡ true
or_right true b h = refl
or_right false b h = h

pub has_first : (name : Text) (names : List Text) → has_text name (name ∷ names) ≡ true
has_first name names = rw ((bytes_eq-Decides name name).1 refl) refl

pub has_later : (other name : Text) (names : List Text) → has_text other names ≡ true → has_text other (name ∷ names) ≡ true
has_later other name names has = or_right (bytes_eq name other) _ has

first_absent : (name : Text) (names : List Text) (rows : List Row) → AreAbsent (name ∷ names) rows → Absent name rows
first_absent name names rows absent = absent name (has_first name names)

-- the others, once the first has its row
rest_absent : (name value : Text) (names : List Text) (rows : List Row) → has_text name names ≡ false → AreAbsent (name ∷ names) rows
    → AreAbsent names (rows ++ given_row (name, value) ∷ [])
rest_absent name value names rows once absent = λ other has.
    absent_more other rows (given_row (name, value)) (absent other (has_later other name names has)) (go other (bytes_eq name other) refl has)
  where
    go : (other : Text) (b : Bool) → bytes_eq name other ≡ b → has_text other names ≡ true → bytes_eq name other ≡ false
    go other false e has = e
    go other true e has =
        let none : has_text other names ≡ false = subst (λ (x : Text). has_text x names ≡ false) ((bytes_eq-Decides name other).0 e) once in
        cc

-- ---- the options and flags, and before them the positionals

pub uses_end : (s : Shape) (l : Leaf) → Serves s.rules l → (uses : List Use) (h : Held) (p : ℕ) (rows : List Row)
    → list_all (is_use_of l) uses ≡ true → are_distinct (names_in uses) ≡ true
    → list_all is_plain_word (values_in uses) ≡ true → AreAbsent (names_in uses) rows → Stands s h rows
    → Ends s (between h p) (flat_map use_words uses) (rows ++ map given_row (map given_by uses))
uses_end s l serves [] h p rows known once plain absent stands =
    subst (Ends s (between h p) []) (sym (append-nil rows)) (no_words s h p rows stands)
uses_end s l serves (valued name value ∷ uses) h p rows known once plain absent stands =
    let has = (both _ _ known).0 in
    let word = plain_word_is value (both _ _ plain).0 in
    let fresh = is_not _ (both _ _ once).0 in
    let rest = uses_end s l serves uses (with_value s.rules name value h) p (rows ++ given_row (name, value) ∷ [])
    (both _ _ known).1 (both _ _ once).1 (both _ _ plain).1 (rest_absent name value (names_in uses) rows fresh absent)
    (stands_option s name value h rows (serves.id name has) (first_absent name (names_in uses) rows absent) stands) in
    subst (Ends s (between h p) (flat_map use_words (valued name value ∷ uses))) (append_assoc rows (given_row (name, value) ∷ []) (map given_row (map given_by uses)))
    (one_word s (between h p) (within_option s.rules name h p) (dashed name) (value ∷ flat_map use_words uses) _
    (option_first s.rules name h p (serves.name name has) (serves.long name has))
    (option_first_fault s name h p (serves.name name has) (serves.long name has) ∙ stands.passes)
    (one_word s (within_option s.rules name h p) (between (with_value s.rules name value h) p) value (flat_map use_words uses) _
    (option_second s.rules name value h p word (serves.id name has))
    (option_second_fault s name value h p word) rest))
uses_end s l serves (flagged name ∷ uses) h p rows known once plain absent stands =
    let has = (both _ _ known).0 in
    let fresh = is_not _ (both _ _ once).0 in
    let new = first_absent name (names_in uses) rows absent in
    let rest = uses_end s l serves uses (reacted s.rules (built_flag name) [] h) p (rows ++ given_row (name, codes "true") ∷ [])
    (both _ _ known).1 (both _ _ once).1 plain (rest_absent name (codes "true") (names_in uses) rows fresh absent)
    (stands_flag s name h rows new stands) in
    subst (Ends s (between h p) (flat_map use_words (flagged name ∷ uses))) (append_assoc rows (given_row (name, codes "true") ∷ []) (map given_row (map given_by uses)))
    (one_word s (between h p) (between (reacted s.rules (built_flag name) [] h) p) (dashed name) (flat_map use_words uses) _
    (flag_step s.rules name h p (serves.flag_name name has) (serves.flag_long name has))
    (flag_passes s name h p rows (serves.flag_name name has) (serves.flag_long name has) new stands) rest)

one_less : (xs ys : List Text) → suc (length xs) ≡ suc (length ys) → length xs ≡ length ys
one_less xs ys same = omega (arith, same)

pub line_end : (s : Shape) (l : Leaf) → Serves s.rules l → (uses : List Use) (ids words : List Text) (h : Held) (p : ℕ) (rows : List Row)
    → Places s.rules p ids → length words ≡ length ids → list_all is_plain_word words ≡ true
    → list_all (is_use_of l) uses ≡ true → are_distinct (ids ++ names_in uses) ≡ true
    → list_all is_plain_word (values_in uses) ≡ true → AreAbsent (ids ++ names_in uses) rows → Stands s h rows
    → Ends s (between h p) (words ++ flat_map use_words uses) (rows ++ map given_row (zip ids words ++ map given_by uses))
line_end s l serves uses [] [] h p rows places same plain_words known once plain absent stands =
    uses_end s l serves uses h p rows known once plain absent stands
line_end s l serves uses [] (w ∷ ws) h p rows places same plain_words known once plain absent stands = absurd (omega (arith, same))
line_end s l serves uses (id ∷ ids) [] h p rows places same plain_words known once plain absent stands = absurd (omega (arith, same))
line_end s l serves uses (id ∷ ids) (w ∷ ws) h p rows places same plain_words known once plain absent stands =
    let word = plain_word_is w (both _ _ plain_words).0 in
    let fresh = is_not _ (both _ _ once).0 in
    let later : length ws ≡ length ids = one_less ws ids same in
    let rest = line_end s l serves uses ids ws (with_value s.rules id w h) (p + 1) (rows ++ given_row (id, w) ∷ [])
    places.3 later (both _ _ plain_words).1 known (both _ _ once).1 plain (rest_absent id w (ids ++ names_in uses) rows fresh absent)
    (stands_positional s id w p h rows places.1 (first_absent id (ids ++ names_in uses) rows absent) stands) in
    subst (Ends s (between h p) (w ∷ (ws ++ flat_map use_words uses))) (append_assoc rows (given_row (id, w) ∷ []) (map given_row (zip ids ws ++ map given_by uses)))
    (one_word s (between h p) (between (with_value s.rules id w h) (p + 1)) w (ws ++ flat_map use_words uses) _
    (positional_step s.rules id w h p (p + 1) word places.0 places.2)
    (positional_fault s id w h p word places.0 ∙ stands.passes) rest)

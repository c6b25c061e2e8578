-- What a simple command makes of plain words, one option at a time.
use Rattle.std.proofs.Common.{◌≡◌, ◌∙◌, ◌&&◌, ◌==◌, ◌+◌, ℕ, Bool, true, false, not, List, [], ◌∷◌, ◌++◌, map, refl, ap, sym, Some, None, codes}
use Rattle.std.specs.Prelude.{min}
use Rattle.std.specs.Str.{bytes_eq}
use Rattle.std.proofs.lemmas.Slice.Eq.{bytes_eq-Decides}
use Rattle.std.proofs.lemmas.List.{append-nil}
use Rattle.clap.specs.Lexer.{long_of, short_of}
use Rattle.clap.specs.Walk.{Held, Row, Rule, Text, Walk, idle, option, arg_by_id, arg_by_index, arg_by_long, at_row, first_of, has_row, more_values, reacted, settled, settled_rows, walked, with_values, without}
use Rattle.clap.specs.Simple.{Shape, filled, with_index}
use Rattle.clap.specs.Faults.{settle_fault, turn_fault, use_fault}
use Rattle.clap.specs.Kinds.{Kinds, or_else}
use Rattle.clap.specs.declared.parser.ValueSource.TheVariants.{CommandLine}
use Rattle.clap.specs.declared.builder.value_parser.Reading.TheVariants as reading
use Rattle.diva_args.specs.Command.{flag_rule, option_rule, positional_rule}
use Rattle.diva_args.specs.Plain.{dashed, is_plain_word}
use Rattle.diva_args.specs.Values.{named}

-- ---- arguments of a built command

abbrev pub built_option : Text → Rule
built_option name = with_index 0 (filled (option_rule name))

abbrev pub built_flag : Text → Rule
built_flag name = with_index 0 (filled (flag_rule name))

abbrev pub built_positional : ℕ → Text → Rule
built_positional i id = with_index i (filled (positional_rule id))

-- ---- words

-- what makes a text the name of an option
pub record IsName (name : Text) : Type 0 where
  pub long : long_of (dashed name) ≡ Some (name, None)
  pub other : bytes_eq (dashed name) (45 ∷ 45 ∷ []) ≡ false

pub record IsPlainWord (word : Text) : Type 0 where
  pub long : long_of word ≡ None
  pub short : short_of word ≡ None
  pub other : bytes_eq word (45 ∷ 45 ∷ []) ≡ false

pub plain_word_is : (word : Text) → is_plain_word word ≡ true → IsPlainWord word
plain_word_is [] h = cc
plain_word_is (x ∷ xs) h = go (x == 45) refl h
  where
    go : (b : Bool) → (x == 45) ≡ b → not b ≡ true → IsPlainWord (x ∷ xs)
    go true e h = cc
    go false e h = record { long = rw e refl; short = rw e refl; other = rw e refl }

same_text : (text : Text) → bytes_eq text text ≡ true
same_text text = (bytes_eq-Decides text text).1 refl

-- ---- where the walk stands

abbrev pub between : Held → ℕ → Walk
between h p = record { held = h; waiting = idle; position = p; is_trailing = false; stopped = None }

-- the walk between the two words of an option
abbrev pub within_option : List Rule → Text → Held → ℕ → Walk
within_option c name h p = record {
  held = record { rows = settled_rows c h.pending h.rows; pending = Some (name, []); skip = h.skip };
  waiting = option name;
  position = p;
  is_trailing = false;
  stopped = None;
}

-- what is held after a value
abbrev pub with_value : List Rule → Text → Text → Held → Held
with_value c id value h = record { rows = settled_rows c h.pending h.rows; pending = Some (id, value ∷ []); skip = h.skip }

pub option_first : (c : List Rule) (name : Text) (h : Held) (p : ℕ) → IsName name → arg_by_long c name ≡ Some (built_option name)
    → walked c [] (between h p) (dashed name) ≡ within_option c name h p
unfolding walked
option_first c name h p is by_long = rw (is.other, is.long, by_long) refl

pub option_second : (c : List Rule) (name value : Text) (h : Held) (p : ℕ) → IsPlainWord value → arg_by_id c name ≡ Some (built_option name)
    → walked c [] (within_option c name h p) value ≡ between (with_value c name value h) p
unfolding walked
option_second c name value h p is by_id = rw (is.other, is.long, is.short, by_id, same_text name) refl

pub flag_step : (c : List Rule) (name : Text) (h : Held) (p : ℕ) → IsName name → arg_by_long c name ≡ Some (built_flag name)
    → walked c [] (between h p) (dashed name) ≡ between (reacted c (built_flag name) [] h) p
unfolding walked
flag_step c name h p is by_long = rw (is.other, is.long, by_long) refl

and_false : (b : Bool) → (b && false) ≡ false
and_false true = refl
and_false false = refl

pub positional_step : (c : List Rule) (id word : Text) (h : Held) (p next : ℕ) → IsPlainWord word → arg_by_index c p ≡ Some (built_positional p id)
    → min (p + 1) 18446744073709551615 ≡ next
    → walked c [] (between h p) word ≡ between (with_value c id word h) next
unfolding walked
positional_step c id word h p next is by_index after = rw (is.other, is.long, is.short, by_index, and_false, after) refl

-- ---- faults of a step

pub or_else_none : (kinds : Kinds) → or_else kinds [] ≡ kinds
or_else_none [] = refl
or_else_none (k ∷ ks) = refl

pub option_first_fault : (s : Shape) (name : Text) (h : Held) (p : ℕ) → IsName name → arg_by_long s.rules name ≡ Some (built_option name)
    → turn_fault s [] (between h p) (dashed name) ≡ settle_fault s.rules s.args_override_self h
option_first_fault s name h p is by_long = rw (is.other, is.long, by_long, or_else_none) refl

pub option_second_fault : (s : Shape) (name value : Text) (h : Held) (p : ℕ) → IsPlainWord value
    → turn_fault s [] (within_option s.rules name h p) value ≡ []
option_second_fault s name value h p is = rw (is.other, is.long, is.short) refl

flag_fault : (s : Shape) (name : Text) (h : Held) (p : ℕ) → IsName name → arg_by_long s.rules name ≡ Some (built_flag name)
    → turn_fault s [] (between h p) (dashed name)
    ≡ or_else (settle_fault s.rules s.args_override_self h) (use_fault s.args_override_self (built_flag name) [] (settled s.rules h).rows)
flag_fault s name h p is by_long = rw (is.other, is.long, by_long, or_else_none) refl

pub positional_fault : (s : Shape) (id word : Text) (h : Held) (p : ℕ) → IsPlainWord word → arg_by_index s.rules p ≡ Some (built_positional p id)
    → turn_fault s [] (between h p) word ≡ settle_fault s.rules s.args_override_self h
positional_fault s id word h p is by_index = rw (is.other, is.long, is.short, by_index, and_false) refl

-- ---- rows

abbrev pub given_row : Text × Text → Row
given_row g = record { id = g.0; values = g.1 ∷ []; count = None; source = Some CommandLine; reading = reading.AsWritten }

-- no row has the id
abbrev pub Absent : Text → List Row → Type 0
Absent id [] = Unit {0}
Absent id (r ∷ rs) = (bytes_eq r.id id ≡ false) × Absent id rs

pub at_absent : (id : Text) (change : Row → List Row) (missing rows : List Row) → Absent id rows → at_row id change missing rows ≡ rows ++ missing
at_absent id change missing [] h = refl
at_absent id change missing (r ∷ rs) h = rw h.0 (ap (λ x. r ∷ x) (at_absent id change missing rs h.1))

no_row : (id : Text) (rows : List Row) → Absent id rows → has_row id rows ≡ false
no_row id [] h = refl
no_row id (r ∷ rs) h = rw h.0 (no_row id rs h.1)

new_values : (id value : Text) (rows : List Row) → Absent id rows
    → with_values id reading.AsWritten CommandLine (value ∷ []) (without id rows) ≡ rows ++ given_row (id, value) ∷ []
new_values id value rows h =
    let same : without id rows ≡ rows = at_absent id (λ _. []) [] rows h ∙ append-nil rows in
    rw same (at_absent id (more_values CommandLine (value ∷ [])) (given_row (id, value) ∷ []) rows h)

-- ---- what is held, by what was given

pub record Stands (s : Shape) (h : Held) (rows : List Row) : Type 0 where
  pub rows_are : settled_rows s.rules h.pending h.rows ≡ rows
  pub passes : settle_fault s.rules s.args_override_self h ≡ []

pub stands_option : (s : Shape) (name value : Text) (h : Held) (rows : List Row) → arg_by_id s.rules name ≡ Some (built_option name)
    → Absent name rows → Stands s h rows → Stands s (with_value s.rules name value h) (rows ++ given_row (name, value) ∷ [])
stands_option s name value h rows by_id new before = record {
  rows_are = rw (by_id, before.rows_are) (new_values name value rows new);
  passes = rw (by_id, before.rows_are, no_row name rows new) refl;
}

pub stands_positional : (s : Shape) (id value : Text) (i : ℕ) (h : Held) (rows : List Row) → arg_by_id s.rules id ≡ Some (built_positional i id)
    → Absent id rows → Stands s h rows → Stands s (with_value s.rules id value h) (rows ++ given_row (id, value) ∷ [])
stands_positional s id value i h rows by_id new before = record {
  rows_are = rw (by_id, before.rows_are) (new_values id value rows new);
  passes = rw (by_id, before.rows_are, no_row id rows new) refl;
}

pub stands_flag : (s : Shape) (name : Text) (h : Held) (rows : List Row) → Absent name rows → Stands s h rows
    → Stands s (reacted s.rules (built_flag name) [] h) (rows ++ given_row (name, codes "true") ∷ [])
stands_flag s name h rows new before = record {
  rows_are = rw before.rows_are (new_values name (codes "true") rows new);
  passes = refl;
}

pub flag_passes : (s : Shape) (name : Text) (h : Held) (p : ℕ) (rows : List Row) → IsName name → arg_by_long s.rules name ≡ Some (built_flag name)
    → Absent name rows → Stands s h rows → turn_fault s [] (between h p) (dashed name) ≡ []
flag_passes s name h p rows is by_long new stands =
    flag_fault s name h p is by_long ∙ rw (stands.passes, stands.rows_are, no_row name rows new) refl

-- either text can be compared with the other
flipped : (xs ys : Text) → bytes_eq xs ys ≡ bytes_eq ys xs
flipped xs ys = go (bytes_eq xs ys) refl (bytes_eq ys xs) refl
  where
    go : (a : Bool) → bytes_eq xs ys ≡ a → (b : Bool) → bytes_eq ys xs ≡ b → bytes_eq xs ys ≡ bytes_eq ys xs
    go true e b f = e ∙ sym ((bytes_eq-Decides ys xs).1 (sym ((bytes_eq-Decides xs ys).0 e)))
    go false e true f =
        let same : bytes_eq xs ys ≡ true = (bytes_eq-Decides xs ys).1 (sym ((bytes_eq-Decides ys xs).0 f)) in
        cc
    go false e false f = e ∙ sym f

-- the rows of what was given give it back
pub first_given : (gs : List (Text × Text)) (id : Text) → first_of id (map given_row gs) ≡ named gs id
first_given [] id = refl
first_given (g ∷ gs) id = go (bytes_eq g.0 id) refl (first_given gs id)
  where
    go : (b : Bool) → bytes_eq g.0 id ≡ b → first_of id (map given_row gs) ≡ named gs id
        → first_of id (given_row g ∷ map given_row gs) ≡ named (g ∷ gs) id
    go true e rest = rw (flipped id g.0, e) refl
    go false e rest = rw (flipped id g.0, e) rest

-- The end of a plain line at its command: its faults, and the values that it gives.
use Rattle.std.proofs.Common.{◌≡◌, ◌∙◌, ◌&&◌, ◌||◌, ◌+◌, ℕ, Bool, true, false, not, List, [], ◌∷◌, ◌++◌, length, map, refl, ap, sym, subst, Some, arith}
use Rattle.std.specs.Prelude.{find, fold, if◌then◌else◌}
use Rattle.std.specs.List.{list_any, zip}
use Rattle.std.specs.Str.{bytes_eq}
use Rattle.clap.specs.Walk.{Row, Rule, Text, Walk, answers_to, has_row, nothing_held, rows_after, walk, walk_from, walked, with_default}
use Rattle.clap.specs.Simple.{App, Shape, entered, label_of, names_of, new_shape}
use Rattle.clap.specs.Takes.{is_given}
use Rattle.clap.specs.Faults.{built_fault, check_fault, default_fault, defaults_fault, level_fault, turn_fault, walk_fault}
use Rattle.clap.proofs.WalkLemmas.{walk_stopped}
use Rattle.clap.proofs.FaultLemmas.{stopped_fault}
use Rattle.diva_args.specs.Plain.{has_text}
use Rattle.diva_args.specs.Command.{Leaf}
use Rattle.diva_args.proofs.PlainSteps.{built_option, given_row, or_else_none}
use Rattle.diva_args.proofs.PlainFlags.{flags_pass_defaults, given_kept, with_flags}
use Rattle.diva_args.proofs.PlainOptions.{Ends, Given, built_positionals, built_rules, built_uses, has_first, has_later}

-- ---- no positional and no option has a default

abbrev pub NoDefaults : List Rule → Type 0
NoDefaults [] = Unit {0}
NoDefaults (a ∷ rest) = (a.defaults ≡ []) × NoDefaults rest

options_none : (names : List Text) → NoDefaults (map built_option names)
options_none [] = tt
options_none (x ∷ xs) = (refl, options_none xs)

positionals_none : (p : ℕ) (ids : List Text) → NoDefaults (built_positionals p ids)
positionals_none p [] = tt
positionals_none p (id ∷ ids) = (refl, positionals_none (p + 1) ids)

no_default : (rows : List Row) (a : Rule) → a.defaults ≡ [] → with_default rows a ≡ rows
no_default rows a none = rw none (go (has_row a.id rows))
  where
    go : (b : Bool) → (if b then rows else rows) ≡ rows
    go true = refl
    go false = refl

fold_none : (rules rest : List Rule) (rows : List Row) → NoDefaults rules → fold with_default rows (rules ++ rest) ≡ fold with_default rows rest
fold_none [] rest rows h = refl
fold_none (a ∷ more) rest rows h = ap (λ rs. fold with_default rs (more ++ rest)) (no_default rows a h.0) ∙ fold_none more rest rows h.1

fold_rules : (l : Leaf) (rows : List Row) → fold with_default rows (built_rules l) ≡ with_flags l.flags rows
fold_rules l rows =
    fold_none (built_positionals 1 l.positionals) _ rows (positionals_none 1 l.positionals)
    ∙ fold_none (map built_option l.options) _ rows (options_none l.options)

or_true : (b : Bool) → (b || true) ≡ true
or_true true = refl
or_true false = refl

no_default_fault : (rows : List Row) (a : Rule) → a.defaults ≡ [] → default_fault rows a ≡ []
no_default_fault rows a none = rw (none, or_true (has_row a.id rows)) refl

past_none : (rules rest : List Rule) (rows : List Row) → NoDefaults rules → ((others : List Row) → defaults_fault others rest ≡ []) → defaults_fault rows (rules ++ rest) ≡ []
unfolding defaults_fault
past_none [] rest rows h passes = passes rows
past_none (a ∷ more) rest rows h passes = rw (no_default_fault rows a h.0) (past_none more rest (with_default rows a) h.1 passes)

defaults_pass : (l : Leaf) (rows : List Row) → defaults_fault rows (built_rules l) ≡ []
defaults_pass l rows =
    past_none (built_positionals 1 l.positionals) _ rows (positionals_none 1 l.positionals)
    (λ others. past_none (map built_option l.options) _ others (options_none l.options) (flags_pass_defaults l.flags))

-- ---- every positional is given

abbrev lacks : List Row → Rule → Bool
lacks rows a = a.required && not (is_given a.id rows)

uses_lack_none : (rows : List Row) (options flags : List Text) → list_any (lacks rows) (built_uses options flags) ≡ false
uses_lack_none rows [] [] = refl
uses_lack_none rows [] (x ∷ xs) = uses_lack_none rows [] xs
uses_lack_none rows (x ∷ xs) flags = uses_lack_none rows xs flags

given_row_is_given : (gs : Given) (id : Text) → has_text id (map (λ g. g.0) gs) ≡ true → is_given id (map given_row gs) ≡ true
given_row_is_given [] id has = cc
given_row_is_given (g ∷ gs) id has = go (bytes_eq g.0 id) refl has (given_row_is_given gs id)
  where
    go : (b : Bool) → bytes_eq g.0 id ≡ b → (b || has_text id (map (λ g. g.0) gs)) ≡ true
        → (has_text id (map (λ g. g.0) gs) ≡ true → is_given id (map given_row gs) ≡ true)
        → is_given id (given_row g ∷ map given_row gs) ≡ true
    go true e has later = rw e refl
    go false e has later = rw e (later has)

zipped : (ids words : List Text) (options : Given) (id : Text) → length words ≡ length ids → has_text id ids ≡ true
    → has_text id (map (λ g. g.0) (zip ids words ++ options)) ≡ true
zipped [] words options id same has = cc
zipped (x ∷ xs) [] options id same has = absurd (omega (arith, same))
zipped (x ∷ xs) (w ∷ ws) options id same has =
    let later : length ws ≡ length xs = omega (arith, same) in
    go (bytes_eq x id) has (zipped xs ws options id later)
  where
    go : (b : Bool) → (b || has_text id xs) ≡ true → (has_text id xs ≡ true → has_text id (map (λ g. g.0) (zip xs ws ++ options)) ≡ true)
        → (b || has_text id (map (λ g. g.0) (zip xs ws ++ options))) ≡ true
    go true has rest = refl
    go false has rest = rest has

lack_none : (rows : List Row) (p : ℕ) (ids options flags : List Text) → ((id : Text) → has_text id ids ≡ true → is_given id rows ≡ true)
    → list_any (lacks rows) (built_positionals p ids ++ built_uses options flags) ≡ false
lack_none rows p [] options flags given = uses_lack_none rows options flags
lack_none rows p (id ∷ ids) options flags given =
    rw (given id (has_first id ids)) (lack_none rows (p + 1) ids options flags (λ other has. given other (has_later other id ids has)))

-- ---- the command's own words

-- a built command
abbrev pub built_shape : Leaf → Shape
built_shape l = record (new_shape l.name) {
  rules = built_rules l;
  no_binary_name = true;
  disable_help_flag = true;
  disable_help_subcommand = true;
  is_built = true;
}

-- the command passes the words, and finds these rows and those of the flags that were not used
pub record PlainLevel (l : Leaf) (words : List Text) (rows : List Row) : Type 0 where
  pub passes : level_fault (built_shape l) [] nothing_held words false [] ≡ []
  pub rows_are : rows_after (built_rules l) [] words ≡ with_flags l.flags rows

level_of : (l : Leaf) (words : List Text) (rows : List Row) → check_fault (built_shape l) (with_flags l.flags rows) false ≡ []
    → Ends (built_shape l) (walk_from nothing_held) words rows → PlainLevel l words rows
level_of l words rows check e =
    let same = fold_rules l rows in
    let checked : check_fault (built_shape l) (fold with_default rows (built_rules l)) false ≡ [] = subst (λ (rs : List Row). check_fault (built_shape l) rs false ≡ []) (sym same) check in
    record {
      passes = rw (e.passes, e.walk_is, e.stands.passes, e.stands.rows_are, defaults_pass l rows, checked) refl;
      rows_are = rw (e.walk_is, e.stands.rows_are) same;
    }

pub plain_level : (l : Leaf) (words positionals : List Text) (given : Given) → length positionals ≡ length l.positionals
    → Ends (built_shape l) (walk_from nothing_held) words (map given_row (zip l.positionals positionals ++ given))
    → PlainLevel l words (map given_row (zip l.positionals positionals ++ given))
plain_level l words positionals given same e =
    let gs = zip l.positionals positionals ++ given in
    let none = lack_none (with_flags l.flags (map given_row gs)) 1 l.positionals l.options l.flags
    (λ id has. given_kept l.flags (map given_row gs) id (given_row_is_given gs id (zipped l.positionals positionals given id same has))) in
    level_of l words (map given_row gs) (rw none refl) e

-- ---- the top

-- the built command line goes on at this command by its name
pub record Enters (a : App) (name : Text) (s : Shape) : Type 0 where
  pub walk_is : walked a.top.rules (names_of a) (walk_from nothing_held) name ≡ record (walk_from nothing_held) { stopped = Some (name, []) }
  pub turn : turn_fault a.top (names_of a) (walk_from nothing_held) name ≡ []
  pub sub : find (λ x. answers_to name (label_of x)) a.subs ≡ Some s
  pub label : s.name ≡ name
  pub bare : a.top.rules ≡ []
  pub negates : a.top.subcommand_negates_reqs ≡ false

stopped_walk : (a : App) (name : Text) (s : Shape) (rest : List Text) → Enters a name s
    → fold (walked a.top.rules (names_of a)) (walked a.top.rules (names_of a) (walk_from nothing_held) name) rest
    ≡ record (walk_from nothing_held) { stopped = Some (name, rest) }
stopped_walk a name s rest e =
    ap (λ (v : Walk). fold (walked a.top.rules (names_of a)) v rest) e.walk_is
    ∙ sym (walk_stopped a.top.rules (names_of a) (walk_from nothing_held) name [] rest)

-- the fault of a line is that of its command
pub entered_fault_is : (a : App) (name : Text) (s : Shape) (rest : List Text) → Enters a name s
    → built_fault a nothing_held (name ∷ rest) ≡ level_fault s [] nothing_held rest false []
unfolding walk_fault defaults_fault
entered_fault_is a name s rest e =
    rw (stopped_walk a name s rest e, e.sub, e.turn, e.walk_is, stopped_fault a.top (names_of a) (walk_from nothing_held) (name, []) rest, e.bare, e.negates, or_else_none) refl

pub entered_rows : (a : App) (name : Text) (s : Shape) (rest : List Text) → Enters a name s
    → entered a (walk a.top.rules (names_of a) nothing_held (name ∷ rest)).stopped ≡ Some (name, rows_after s.rules [] rest)
entered_rows a name s rest e = rw (stopped_walk a name s rest e, e.sub, e.label) refl

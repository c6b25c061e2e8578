-- How a subcommand is put together.
use Rattle.std.proofs.Common.{◌≡◌, ◌<◌, ◌+◌, ◌||◌, ℕ, List, [], ◌∷◌, ◌++◌, false, length, take, map, refl, ap₂, sym, subst, ◌∙◌, Bor}
use Rattle.std.specs.List.{slice_index_or}
use Rattle.std.proofs.lemmas.List.{append_assoc, map-append, take_more}
use Rattle.clap.specs.Walk.{Rule, Text, rule_of, texts}
use Rattle.clap.specs.Simple.{App, app_of, new_shape, with_rule, with_subcommand}
use Rattle.clap.specs.Built.{AddsArg}
use Rattle.diva_args.specs.Command.{Leaf, leaf_shape, with_subcommands}
use Rattle.diva_args.specs.Table.{leaf_of}
use Rattle.diva_args.specs.declared.command.Leaf.{Leaf as RowOfTable}
use Rattle.clap.specs.declared.builder.Arg.{Arg}
use Rattle.clap.specs.declared.builder.Command.{Command}
use Rattle.clap.specs.declared.builder.Command.TheViews.{out-Command as fields_of}

-- a command with these rules, and no subcommand
abbrev pub with_rules : Text → List Rule → App
with_rules name rules = record { top = record (new_shape name) { rules = rules }; subs = [] }

-- what the loops of `subcommand` keep
pub record HasRules (command : Command) (name : Text) (rules : List Rule) : Type 0 where
  pub app : app_of command ≡ with_rules name rules
  pub local : (fields_of command).has_globals ≡ false

-- one more argument
pub one_more : (old new : Command) (a : Arg) (r : Rule) (name : Text) (rules : List Rule) → AddsArg old a new
    → rule_of a ≡ r → a.global ≡ false → HasRules old name rules → HasRules new name (rules ++ r ∷ [])
one_more old new a r name rules added is local before = record {
  app = added.shape local ∙ ap₂ with_rule before.app is;
  local = added.globals ∙ ap₂ (λ x y. x || y) before.local local;
}

-- the rules after one more step of a loop over the ids
pub rules_more : (f : Text → Rule) (before : List Rule) (xs : List (Bor Text)) (i : ℕ) (d : Bor Text) → i < length xs
    → before ++ map f (texts (take (i + 1) xs)) ≡ (before ++ map f (texts (take i xs))) ++ f (slice_index_or xs i d).now ∷ []
rules_more f before xs i d lt = rw (take_more xs i d lt, map-append, map-append, append_assoc) refl

-- one more step of such a loop
pub loop_more : (f : Text → Rule) (before : List Rule) (xs : List (Bor Text)) (i : ℕ) (d : Bor Text) (old new : Command) (a : Arg) (name : Text)
    → AddsArg old a new → rule_of a ≡ f (slice_index_or xs i d).now → a.global ≡ false → i < length xs
    → HasRules old name (before ++ map f (texts (take i xs))) → HasRules new name (before ++ map f (texts (take (i + 1) xs)))
loop_more f before xs i d old new a name added is local lt now =
    subst (HasRules new name) (sym (rules_more f before xs i d lt)) (one_more old new a _ name _ added is local now)

-- one more subcommand
subcommands-push : (a : App) (xs : List Leaf) (l : Leaf) → with_subcommand (with_subcommands a xs) (leaf_shape l) ≡ with_subcommands a (xs ++ l ∷ [])
subcommands-push a [] l = refl
subcommands-push a (x ∷ xs) l = subcommands-push (with_subcommand a (leaf_shape x)) xs l

pub leaf_more : (a : App) (xs : List RowOfTable) (i : ℕ) (d : RowOfTable) → i < length xs
    → with_subcommand (with_subcommands a (map leaf_of (take i xs))) (leaf_shape (leaf_of (slice_index_or xs i d)))
    ≡ with_subcommands a (map leaf_of (take (i + 1) xs))
leaf_more a xs i d lt = rw (take_more xs i d lt, map-append) (subcommands-push a (map leaf_of (take i xs)) (leaf_of (slice_index_or xs i d)))

-- the commands of one table and then those of another are those of both
pub subcommands_append : (a : App) (xs ys : List Leaf) → with_subcommands (with_subcommands a xs) ys ≡ with_subcommands a (xs ++ ys)
subcommands_append a [] ys = refl
subcommands_append a (x ∷ xs) ys = subcommands_append (with_subcommand a (leaf_shape x)) xs ys

-- From what `clap` says of the words to the line.
use Rattle.std.proofs.Common.{◌≡◌, ◌∙◌, List, [], ◌∷◌, true, refl, ap, sym, subst, inl, inr, None}
use Rattle.std.specs.Prelude.{Option}
use Rattle.clap.specs.Walk.{Row, Text}
use Rattle.clap.specs.Simple.{App, HasMatchesOf, built, is_simple, subcommand_of, subcommand_rows_of}
use Rattle.clap.specs.Faults.{fault_of, is_free_app, is_simple_and_free}
use Rattle.clap.specs.Kinds.{HasKind, IsAmong, Kinds}
use Rattle.clap.specs.Values.{kind_of}
use Rattle.clap.specs.declared.error.Error.{Error}
use Rattle.clap.specs.declared.error.ErrorKind.{ErrorKind}
use Rattle.clap.specs.declared.error.ErrorKind.TheVariants.{OutOfMemory}
use Rattle.clap.specs.declared.parser.ArgMatches.{ArgMatches}
use Rattle.clap.proofs.WalkLemmas.{both}
use Rattle.diva_args.specs.Command.{IsExact, Leaf, app_with, leaves}
use Rattle.diva_args.specs.Fault.{fault_from}
use Rattle.diva_args.specs.Line.{taken, unless}
use Rattle.diva_args.specs.declared.fault.ArgsFault.TheVariants.{Usage, Memory}

-- the commands of `diva` are such a table
pub diva_is_exact : IsExact leaves
unfolding app_with
diva_is_exact = refl

-- an `Ok` has the matches of the line
pub taken_ok : (table : List Leaf) (a : App) (words : List Text) (m : ArgMatches) → IsExact table → a ≡ app_with table → HasMatchesOf a words m
    → fault_of a words ≡ [] → taken table words ≡ subcommand_rows_of m
unfolding taken
taken_ok table a words m exact is has free =
    let simple : is_simple (app_with table) ≡ true = (both (is_simple (app_with table)) (is_free_app (built (app_with table))) exact).0 in
    let none : fault_of (app_with table) words ≡ [] = subst (λ (x : App). fault_of x words ≡ []) is free in
    let found : subcommand_rows_of m ≡ subcommand_of (app_with table) words =
    (has (subst (λ (x : App). is_simple x ≡ true) (sym is) simple)).1 ∙ ap (λ (x : App). subcommand_of x words) is in
    rw none (sym found)

-- an error other than out of memory comes only where the line has a fault
some_kind : (kinds : Kinds) (k : ErrorKind) (found : Option (Text × List Row)) → IsAmong k kinds
    → unless kinds found ≡ None
some_kind [] k found h = absurd h
some_kind (x ∷ xs) k found h = refl

no_usage : (k : ErrorKind) → k ≡ OutOfMemory → fault_from k ≡ Usage → ⊥
no_usage k e u =
    let bad : Memory ≡ Usage = subst (λ (x : ErrorKind). fault_from x ≡ Usage) e u in
    cc

pub taken_err : (table : List Leaf) (a : App) (words : List Text) (e : Error) → a ≡ app_with table → HasKind (fault_of a words) e
    → fault_from (kind_of e) ≡ Usage → taken table words ≡ None
unfolding taken
taken_err table a words e is has usage =
    let here : HasKind (fault_of (app_with table) words) e = subst (λ (x : App). HasKind (fault_of x words) e) is has in
    elim here [
      | inl memory ↦ absurd (no_usage (kind_of e) memory usage)
      | inr among ↦ some_kind (fault_of (app_with table) words) (kind_of e) (subcommand_of (app_with table) words) among
    ]

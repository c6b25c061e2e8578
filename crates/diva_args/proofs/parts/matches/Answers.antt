-- What `clap` promises of a simple command, for that of the table.
use Rattle.std.proofs.Common.{◌≡◌, sym, subst, true}
use Rattle.clap.specs.Simple.{App, app_of}
use Rattle.clap.specs.Faults.{is_simple_and_free}
use Rattle.clap.specs.Values.{kind_of}
use Rattle.diva_args.specs.Fault.{fault_from}
use Rattle.diva_args.specs.declared.fault.ArgsFault.TheVariants.{Usage}
use Rattle.diva_args.proofs.ReadLemmas.{taken_err, taken_ok}
use Rattle.diva_args.proofs.parts.matches.Goals as goal

pub returns-in_err-try_get_matches_from-clause-usage : goal.returns-in_err-try_get_matches_from-clause-usage
returns-in_err-try_get_matches_from-clause-usage c = λ usage.
    let is = c.in_ok-command.ensures in
    let free : is_simple_and_free (app_of c.in_ok-command.command) ≡ true = subst (λ (x : App). is_simple_and_free x ≡ true) (sym is) c.requires in
    let error = c.in_err-try_get_matches_from.field-0.0 in
    let gave = c.from_residual-in_err-try_get_matches_from.ensures.1 in
    let same : Usage ≡ fault_from (kind_of error) = rw usage at gave in
    taken_err _ _ _ error is (c.in_err-try_get_matches_from.ensures.kinds free) (sym same)

pub returns-clause-matches : goal.returns-clause-matches
returns-clause-matches c =
    let is = c.in_ok-command.ensures in
    let free : is_simple_and_free (app_of c.in_ok-command.command) ≡ true = subst (λ (x : App). is_simple_and_free x ≡ true) (sym is) c.requires in
    taken_ok _ _ _ _ c.requires is c.in_ok-try_get_matches_from.ensures.matches (c.in_ok-try_get_matches_from.ensures.kinds free)

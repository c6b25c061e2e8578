-- The next claim is the same.
use Rattle.std.proofs.Common.{◌≡◌, false, None, Some, refl, sym, ◌∙◌, arith}
use Rattle.std.specs.Option.{is_some}
use Rattle.std.specs.Prelude.{Option}
use Rattle.std.proofs.lemmas.Grind.{common_steps}
use Rattle.std.proofs.lemmas.List.{take_more_same}
use Rattle.diva_core.proofs.Differing.{difference-none}
use Rattle.diva_core.specs.declared.differences.Diff.{Diff}
use Rattle.diva_trial.proofs.running.are_same.Goals as goal

none_of : (o : Option Diff) → is_some o ≡ false → o ≡ None
none_of None e = refl
none_of (Some d) e = absurd (cc)

pub loop-place-preserved : goal.loop-place-preserved
loop-place-preserved c =
    let none = none_of c.first_difference.result (sym c.is_some.ensures ∙ c.if-is_some.false) in
    take_more_same c.args.some.now c.args.others.now c.loop-place.place _ c.loop-place-test.true (grind (arith, common_steps)) c.loop-place.invariant
    (difference-none _ _ (sym c.first_difference.ensures.first ∙ none))

use Rattle.diva_trial.specs.Kept.{IsPlaceBefore}
use Rattle.diva_trial.proofs.kept.latest_before.Given as goal

abbrev pub invariant-loop-place : goal.invariant-loop-place
invariant-loop-place g l = IsPlaceBefore g.M.Driven.seen l.cycle l.until l.stands l.latest

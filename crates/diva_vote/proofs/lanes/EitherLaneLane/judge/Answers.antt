use Rattle.std.proofs.Common.{refl, subst, sym}
use Rattle.diva_vote.specs.declared.lanes.EitherLane.{EitherLane}
use Rattle.diva_vote.specs.Lanes.{SaysEither}
use Rattle.diva_vote.specs.Questions.{question_at}
use Rattle.diva_vote.proofs.lanes.EitherLaneLane.judge.Goals as goal

pub returns-in-Honest : goal.returns-in-Honest
returns-in-Honest c = λ e here.
    let asked = question_at c.args.stage c.args.view.now c.args.pending.now.items c.args.at e in
    (subst (λ (lane : EitherLane). SaysEither lane asked c.judge.result) (sym c.in-Honest.is) (c.judge.ensures e here).0, refl)

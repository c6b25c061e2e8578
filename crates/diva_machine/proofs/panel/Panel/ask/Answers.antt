-- What the vote finds is noted as what the check finds.
use Rattle.std.proofs.Common.{[], ◌∷◌, refl, sym, subst}
use Rattle.diva_isa.specs.State.{State}
use Rattle.diva_vote.specs.Polls.{ArePolledAndCounted}
use Rattle.diva_vote.specs.Questions.{IsAnswer, question_at}
use Rattle.diva_vote.proofs.Polling.{polled_once, two_now, two_then}
use Rattle.diva_machine.proofs.Staging.{check_noted, entry_at}
use Rattle.diva_machine.proofs.panel.Panel.ask.Goals as goal

pub returns-clause-advanced : goal.returns-clause-advanced
returns-clause-advanced g c = λ now e here age adv.
    let v = c.judge_by_vote-ballot.ensures in
    let asked = question_at c.args.stage c.view-view.result c.args.pending.now.items c.args.at e in
    let two = two_now g.A.Lane.says g.B.Lane.says g.L.Lane.says asked c.judge_by_vote-ballot.result _ _ _ _ _ _ c.requires.sound (v.first e here) (v.second e here) (v.third e here) in
    check_noted _ _ _ now c.args.at c.args.stage e _ _ here (c.note.ensures.items e here) c.view-view.ensures age
    (subst (IsAnswer asked) (sym c.vote.ensures.exact) (v.answers e here two)) adv

pub returns-clause-sound : goal.returns-clause-sound
returns-clause-sound g c =
    let v = c.judge_by_vote-ballot.ensures in
    let there = entry_at c.args.pending.now.items c.args.at c.requires.place in
    two_then g.A.Lane.says g.B.Lane.says g.L.Lane.says (question_at c.args.stage c.view-view.result c.args.pending.now.items c.args.at there.0) c.judge_by_vote-ballot.result
    _ _ _ _ _ _ c.requires.sound (v.first there.0 there.1) (v.second there.0 there.1) (v.third there.0 there.1)

pub returns-clause-led : goal.returns-clause-led
returns-clause-led g c = λ e here.
    let v = c.judge_by_vote-ballot.ensures in
    record {
      polled = subst (λ (s : State). ArePolledAndCounted g.A.Lane.says g.B.Lane.says g.L.Lane.says (question_at c.args.stage s c.args.pending.now.items c.args.at e ∷ [])
          c.args.self.now.first.now c.args.self.now.second.now c.args.self.now.third.now c.judge_by_vote-ballot.new.a c.judge_by_vote-ballot.new.b c.judge_by_vote-ballot.new.l c.args.self.now.outvoted c.count.new.self)
          c.view-view.ensures
          (polled_once g.A.Lane.says g.B.Lane.says g.L.Lane.says (question_at c.args.stage c.view-view.result c.args.pending.now.items c.args.at e) c.judge_by_vote-ballot.result
          _ _ _ _ _ _ _ _ (v.first e here) (v.second e here) (v.third e here) c.count.ensures);
      same = record { first_is = refl; second_is = refl; third_is = refl };
    }

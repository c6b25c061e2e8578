use Rattle.std.proofs.Common.{sym, ◌∙◌, arith, ◌+◌, ◌-◌}
use Rattle.diva_ooo.proofs.Handing.{handed_less}
use Rattle.diva_ooo.proofs.ooo.Ooo.hand_over.Goals as goal

pub loop-preserved : goal.loop-preserved
loop-preserved c =
    record {
      left = λ s.
          sym (c.if-not-hand_over_oldest.ensures.hands (c.args.room - (c.loop.counter + 1)) s) ∙ sym (handed_less c.args.room c.loop.counter s c.loop.out c.loop.self c.loop-test.true) ∙ c.loop.invariant.left s;
      few = omega arith;
      ring = omega arith;
    }

pub returns-then-not-hand_over_oldest : goal.returns-then-not-hand_over_oldest
returns-then-not-hand_over_oldest c = λ s.
    sym (c.if-not-hand_over_oldest.ensures.hands (c.args.room - (c.loop.counter + 1)) s) ∙ sym (handed_less c.args.room c.loop.counter s c.loop.out c.loop.self c.loop-test.true) ∙ c.loop.invariant.left s

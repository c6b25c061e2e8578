-- The first that is high, or none.
use Rattle.std.proofs.Common.{sym, arith, ◌∙◌}
use Rattle.diva_rate.specs.Shares.{high_below, is_high}
use Rattle.diva_rate.proofs.Scanning.{first_is}
use Rattle.diva_rate.proofs.shares.high_below.Goals as goal

pub returns-then-is_high-clause-bound : goal.returns-then-is_high-clause-bound
unfolding high_below
returns-then-is_high-clause-bound c = sym (first_is (is_high c.args.count c.args.faults) c.args.most c.loop-share.share (omega arith) c.loop-share.invariant (λ below. sym c.is_high.ensures ∙ c.if-is_high.true))

pub returns-clause-bound : goal.returns-clause-bound
unfolding high_below
returns-clause-bound c = sym (first_is (is_high c.args.count c.args.faults) c.args.most c.args.most (omega arith)
    (λ k before. c.loop-share.invariant k (omega (arith, before, c.loop-share-test.false))) (λ below. absurd (omega (arith, below))))

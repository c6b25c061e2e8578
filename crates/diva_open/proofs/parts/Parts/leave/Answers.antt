use Rattle.std.proofs.Common.{◌≡◌, ◌<◌, true, sym, ap, ◌∙◌, arith}
use Rattle.diva_open.specs.Open.{Open, leaves}
use Rattle.diva_open.proofs.Leaving.{leave_next}
use Rattle.diva_open.proofs.parts.Parts.leave.Goals as goal

pub loop-left-preserved : goal.loop-left-preserved
loop-left-preserved c =
    let inv = c.loop-left.invariant in
    let m : Open = c.loop-left.self in
    let width : c.self.inside.width ≡ c.args.self.now.timed.config.width =
    ap (λ (z : Open). z.timed.config.width) c.self.view_is ∙ ap (λ z. z.width) inv.bounds.config in
    let test = c.loop-left-test.true in
    let more : c.loop-left.left < c.args.self.now.timed.config.width = omega arith in
    let leaving : leaves m.timed m.timed.under.pending ≡ true = sym c.front_leaves.ensures ∙ c.if-front_leaves.true in
    let next = leave_next c.args.self.now.timed.config.width c.loop-left.left c.args.self.now m c.leave_front.new.self inv.bounds inv.so_far more leaving c.leave_front.ensures in
    record { so_far = next.0; bounds = next.1; within = omega arith }

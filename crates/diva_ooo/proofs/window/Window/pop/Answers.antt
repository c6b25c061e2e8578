use Rattle.std.proofs.Common.{arith}
use Rattle.diva_ooo.proofs.Windowing.{popped}
use Rattle.diva_ooo.proofs.window.Window.pop.Goals as goal

pub invariant_of-self-then-self-eq-STEP : goal.invariant_of-self-then-self-eq-STEP
invariant_of-self-then-self-eq-STEP c =
    let w = c.self.inside.entries.items in (
      rw c.pop_front.ensures.items c.self.invariant.0,
      rw c.pop_front.ensures.items
          (c.renumber.ensures.board _
          (popped w c.pop_front.result c.self.inside.board c.pop.new.self c.pop_front.ensures.value c.if-is_none.ensures c.self.invariant.1 (λ e is. c.requires e (rw (← c.self.view_is) is)) c.pop.ensures.board)),
      rw c.renumber.ensures.base (omega arith),
    )

pub invariant_of-self-else-self-eq-STEP : goal.invariant_of-self-else-self-eq-STEP
invariant_of-self-else-self-eq-STEP c =
    let w = c.self.inside.entries.items in
    let base = c.pop.ensures.base in
    let few = c.self.invariant.2 in (
      rw c.pop_front.ensures.items c.self.invariant.0,
      rw c.pop_front.ensures.items
          (popped w c.pop_front.result c.self.inside.board c.pop.new.self c.pop_front.ensures.value c.if-is_none.ensures c.self.invariant.1 (λ e is. c.requires e (rw (← c.self.view_is) is)) c.pop.ensures.board),
      omega (arith, base, few, c.if-self-eq-STEP.false),
    )

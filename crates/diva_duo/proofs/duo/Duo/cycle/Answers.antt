use Rattle.std.proofs.Common.{◌≡◌, true, ap, sym, ◌∙◌, subst, arith}
use Rattle.diva_duo.specs.Duo.{is_over}
use Rattle.diva_duo.specs.Between.{CountsFew}
use Rattle.diva_duo.specs.Which.{First, Second}
use Rattle.diva_duo.specs.Shown.{Shown}
use Rattle.diva_duo.specs.declared.duo.Duo.TheInside.{Inside}
use Rattle.diva_duo.proofs.Cycles.{actions_over, led_cycles, led_few, led_stays}
use Rattle.diva_duo.proofs.Progress.{will_go, has_gone}
use Rattle.diva_duo.proofs.duo.Duo.cycle.Goals as goal

pub invariant_of-self : goal.invariant_of-self
invariant_of-self c =
    let n = led_cycles c.self.inside.parts.duo c.self.invariant.0 _ _ _ c.cycle.new.self.duo c.cycle.ensures.duo (ap (λ (z : Inside). z.parts.duo) c.self-inside.view_is) in
    let v = ap (λ (z : Shown). z.duo.cycles) c.self.view_is in
    let few = c.requires in
    (led_stays c.self.inside.parts.duo c.self.invariant.0 _ _ _ c.cycle.new.self.duo c.cycle.ensures.duo (ap (λ (z : Inside). z.parts.duo) c.self-inside.view_is), omega arith)

pub returns-then-not-is_over-clause-first_will_go : goal.returns-then-not-is_over-clause-first_will_go
returns-then-not-is_over-clause-first_will_go c =
    will_go First _ (led_stays c.self.inside.parts.duo c.self.invariant.0 _ _ _ c.cycle.new.self.duo c.cycle.ensures.duo (ap (λ (z : Inside). z.parts.duo) c.self-inside.view_is))

pub returns-then-not-is_over-clause-second_will_go : goal.returns-then-not-is_over-clause-second_will_go
returns-then-not-is_over-clause-second_will_go c =
    will_go Second _ (led_stays c.self.inside.parts.duo c.self.invariant.0 _ _ _ c.cycle.new.self.duo c.cycle.ensures.duo (ap (λ (z : Inside). z.parts.duo) c.self-inside.view_is))

pub returns-then-not-is_over-clause-second_has_gone : goal.returns-then-not-is_over-clause-second_has_gone
returns-then-not-is_over-clause-second_has_gone c =
    has_gone Second _ (led_stays c.self.inside.parts.duo c.self.invariant.0 _ _ _ c.cycle.new.self.duo c.cycle.ensures.duo (ap (λ (z : Inside). z.parts.duo) c.self-inside.view_is))

pub returns-else-not-is_over-clause-last : goal.returns-else-not-is_over-clause-last
returns-else-not-is_over-clause-last c =
    let over : is_over c.args.self.now.duo ≡ true =
    ap (λ (z : Shown). is_over z.duo) (sym c.self.view_is) ∙ ap (λ (z : Inside). is_over z.parts.duo) (sym c.self-inside.view_is) ∙ sym c.is_over.ensures ∙ c.if-not-is_over.false in
    c.clear.ensures ∙ sym (actions_over c.args.self.now.duo _ over)

pub returns-then-not-is_over-clause-first_few : goal.returns-then-not-is_over-clause-first_few
returns-then-not-is_over-clause-first_few c =
    subst (λ (s : Shown). CountsFew First s.duo c.cycle.new.self.duo) c.self.view_is
    (led_few c.self.inside.parts.duo c.self.invariant.0 _ _ _ c.cycle.new.self.duo c.cycle.ensures.duo (ap (λ (z : Inside). z.parts.duo) c.self-inside.view_is) First)

pub returns-then-not-is_over-clause-second_few : goal.returns-then-not-is_over-clause-second_few
returns-then-not-is_over-clause-second_few c =
    subst (λ (s : Shown). CountsFew Second s.duo c.cycle.new.self.duo) c.self.view_is
    (led_few c.self.inside.parts.duo c.self.invariant.0 _ _ _ c.cycle.new.self.duo c.cycle.ensures.duo (ap (λ (z : Inside). z.parts.duo) c.self-inside.view_is) Second)

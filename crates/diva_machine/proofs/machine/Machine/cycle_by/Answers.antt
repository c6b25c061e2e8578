use Rattle.std.proofs.Common.{◌≡◌, false, ap, sym, ◌∙◌, subst, ◌<◌, ◌^◌}
use Rattle.diva_isa.specs.State.{goes_on}
use Rattle.diva_core.specs.Timed.{Timed}
use Rattle.diva_core.proofs.Outcomes.{cycle-off}
use Rattle.diva_machine.specs.Machine.{Machine}
use Rattle.diva_machine.specs.Staged.{Parts}
use Rattle.diva_machine.proofs.Laws.{sound_again}
use Rattle.diva_machine.proofs.machine.Machine.cycle_by.Goals as goal

pub invariant_of-self : goal.invariant_of-self
invariant_of-self g c =
    let same : c.self.inside.parts.timed ≡ c.args.self.now.timed = ap (λ (z : Machine). z.timed) c.self.view_is in
    (sound_again c.self.inside.parts.timed c.cycle.new.self.timed c.args.list.now c.self.invariant.0 c.cycle.ensures.timed (sym c.goes_on.ensures ∙ c.if-goes_on.true) (subst (λ (m : Timed). m.cycles < 2 ^ 60) (sym same) c.requires.cycles), (c.cycle.ensures.staged, c.cycle.ensures.solo))

pub invariant_of-self-else-goes_on : goal.invariant_of-self-else-goes_on
invariant_of-self-else-goes_on g c =
    let s = c.self.invariant.1.0 in
    rw c.forget_last.ensures (c.self.invariant.0, (record { waits = s.waits; checked = s.checked; ordered = s.ordered; passed = s.passed; future = s.future }, c.self.invariant.1.1))

pub returns-else-goes_on-clause-cycled : goal.returns-else-goes_on-clause-cycled
returns-else-goes_on-clause-cycled g c =
    let same : c.self.inside.parts.timed ≡ c.args.self.now.timed = ap (λ (z : Machine). z.timed) c.self.view_is in
    let off : goes_on c.args.self.now.timed.arch ≡ false = ap (λ (m : Timed). goes_on m.arch) (sym same) ∙ sym c.goes_on.ensures ∙ c.if-goes_on.false in
    ap (λ (z : Parts). z.timed) c.forget_last.ensures ∙ same ∙ sym (cycle-off c.args.self.now.timed c.args.list.now off)

pub returns-else-goes_on-clause-checked : goal.returns-else-goes_on-clause-checked
returns-else-goes_on-clause-checked g c = rw c.forget_last.ensures c.self.invariant.1.0.checked

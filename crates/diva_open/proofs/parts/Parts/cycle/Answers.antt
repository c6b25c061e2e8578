use Rattle.std.proofs.Common.{◌≡◌, ◌==◌, true, not, sym, ap, ◌∙◌, refl}
use Rattle.std.proofs.Math.Bool.{not-not}
use Rattle.diva_isa.specs.State.{goes_on}
use Rattle.diva_core.specs.Timed.{Timed}
use Rattle.diva_core.specs.Cycle.{accepts, begun, drained}
use Rattle.diva_open.specs.Inner.{KeepsOpenBounds}
use Rattle.diva_open.specs.Open.{Open, idled, leave, open_cycle_of}
use Rattle.diva_open.proofs.Phases.{accepts_as, cycle_between}
use Rattle.diva_open.proofs.parts.Parts.cycle.Goals as goal

-- the parts of the cycle, each over the one before
begins : (c : goal.After-wait) → c.drain.new.self ≡ record c.args.self.now { timed = drained (begun c.args.self.now.timed) }
begins c =
    let next = λ (z : Open). record z { timed = drained (begun z.timed) } in
    c.drain.ensures ∙ ap next c.self.view_is

lets_go : (c : goal.After-wait) → c.leave.new.self ≡ leave c.args.self.now.timed.config.width (record c.args.self.now { timed = drained (begun c.args.self.now.timed) })
unfolding drained
lets_go c = c.leave.ensures.value ∙ ap (λ (z : Open). leave z.timed.config.width z) (begins c)

bounded : (c : goal.After-wait) → KeepsOpenBounds c.args.self.now.timed.config.width (record c.args.self.now { timed = drained (begun c.args.self.now.timed) }) c.leave.new.self
unfolding drained
bounded c = rw (begins c) at c.leave.ensures.bounds

admits : (c : goal.After-wait) → c.accept.new.self ≡ record c.leave.new.self { timed = accepts c.args.self.now.timed c.args.list.now c.leave.new.self.timed }
unfolding drained
admits c =
    c.accept.ensures
    ∙ ap (λ (m : Timed). record c.leave.new.self { timed = m })
    (accepts_as c.args.self.now.timed c.leave.new.self.timed c.args.list.now c.room-room.result (bounded c).log c.room-room.ensures.value)

counts : (c : goal.After-wait) → (c.accept.new.self.timed.count == c.args.self.now.timed.count) ≡ not (not (c.count.result == c.count-count.result))
counts c =
    let after : c.count.result ≡ c.accept.new.self.timed.count = c.count.ensures ∙ ap (λ (z : Open). z.timed.count) c.self-2.view_is in
    let before : c.count-count.result ≡ c.args.self.now.timed.count = c.count-count.ensures ∙ ap (λ (z : Open). z.timed.count) c.self.view_is in
    rw (after, before) (sym (not-not _))

ends : (c : goal.After-wait) → c.wait.new.self ≡ record c.leave.new.self { timed = idled c.args.self.now.timed (accepts c.args.self.now.timed c.args.list.now c.leave.new.self.timed) }
ends c =
    c.wait.ensures c.args.self.now.timed (counts c)
    ∙ ap (λ (z : Open). record z { timed = idled c.args.self.now.timed z.timed }) (admits c)

pub returns-clause-value : goal.returns-clause-value
unfolding open_cycle_of
returns-clause-value c =
    let old : Open = c.args.self.now in
    let on : goes_on old.timed.arch ≡ true = ap (λ n. n == 0) c.requires.goes_on in
    ends c
    ∙ ap (λ (z : Open). record z { timed = idled old.timed (accepts old.timed c.args.list.now z.timed) }) (lets_go c)
    ∙ rw on refl

pub returns-clause-between : goal.returns-clause-between
returns-clause-between c =
    rw (ends c) (cycle_between c.args.self.now c.leave.new.self c.args.list.now c.requires.between c.requires.cycles (bounded c))

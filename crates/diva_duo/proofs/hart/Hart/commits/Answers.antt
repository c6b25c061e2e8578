use Rattle.std.proofs.Common.{◌<◌, ◌++◌, length, ap, sym, ◌∙◌, subst}
use Rattle.diva_commit.specs.Committing.{buffered}
use Rattle.diva_hart.specs.Inner.{KeepsBounds}
use Rattle.diva_hart.specs.UnderWay.{config_of, under_of}
use Rattle.diva_hart.proofs.Fronts.{alone_bounds}
use Rattle.diva_duo.specs.Duo.{Hart, timed}
use Rattle.diva_duo.proofs.Fronting.{due_is}
use Rattle.diva_duo.proofs.Growing.{puts_one}
use Rattle.diva_duo.proofs.hart.Hart.commits.Goals as goal

pub returns-then-cycles-start-clause-buffer : goal.returns-then-cycles-start-clause-buffer
returns-then-cycles-start-clause-buffer c =
    let room = subst (λ (x : Hart). length x.state.buffer < x.config.stores) (sym c.self.view_is) c.requires.owed in
    let done = c.settle.ensures.room room in
    puts_one c.args.memory.now c.args.self.now c.settle.new.self c.args.cycles _ c.due_of-decoded.result.0 (c.settle.ensures.timed c.args.cycles done)
    (ap (λ (x : Hart). x.state.instret) c.self.view_is)
    (due_is c.args.memory.now c.args.self.now _ c.due_of-decoded.result.0 c.view.ensures c.due_of-decoded.ensures.record c.requires.goes_on)
    (c.settle.ensures.buffer done ∙ ap (λ (x : Hart). x.state.buffer ++ buffered c.due_of-decoded.result.0) c.self.view_is)

pub returns-then-cycles-start-clause-bounds : goal.returns-then-cycles-start-clause-bounds
returns-then-cycles-start-clause-bounds c =
    let own = c.self.inside in
    let was : Hart = record { config = config_of own.arch.stores 1 own.under; state = own.arch.state; under = under_of own.under } in
    let room = subst (λ (x : Hart). length x.state.buffer < x.config.stores) (sym c.self.view_is) c.requires.owed in
    let done = c.settle.ensures.room room in
    subst (λ (x : Hart). KeepsBounds (timed c.args.cycles c.args.memory.now x) (timed c.args.cycles c.args.memory.now c.settle.new.self)) c.self.view_is
    (alone_bounds (timed c.args.cycles c.args.memory.now was) (timed c.args.cycles c.args.memory.now c.settle.new.self) c.due_of-decoded.result.0 room (c.settle.ensures.timed c.args.cycles done))

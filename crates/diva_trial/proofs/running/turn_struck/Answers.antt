-- A turn, and whether the fault hit in it.
use Rattle.std.proofs.Common.{◌≡◌, ◌≢◌, ◌↔◌, ◌∙◌, true, false, take, sym, subst}
use Rattle.std.proofs.lemmas.Bool.{true≢false}
use Rattle.diva_core.specs.Timed.{epoch_of}
use Rattle.diva_core.specs.Told.{Told}
use Rattle.diva_faults.specs.Lists.{laid_in, scripted}
use Rattle.diva_trial.proofs.Pathing.{struck_turn}
use Rattle.diva_trial.proofs.running.turn_struck.Goals as goal

pub returns-then-others-clause-turn : goal.returns-then-others-clause-turn
returns-then-others-clause-turn g c =
    let told = c.told-told.ensures in
    struck_turn g.M.Driven.step g.C.Core.gives c.args.script.now c.args.fault.now (g.M.Driven.seen c.args.m.now) c.args.core.now (g.M.Driven.seen c.cycle-2.new.self) c.cycle.new.self
    c.cycle.new.out c.lay.new.list c.strike-others.new.list c.strike-others.result c.are_accepted-accepted.result c.are_accepted-accepted.result
    (rw (← told, ← c.view.ensures c.requires.on) c.cycle.ensures)
    (subst (λ (t : Told). c.lay.new.list ≡ scripted c.args.script.now t.cycle c.cycle.new.out) (c.told.view_is ∙ told) c.lay.ensures)
    (subst (λ (t : Told). c.strike-others.new.list ≡ laid_in t.cycle c.lay.new.list c.args.fault.now) told c.strike-others.ensures.list)
    (subst (λ (t : Told). (c.strike-others.result ≡ true) ↔ (take t.room c.lay.new.list ≢ take t.room c.strike-others.new.list)) told c.strike-others.ensures.others)
    c.cycle-2.ensures.cycled
    (subst (λ (t : Told). (c.are_accepted-accepted.result ≡ true) ↔ ((t.ended ≡ false) × (t.epoch ≡ epoch_of (g.M.Driven.seen c.args.m.now).timed))) c.told-2.ensures
    (subst (λ (t : Told). (c.are_accepted-accepted.result ≡ true) ↔ ((c.told-2.result.ended ≡ false) × (c.told-2.result.epoch ≡ t.epoch))) told c.are_accepted-accepted.ensures))
    (λ e. (c.if-others.true, e), λ both. both.1)

pub returns-else-others-clause-turn : goal.returns-else-others-clause-turn
returns-else-others-clause-turn g c =
    let told = c.told-told.ensures in
    struck_turn g.M.Driven.step g.C.Core.gives c.args.script.now c.args.fault.now (g.M.Driven.seen c.args.m.now) c.args.core.now (g.M.Driven.seen c.cycle-2.new.self) c.cycle.new.self
    c.cycle.new.out c.lay.new.list c.strike-others.new.list c.strike-others.result c.are_accepted-accepted.result c.strike-others.result
    (rw (← told, ← c.view.ensures c.requires.on) c.cycle.ensures)
    (subst (λ (t : Told). c.lay.new.list ≡ scripted c.args.script.now t.cycle c.cycle.new.out) (c.told.view_is ∙ told) c.lay.ensures)
    (subst (λ (t : Told). c.strike-others.new.list ≡ laid_in t.cycle c.lay.new.list c.args.fault.now) told c.strike-others.ensures.list)
    (subst (λ (t : Told). (c.strike-others.result ≡ true) ↔ (take t.room c.lay.new.list ≢ take t.room c.strike-others.new.list)) told c.strike-others.ensures.others)
    c.cycle-2.ensures.cycled
    (subst (λ (t : Told). (c.are_accepted-accepted.result ≡ true) ↔ ((t.ended ≡ false) × (t.epoch ≡ epoch_of (g.M.Driven.seen c.args.m.now).timed))) c.told-2.ensures
    (subst (λ (t : Told). (c.are_accepted-accepted.result ≡ true) ↔ ((c.told-2.result.ended ≡ false) × (c.told-2.result.epoch ≡ t.epoch))) told c.are_accepted-accepted.ensures))
    (λ e. absurd (true≢false (sym e ∙ c.if-others.false)), λ both. both.0)

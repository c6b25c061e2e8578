use Rattle.std.proofs.Common.{◌≡◌, ℕ, ◌-◌, ◌==◌, ◌++◌, None, ap, sym, ◌∙◌, subst}
use Rattle.std.specs.Prelude.{flat_map}
use Rattle.std.proofs.lemmas.Bool.{eqb-false, eqb-true}
use Rattle.diva_core.specs.Timed.{Timed, room_of}
use Rattle.diva_core.specs.Cycle.{accepts, phases_under, watched}
use Rattle.diva_core.specs.Headline.{dues}
use Rattle.diva_commit.specs.Committing.{buffered}
use Rattle.diva_hart.specs.HartArch.{HartState, seen}
use Rattle.diva_hart.specs.Inner.{Tells}
use Rattle.diva_hart.specs.UnderWay.{config_of, under_of}
use Rattle.diva_duo.specs.Rules.{fences_wait}
use Rattle.diva_duo.specs.Duo.{Hart, timed, added}
use Rattle.diva_duo.proofs.Growing.{accepts_so, cycle_from, cycle_off}
use Rattle.diva_duo.proofs.hart.Hart.cycle.Goals as goal

pub returns-then-not-goes_on-clause-cycled : goal.returns-then-not-goes_on-clause-cycled
returns-then-not-goes_on-clause-cycled c =
    cycle_off c.args.cycles c.args.memory.now c.args.list.now c.args.self.now
    (eqb-false _ _ (ap (λ (x : Hart). x.state.end == 0) (sym c.self.view_is) ∙ sym c.goes_on.ensures ∙ c.if-not-goes_on.true))

pub returns-clause-cycled : goal.returns-clause-cycled
returns-clause-cycled c =
    let h : Hart = c.args.self.now in
    let g : Hart = c.watch.new.self in
    let mem = c.args.memory.now in
    let before : Timed = timed c.args.cycles mem h in
    let on : h.state.end ≡ 0 = eqb-true _ _ (ap (λ (x : Hart). x.state.end == 0) (sym c.self.view_is) ∙ sym c.goes_on.ensures ∙ c.if-not-goes_on.false) in
    let count : before.count ≡ c.count-count.result = ap (λ (x : Hart). x.state.instret) (sym c.self.view_is) ∙ sym c.count-count.ensures.value in
    let own = c.self-2.inside in
    let room : c.room-room.result ≡ room_of before = c.room-room.ensures.value ∙ ap (λ (x : Hart). room_of (timed c.args.cycles mem x)) c.self.view_is in
    let left : Timed = timed c.args.cycles mem c.commits.new.self in
    let same = ap (λ (x : Hart). timed c.args.cycles mem x) c.self-2.view_is in
    let tells : before.under.solo ≡ None → Tells before (timed c.args.cycles mem (record { config = config_of own.arch.stores 1 own.under; state = own.arch.state; under = under_of own.under })) =
    λ none. subst (Tells before) (sym same) (c.commits.ensures.tells none) in
    let is : timed c.args.cycles mem g ≡ phases_under fences_wait before before c.args.list.now =
    c.watch.ensures.watched mem before count
    ∙ ap (watched before) (accepts_so c.args.cycles mem own.arch.stores own.arch.state own.under c.accept.new.self before c.args.list.now c.room-room.result room tells c.accept.ensures)
    ∙ ap (λ (z : Timed). watched before (accepts before c.args.list.now z)) (same ∙ c.commits.ensures.commits) in
    let state : g.state ≡ c.commits.new.self.state = c.watch.ensures.state ∙ ap (λ (x : Hart). x.state) c.self-2.view_is in
    let counts : g.state.instret ≡ c.commits.new.self.state.instret = ap (λ (o : HartState). o.instret) state in
    let b : g.state.buffer ≡ h.state.buffer ++ added before (timed c.args.cycles mem g) =
    ap (λ (o : HartState). o.buffer) state ∙ c.commits.ensures.buffer
    ∙ ap (λ (k : ℕ). h.state.buffer ++ flat_map buffered (dues (k - h.state.instret) (seen mem h.state))) (sym counts) in
    cycle_from c.args.cycles mem c.args.list.now h g on is b

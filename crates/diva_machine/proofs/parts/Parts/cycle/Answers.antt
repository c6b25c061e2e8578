use Rattle.std.proofs.Common.{ℕ, ◌≡◌, ◌+◌, ◌-◌, ◌==◌, ◌&&◌, if◌then◌else◌, None, Some, true, false, not, subst, ap, sym, ◌∙◌, List, [], ◌++◌, map, min, take, refl, length, arith}
use Rattle.std.proofs.Math.Bool.{not-not}
use Rattle.diva_isa.specs.State.{goes_on}
use Rattle.std.proofs.lemmas.List.{take_min}
use Rattle.diva_isa.specs.declared.record.Record.{Record}
use Rattle.diva_isa.specs.Step.{record_of}
use Rattle.diva_core.specs.Timed.{Timed, depth, room_of}
use Rattle.diva_core.specs.Cycle.{accepted_in, accepts, begun, commits_under, cycle_under, drained, watched, stores_wait, with_pending}
use Rattle.diva_core.specs.Headline.{dues}
use Rattle.diva_core.proofs.Passing.{alone_stores}
use Rattle.diva_hart.specs.UnderWay.{takes_claims}
use Rattle.diva_hart.specs.Inner.{Tells}
use Rattle.diva_hart.proofs.Dues.{watched-count, accepts-count, none-due}
use Rattle.diva_hart.proofs.Telling.{accepts_open}
use Rattle.diva_vote.specs.Questions.{Question}
use Rattle.diva_machine.specs.Asked.{asked_in, asked_of}
use Rattle.diva_machine.proofs.Asking.{asked_shown, alone_pending}
use Rattle.diva_machine.specs.Staged.{Parts}
use Rattle.diva_machine.proofs.Staging.{staged_begun}
use Rattle.diva_machine.proofs.parts.Parts.cycle.Given as given
use Rattle.diva_machine.proofs.parts.Parts.cycle.Goals as goal

pub commits-requires-clause-staged : goal.commits-requires-clause-staged
commits-requires-clause-staged g c =
    let next = λ (z : Parts). record z { timed = drained (begun z.timed) } in
    let is : c.drain.new.self ≡ record c.args.self.now { timed = drained (begun c.args.self.now.timed); last = [] } = c.drain.ensures ∙ ap next c.self.view_is ∙ ap next c.forget_last.ensures in
    rw is (staged_begun c.args.self.now c.requires.staged)

pub commits-requires-clause-passes : goal.commits-requires-clause-passes
unfolding drained
commits-requires-clause-passes g c =
    let next = λ (z : Parts). record z { timed = drained (begun z.timed) } in
    let is : c.drain.new.self ≡ record c.args.self.now { timed = drained (begun c.args.self.now.timed); last = [] } = c.drain.ensures ∙ ap next c.self.view_is ∙ ap next c.forget_last.ensures in
    subst (λ (z : Parts). (start : ℕ) → z.timed.under.solo ≡ Some start → z.timed.cycles ≡ start + depth → stores_wait z.timed.config.stores z.timed.owed (record_of z.timed.arch) ≡ false)
    (sym is) (alone_stores c.args.self.now.timed c.requires.machine)

-- the parts of the cycle, each over the one before
begins : (g : given.Over) (c : goal.After-watch g) → c.drain.new.self.timed ≡ drained (begun c.args.self.now.timed)
begins g c =
    let next = λ (z : Parts). drained (begun z.timed) in ap (λ (z : Parts). z.timed) c.drain.ensures ∙ ap next c.self.view_is ∙ ap next c.forget_last.ensures

-- the cycle keeps its number
runs_on : (g : given.Over) (c : goal.After-watch g) → c.commits.new.self.timed.cycles ≡ c.args.self.now.timed.cycles + 1
unfolding drained
runs_on g c = c.commits.ensures.bounds.cycles ∙ ap (λ (m : Timed). m.cycles) (begins g c)

-- phase 2 has told whether claims are accepted
tells : (g : given.Over) (c : goal.After-watch g) → c.args.self.now.timed.under.solo ≡ None → Tells c.args.self.now.timed c.commits.new.self.timed
unfolding drained
tells g c none =
    c.commits.ensures.tells (ap (λ (m : Timed). m.under.solo) (begins g c) ∙ none)
    ∙ ap (λ (m : Timed). goes_on c.commits.new.self.timed.arch && (c.commits.new.self.timed.under.log.flushes == m.under.log.flushes)) (begins g c)

admits : (g : given.Over) (c : goal.After-watch g) → c.accept.new.self.timed ≡ accepts c.args.self.now.timed c.args.list.now c.commits.new.self.timed
admits g c =
    let n : Timed = c.commits.new.self.timed in
    let within = λ (m : Timed) (claims : List Record). with_pending m (m.under.pending ++ map (accepted_in m.cycles) (if takes_claims m then claims else [])) in
    c.accept.ensures.timed
    ∙ ap (λ (z : Parts). within z.timed (take (min c.args.most (length c.args.list.now)) c.args.list.now)) c.advance.ensures.rest
    ∙ ap (λ (k : ℕ). within n (take k c.args.list.now)) c.requires.count
    ∙ ap (within n) (take_min (room_of c.args.self.now.timed) c.args.list.now)
    ∙ accepts_open c.args.self.now.timed n c.args.list.now (tells g c)

-- the instructions that were counted are those whose records came due
comes-due : (g : given.Over) (c : goal.After-watch g) → c.accept.new.self.last ≡ dues (c.accept.new.self.timed.count - c.args.self.now.timed.count) c.args.self.now.timed.arch
unfolding drained
comes-due g c =
    let old : Timed = c.args.self.now.timed in
    let after : c.accept.new.self.timed.count ≡ c.commits.new.self.timed.count = ap (λ z. z.count) (admits g c) ∙ accepts-count old c.commits.new.self.timed c.args.list.now in
    ap (λ (z : Parts). z.last) c.accept.ensures.rest ∙ ap (λ (z : Parts). z.last) c.advance.ensures.rest ∙ c.commits.ensures.last
    ∙ ap (λ (z : Timed). dues (c.commits.new.self.timed.count - z.count) z.arch) (begins g c)
    ∙ ap (λ n. dues (n - old.count) old.arch) (sym after)

counts : (g : given.Over) (c : goal.After-watch g) → (c.accept.new.self.timed.count == c.args.self.now.timed.count) ≡ not (not c.is_empty-committed.result)
unfolding drained
counts g c =
    let old : Timed = c.args.self.now.timed in
    let after : c.accept.new.self.timed.count ≡ c.commits.new.self.timed.count = ap (λ z. z.count) (admits g c) ∙ accepts-count old c.commits.new.self.timed c.args.list.now in
    let before : c.drain.new.self.timed.count ≡ old.count = ap (λ z. z.count) (begins g c) in
    let more = c.commits.ensures.counted in
    none-due old.count c.accept.new.self.timed.count old.arch c.accept.new.self.last (omega arith) (comes-due g c)
    ∙ ap (λ (z : Parts). length z.last == 0) (sym c.self-2.view_is) ∙ sym c.is_empty-committed.ensures ∙ sym (not-not c.is_empty-committed.result)

watches : (g : given.Over) (c : goal.After-watch g) → c.watch.new.self.timed ≡ watched c.args.self.now.timed c.accept.new.self.timed
watches g c = c.watch.ensures.timed c.args.self.now.timed (counts g c)

pub returns-clause-timed : goal.returns-clause-timed
unfolding cycle_under
returns-clause-timed g c =
    let old : Timed = c.args.self.now.timed in
    let on : goes_on old.arch ≡ true = ap (λ n. n == 0) c.requires.goes_on in
    watches g c ∙ ap (watched old) (admits g c) ∙ ap (λ z. watched old (accepts old c.args.list.now z)) (c.commits.ensures.timed ∙ ap (commits_under stores_wait) (begins g c))
    ∙ rw on refl

pub returns-clause-last : goal.returns-clause-last
returns-clause-last g c =
    let old : Timed = c.args.self.now.timed in
    let same : c.watch.new.self.timed.count ≡ c.accept.new.self.timed.count = ap (λ z. z.count) (watches g c) ∙ watched-count old c.accept.new.self.timed in
    c.watch.ensures.last ∙ comes-due g c ∙ ap (λ n. dues (n - old.count) old.arch) (sym same)

pub returns-clause-led : goal.returns-clause-led
unfolding asked_of drained
returns-clause-led g c = λ first before h.
    let old : Timed = c.args.self.now.timed in
    let on : goes_on old.arch ≡ true = ap (λ n. n == 0) c.requires.goes_on in
    let left : c.commits.new.self.timed ≡ commits_under stores_wait (drained (begun old)) = c.commits.ensures.timed ∙ ap (commits_under stores_wait) (begins g c) in
    let shown = asked_shown (old.cycles + 1) (drained (begun old)) on (alone_pending old c.requires.machine) in
    rw on (subst (λ (qs : List Question). g.S.Stages.led first (before ++ qs) c.advance.new.stages) shown
    (subst (λ (m : Timed). g.S.Stages.led first (before ++ asked_in (old.cycles + 1) (record m.arch { end = 0 }) m.under.pending) c.advance.new.stages) left
    (subst (λ (n : ℕ). g.S.Stages.led first (before ++ asked_in n (record c.commits.new.self.timed.arch { end = 0 }) c.commits.new.self.timed.under.pending) c.advance.new.stages) (runs_on g c)
    (c.advance.ensures.led first before h))))

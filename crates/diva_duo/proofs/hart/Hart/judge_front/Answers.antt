use Rattle.std.proofs.Common.{◌≡◌, ◌==◌, true, false, refl, ap, sym, ◌∙◌, subst, arith}
use Rattle.diva_core.specs.Cycle.{committed, past_front}
use Rattle.diva_commit.specs.Committing.{is_committed}
use Rattle.diva_hart.specs.Inner.{JudgesFront}
use Rattle.diva_hart.specs.UnderWay.{config_of, under_of}
use Rattle.diva_hart.specs.declared.under_way.UnderWay.{UnderWay}
use Rattle.diva_duo.specs.Duo.{Hart, timed}
use Rattle.diva_duo.specs.Rules.{fences_wait}
use Rattle.diva_duo.proofs.Fronting.{differing_flushes, due_is, equal_commits, fence_held, past_is, still_waits, store_held, young_waits}
use Rattle.diva_duo.proofs.Growing.{puts_one, puts_same}
use Rattle.diva_duo.proofs.hart.Hart.judge_front.Goals as goal

pub returns-then-saturating_sub-lt-DEPTH-clause-judges : goal.returns-then-saturating_sub-lt-DEPTH-clause-judges
returns-then-saturating_sub-lt-DEPTH-clause-judges c =
    young_waits c.args.memory.now c.args.self.now c.args.cycles c.requires.owed c.requires.running c.self.inside.under.pending.items c.in-Some.front.now (sym c.in-Some.ensures)
    (ap (λ (h : Hart). h.under.pending) (sym c.self.view_is)) (omega arith)

pub returns-in-Some-first_difference-clause-judges : goal.returns-in-Some-first_difference-clause-judges
returns-in-Some-first_difference-clause-judges c =
    differing_flushes c.args.memory.now c.args.self.now c.args.cycles c.requires.owed c.requires.running c.self.inside.under.pending.items c.in-Some.front.now (sym c.in-Some.ensures)
    (ap (λ (h : Hart). h.under.pending) (sym c.self.view_is)) (omega arith) c.due_of-decoded.result.0
    (due_is c.args.memory.now c.args.self.now _ _ c.view.ensures c.due_of-decoded.ensures.record c.requires.goes_on)
    _ c.first_difference.ensures.first _ c.in-Some-first_difference.diff c.in-Some-first_difference.is (c.flush.ensures.timed c.args.memory.now)

pub returns-then-fence_waits-clause-judges : goal.returns-then-fence_waits-clause-judges
returns-then-fence_waits-clause-judges c =
    fence_held c.args.memory.now c.args.self.now c.args.cycles c.requires.owed c.requires.running c.self.inside.under.pending.items c.in-Some.front.now (sym c.in-Some.ensures)
    (ap (λ (h : Hart). h.under.pending) (sym c.self.view_is)) (omega arith) c.due_of-decoded.result.0
    (due_is c.args.memory.now c.args.self.now _ _ c.view.ensures c.due_of-decoded.ensures.record c.requires.goes_on)
    _ c.first_difference.ensures.first c.in_default-first_difference.is c.due_of-decoded.result.1 c.due_of-decoded.ensures.decoded
    (sym c.fence_waits.ensures ∙ c.if-fence_waits.true)

pub returns-then-not-is_committed-clause-judges : goal.returns-then-not-is_committed-clause-judges
returns-then-not-is_committed-clause-judges c =
    let held : is_committed c.settle.result ≡ false = sym c.is_committed.ensures ∙ c.if-not-is_committed.true in
    subst (λ (g : Hart). JudgesFront fences_wait (timed c.args.cycles c.args.memory.now c.args.self.now) (timed c.args.cycles c.args.memory.now g) false) (sym (c.settle.ensures.stays held))
    (store_held c.args.memory.now c.args.self.now c.args.cycles c.requires.owed c.requires.running c.self.inside.under.pending.items c.in-Some.front.now (sym c.in-Some.ensures)
    (ap (λ (h : Hart). h.under.pending) (sym c.self.view_is)) (omega arith) c.due_of-decoded.result.0
    (due_is c.args.memory.now c.args.self.now _ _ c.view.ensures c.due_of-decoded.ensures.record c.requires.goes_on)
    _ c.first_difference.ensures.first c.in_default-first_difference.is c.due_of-decoded.result.1 c.due_of-decoded.ensures.decoded
    (ap is_committed (sym c.settle.ensures.answer) ∙ held))

-- it commits, and what is pending stays but for it
pub leave_front-requires : goal.leave_front-requires
leave_front-requires c =
    still_waits c.self.inside.under.pending.items c.self-2.inside.under.pending.items c.in-Some.front.now (sym c.in-Some.ensures)
    (ap (λ (h : Hart). h.under.pending) c.self-2.view_is ∙ ap (λ u. u.pending) c.settle.ensures.under ∙ ap (λ (h : Hart). h.under.pending) (sym c.self.view_is))

pub returns-clause-judges : goal.returns-clause-judges
returns-clause-judges c =
    let mem = c.args.memory.now in
    let h : Hart = c.args.self.now in
    let own = c.self-2.inside in
    let with : UnderWay → Hart = λ (u : UnderWay). record { config = config_of own.arch.stores 1 u; state = own.arch.state; under = under_of u } in
    let here = due_is mem h _ c.due_of-decoded.result.0 c.view.ensures c.due_of-decoded.ensures.record c.requires.goes_on in
    let done : is_committed c.settle.result ≡ true = sym c.is_committed.ensures ∙ c.if-not-is_committed.false in
    let settled : timed c.args.cycles mem (with own.under) ≡ committed (timed c.args.cycles mem h) c.due_of-decoded.result.0 =
    ap (timed c.args.cycles mem) c.self-2.view_is ∙ c.settle.ensures.timed c.args.cycles done in
    let past : timed c.args.cycles mem (with c.leave_front.new.self) ≡ past_front (timed c.args.cycles mem h) =
    ap (λ (u : UnderWay). timed c.args.cycles mem (with u)) c.leave_front.ensures
    ∙ past_is mem h c.args.cycles c.requires.owed c.requires.running (with own.under) c.due_of-decoded.result.0 here settled own.under.pending.items refl (own.arch.state.end == 0) refl in
    equal_commits mem h c.args.cycles c.requires.owed c.requires.running c.self.inside.under.pending.items c.in-Some.front.now (sym c.in-Some.ensures)
    (ap (λ (x : Hart). x.under.pending) (sym c.self.view_is)) (omega arith) c.due_of-decoded.result.0 here
    _ c.first_difference.ensures.first c.in_default-first_difference.is c.due_of-decoded.result.1 c.due_of-decoded.ensures.decoded
    (sym c.fence_waits.ensures ∙ c.if-fence_waits.false) (ap is_committed (sym c.settle.ensures.answer) ∙ done) _ c.goes_on.result past c.goes_on.ensures

pub returns-clause-buffer : goal.returns-clause-buffer
returns-clause-buffer c =
    let mem = c.args.memory.now in
    let h : Hart = c.args.self.now in
    let own = c.self-2.inside in
    let done : is_committed c.settle.result ≡ true = sym c.is_committed.ensures ∙ c.if-not-is_committed.false in
    puts_same mem h c.settle.new.self
    (record { config = config_of own.arch.stores 1 c.leave_front.new.self; state = own.arch.state; under = under_of c.leave_front.new.self }) (ap (λ (x : Hart). x.state) c.self-2.view_is)
    (puts_one mem h c.settle.new.self c.args.cycles (timed c.args.cycles mem h) c.due_of-decoded.result.0 (c.settle.ensures.timed c.args.cycles done) refl
    (due_is mem h _ c.due_of-decoded.result.0 c.view.ensures c.due_of-decoded.ensures.record c.requires.goes_on) (c.settle.ensures.buffer done))

use Rattle.std.proofs.Common.{◌≡◌, ◌≤◌, ℕ, ◌+◌, ◌^◌, ◌++◌, sym, subst, ap, ◌∙◌, arith, rules}
use Rattle.diva_isa.specs.declared.record.Record.{Record}
use Rattle.diva_isa.specs.End.{IsEnd}
use Rattle.diva_isa.specs.State.{State}
use Rattle.diva_isa.proofs.Counting.{numbered, record_counted}
use Rattle.diva_isa.proofs.Ends.{end_record_of}
use Rattle.diva_commit.specs.Committing.{IsDueButInstret, buffered, is_committed}
use Rattle.diva_commit.proofs.Answering.{committed_none}
use Rattle.diva_commit.proofs.Storing.{owed_more}
use Rattle.diva_hart.specs.HartArch.{HartArch, seen}
use Rattle.diva_hart.proofs.arch.HartArch.commit.Goals as goal

-- the number of instructions is of no matter but to a value
pub commit_by-answer-requires-clause-due : goal.commit_by-answer-requires-clause-due
commit_by-answer-requires-clause-due c = λ none.
    let s : State = seen c.args.memory.now c.args.self.now.state in
    let due : IsDueButInstret (numbered s 0) c.args.r.now = rw (c.requires.due none) (record_counted s 0) in
    let going : IsDueButInstret (record (numbered s 0) { end = 0 }) c.args.r.now = subst (λ (end : ℕ). IsDueButInstret (record (numbered s 0) { end = end }) c.args.r.now) c.requires.goes_on due in
    subst (λ (h : HartArch). IsDueButInstret (record (numbered (seen c.args.memory.now h.state) 0) { end = 0 }) c.args.r.now) (sym c.self.view_is) going

pub invariant_of-self : goal.invariant_of-self
invariant_of-self c =
    let yes = ap is_committed (sym c.commit_by-answer.ensures.answer) ∙ sym c.is_committed.ensures ∙ c.if-is_committed.true in
    let is : c.self.inside.count ≡ c.args.self.now.state.instret = ap (λ (h : HartArch). h.state.instret) c.self.view_is in
    let count : c.self.inside.count + 1 ≤ 2 ^ 62 = (let before = c.requires.count in omega arith) in
    let end : IsEnd c.args.r.now.end = subst (λ (x : Record). IsEnd x.end) (sym (c.requires.due (committed_none _ _ _ yes))) (end_record_of _) in
    search rules

pub returns-then-is_committed-clause-owed : goal.returns-then-is_committed-clause-owed
returns-then-is_committed-clause-owed c = λ yes.
    owed_more c.args.self.now.state.buffer c.commit_by-answer.new.queue.items c.args.r.now
    (c.commit_by-answer.ensures.queued yes ∙ ap (λ (h : HartArch). h.state.buffer ++ buffered c.args.r.now) c.self.view_is)

use Rattle.std.proofs.Common.{◌≡◌, ◌≤◌, ◌++◌, List, [], length, refl, sym, subst, ap, ◌∙◌, arith}
use Rattle.std.proofs.lemmas.List.{append-nil, length-map, take_all}
use Rattle.diva_core.specs.Entries.{pending_claim_of}
use Rattle.diva_isa.specs.State.{State}
use Rattle.diva_vote.specs.Questions.{Question}
use Rattle.diva_machine.specs.Asked.{asked_in}
use Rattle.diva_machine.proofs.Asking.{none_before}
use Rattle.diva_machine.specs.Staged.{Parts}
use Rattle.diva_machine.proofs.Staging.{stages_begin, stages_end}
use Rattle.diva_machine.proofs.parts.Parts.advance.Goals as goal

pub returns-else-self-len-clause-staged : goal.returns-else-self-len-clause-staged
returns-else-self-len-clause-staged g c =
    let w = c.args.self.now in
    let begins = stages_begin w c.requires.cycles c.requires.staged in
    let more = begins.1 in
    let whole : length w.entries ≤ w.passed = subst (λ (z : Parts). length z.entries ≤ z.passed) c.self.view_is (let len = c.len.ensures.len in let none = c.if-self-len.false in omega arith) in
    stages_end w w w.passed c.requires.cycles refl (sym c.requires.staged.waits) c.requires.staged whole begins.0 (λ h. omega arith) c.requires.staged.future

pub returns-else-self-len-clause-led : goal.returns-else-self-len-clause-led
returns-else-self-len-clause-led g c = λ first before h.
    let w = c.args.self.now in
    let whole : length w.entries ≤ w.passed = subst (λ (z : Parts). length z.entries ≤ z.passed) c.self.view_is (let len = c.len.ensures.len in let none = c.if-self-len.false in omega arith) in
    let few : length w.timed.under.pending ≤ w.passed = (let e = ap (λ ps. length ps) c.requires.staged.waits in let m = length-map w.entries pending_claim_of in omega arith) in
    let shown : State = record w.timed.arch { end = 0 } in
    let none : asked_in w.timed.cycles shown w.timed.under.pending ≡ [] = ap (λ ps. asked_in w.timed.cycles shown ps) (sym (take_all w.passed w.timed.under.pending few)) ∙ none_before w shown c.requires.cycles c.requires.staged in
    subst (λ (qs : List Question). g.S.Stages.led first (before ++ qs) c.args.stages.now) (sym none) (rw (append-nil before) h)

-- A stage that compares asks the lanes; the decode stage does not.
use Rattle.std.proofs.Common.{arith}
use Rattle.diva_machine.specs.Asked.{stages_at}
use Rattle.diva_machine.proofs.Asking.{lanes_more, lanes_none}
use Rattle.diva_machine.proofs.Staging.{decode_passed}
use Rattle.diva_machine.proofs.panel.PanelStages.pass.Goals as goal

pub returns-in-1-clause-led : goal.returns-in-1-clause-led
unfolding stages_at
returns-in-1-clause-led g c = λ e first before here h.
    lanes_more _ _ _ first _ _ before c.args.age 1 _ e.claim (let is = c.in-1.is in omega arith) h (c.ask.ensures.led e here)

pub returns-in-1-clause-advanced : goal.returns-in-1-clause-advanced
returns-in-1-clause-advanced g c = λ now e here age adv.
    c.ask.ensures.advanced now e here (let is = c.in-1.is in omega arith) adv

pub returns-in-3-clause-led : goal.returns-in-3-clause-led
unfolding stages_at
returns-in-3-clause-led g c = λ e first before here h.
    lanes_more _ _ _ first _ _ before c.args.age 3 _ e.claim (let is = c.in-3.is in omega arith) h (c.ask-in-3.ensures.led e here)

pub returns-in-3-clause-advanced : goal.returns-in-3-clause-advanced
returns-in-3-clause-advanced g c = λ now e here age adv.
    c.ask-in-3.ensures.advanced now e here (let is = c.in-3.is in omega arith) adv

pub returns-in-4-clause-led : goal.returns-in-4-clause-led
unfolding stages_at
returns-in-4-clause-led g c = λ e first before here h.
    lanes_more _ _ _ first _ _ before c.args.age 4 _ e.claim (let is = c.in-4.is in omega arith) h (c.ask-in-4.ensures.led e here)

pub returns-in-4-clause-advanced : goal.returns-in-4-clause-advanced
returns-in-4-clause-advanced g c = λ now e here age adv.
    c.ask-in-4.ensures.advanced now e here (let is = c.in-4.is in omega arith) adv

pub returns-in-5-clause-led : goal.returns-in-5-clause-led
unfolding stages_at
returns-in-5-clause-led g c = λ e first before here h.
    lanes_more _ _ _ first _ _ before c.args.age 5 _ e.claim (let is = c.in-5.is in omega arith) h (c.ask-in-5.ensures.led e here)

pub returns-in-5-clause-advanced : goal.returns-in-5-clause-advanced
returns-in-5-clause-advanced g c = λ now e here age adv.
    c.ask-in-5.ensures.advanced now e here (let is = c.in-5.is in omega arith) adv

pub returns-in-2-clause-led : goal.returns-in-2-clause-led
unfolding stages_at
returns-in-2-clause-led g c = λ e first before here h.
    lanes_more _ _ _ first _ _ before c.args.age 2 _ e.claim (let is = c.in-2.is in omega arith) h (lanes_none _ _ _ _)

pub returns-in-2-clause-advanced : goal.returns-in-2-clause-advanced
returns-in-2-clause-advanced g c = λ now e here age adv.
    decode_passed _ _ _ now c.args.at e here (c.note_decoded.ensures.items e here) (let is = c.in-2.is in omega arith) adv

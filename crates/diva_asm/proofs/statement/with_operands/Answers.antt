use Rattle.std.proofs.Common.{◌∙◌, sym, drop, arith, length-drop}
use Rattle.std.proofs.lemmas.List.{drop_all}
use Rattle.diva_asm.proofs.Shapes.{no_texts, texts_left}
use Rattle.diva_asm.proofs.statement.with_operands.Goals as goal

pub returns-in-None : goal.returns-in-None
returns-in-None c =
    let operands = c.args.operands.now in
    let i = c.loop-operand.operand-index in
    let left = rw c.in-None.is at c.loop-operand.invariant.shapes in
    let unshaped = left ∙ no_texts (drop i operands) (rw length-drop (omega arith)) in
    λ shaped. absurd (cc (sym shaped ∙ unshaped))

pub returns-in-Some-texts : goal.returns-in-Some-texts
returns-in-Some-texts c =
    let operands = c.args.operands.now in
    let i = c.loop-operand.operand-index in
    let left = rw (c.in-Some-texts.is, drop_all i operands (omega arith)) at c.loop-operand.invariant.shapes in
    let unshaped = left ∙ texts_left c.in-Some-texts.field-0.now in
    λ shaped. absurd (cc (sym shaped ∙ unshaped))

use Rattle.std.proofs.Common.{◌∙◌, ap}
use Rattle.diva_outside.specs.Steps.{and_then}
use Rattle.diva_asm.specs.Laying.{with_label, with_text, with_statement_of}
use Rattle.diva_asm.proofs.Stopping.{text_more, text_ends, stopped, given}
use Rattle.diva_asm.proofs.laying.Laid.with_line.Goals as goal

pub returns-in-Err : goal.returns-in-Err
returns-in-Err c =
    let laid = c.label.laid in
    let rest = c.in-Some.rest.now in
    let name = c.in-Some.name.now in
    stopped (with_label laid name) (λ next. with_text next rest) _ _
    (c.label.invariant ∙ text_more laid c.label.text.now name rest c.in-Some.ensures.label) c.in-Err.ensures

pub label-preserved : goal.label-preserved
label-preserved c =
    let laid = c.label.laid in
    let rest = c.in-Some.rest.now in
    let name = c.in-Some.name.now in
    c.label.invariant ∙ text_more laid c.label.text.now name rest c.in-Some.ensures.label ∙ ap (λ d. and_then d (λ next. with_text next rest)) c.in-Ok.ensures

pub returns : goal.returns
returns c =
    given (with_statement_of c.label.laid c.label.text.now) _ c.with_statement_of.result
    (c.label.invariant ∙ text_ends c.label.laid c.label.text.now c.in_default.ensures.label) c.with_statement_of.ensures

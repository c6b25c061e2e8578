-- What holds of the lines so far goes on to the next one, and what is promised follows from it.
use Rattle.std.proofs.Common.{◌∙◌, refl}
use Rattle.std.proofs.lemmas.Result.{err_from_is_err_and}
use Rattle.diva_judge.proofs.SoFar.{after_nothing, after_said, begins, cut_refused, cut_said, cut_unread, cut_whole, judged_refused, judged_unread, judged_whole, said_is}
use Rattle.diva_judge.proofs.log.judge_lines.Goals as goal

pub loop-number-init : goal.loop-number-init
loop-number-init g c = record {
  so_far = begins _ _ c.args.terms c.args.m.now.timed c.args.log.now c.args.sink.now c.requires.new c.requires.kept;
  same_source = refl;
}

pub returns-in_err-put_last-in-Ok-false-clause-judging : goal.returns-in_err-put_last-in-Ok-false-clause-judging
returns-in_err-put_last-in-Ok-false-clause-judging g c =
    let failed = err_from_is_err_and c.from_residual.result c.from_residual.ensures.1 in
    rw failed.1 (cut_whole _ _ _ _ _ _ _ _ _ _ _ _ c.loop-number.invariant.so_far _ (rw c.in-Ok-false.field-0-test at c.in-Ok-false.ensures.reads) _ failed.0 c.in_err-put_last-in-Ok-false.ensures)

pub returns-in-Ok-false-clause-judging : goal.returns-in-Ok-false-clause-judging
returns-in-Ok-false-clause-judging g c =
    rw c.verdict.ensures (judged_whole _ _ _ _ _ _ _ _ _ _ _ _ c.loop-number.invariant.so_far _ (rw c.in-Ok-false.field-0-test at c.in-Ok-false.ensures.reads) _ c.in_ok-put_last-in-Ok-false.ensures)

pub returns-in_err-put_unreadable-in-Err-clause-judging : goal.returns-in_err-put_unreadable-in-Err-clause-judging
returns-in_err-put_unreadable-in-Err-clause-judging g c =
    let failed = err_from_is_err_and c.from_residual-in_err-put_unreadable-in-Err.result c.from_residual-in_err-put_unreadable-in-Err.ensures.1 in
    rw failed.1 (cut_unread _ _ _ _ _ _ _ _ _ _ _ _ c.loop-number.invariant.so_far _ _ c.in-Err.ensures.reads _ failed.0 c.in_err-put_unreadable-in-Err.ensures)

pub returns-in-Err-clause-judging : goal.returns-in-Err-clause-judging
returns-in-Err-clause-judging g c =
    judged_unread _ _ _ _ _ _ _ _ _ _ _ _ c.loop-number.invariant.so_far _ _ c.in-Err.ensures.reads _ c.in_ok-put_unreadable-in-Err.ensures

pub loop-number-preserved-in-Continue-branch-3 : goal.loop-number-preserved-in-Continue-branch-3
loop-number-preserved-in-Continue-branch-3 g c = record {
  so_far = after_said _ _ _ _ _ _ _ _ _ _ _ _ c.loop-number.invariant.so_far _ (rw c.in-Ok-true.field-0-test at c.in-Ok-true.ensures.reads) _ (said_is _ _ _ _ _ _ _ _ _ _ _ _ c.loop-number.invariant.so_far _ (rw c.in-Ok-true.field-0-test at c.in-Ok-true.ensures.reads) _ c.read_said.ensures ∙ (rw c.in-Ok-Some.field-0-is at c.in-Ok-Some.is)) _ c.judge_said.ensures.kept c.judge_said.ensures.judged _ c.in_ok-judge_said-in-Ok-Some.ensures.puts;
  same_source = c.next.ensures.same_source ∙ c.loop-number.invariant.same_source;
}

pub returns-in_err-judge_said-in-Ok-Some-clause-judging : goal.returns-in_err-judge_said-in-Ok-Some-clause-judging
returns-in_err-judge_said-in-Ok-Some-clause-judging g c =
    let failed = err_from_is_err_and c.from_residual-in_err-judge_said-in-Ok-Some.result c.from_residual-in_err-judge_said-in-Ok-Some.ensures.1 in
    rw failed.1 (cut_said _ _ _ _ _ _ _ _ _ _ _ _ c.loop-number.invariant.so_far _ (rw c.in-Ok-true.field-0-test at c.in-Ok-true.ensures.reads) _ (said_is _ _ _ _ _ _ _ _ _ _ _ _ c.loop-number.invariant.so_far _ (rw c.in-Ok-true.field-0-test at c.in-Ok-true.ensures.reads) _ c.read_said.ensures ∙ (rw c.in-Ok-Some.field-0-is at c.in-Ok-Some.is)) _ c.judge_said.ensures.kept c.judge_said.ensures.judged _ failed.0 c.in_err-judge_said-in-Ok-Some.ensures.puts)

pub loop-number-preserved : goal.loop-number-preserved
loop-number-preserved g c = record {
  so_far = after_nothing _ _ _ _ _ _ _ _ _ _ _ _ c.loop-number.invariant.so_far _ (rw c.in-Ok-true.field-0-test at c.in-Ok-true.ensures.reads) (said_is _ _ _ _ _ _ _ _ _ _ _ _ c.loop-number.invariant.so_far _ (rw c.in-Ok-true.field-0-test at c.in-Ok-true.ensures.reads) _ c.read_said.ensures ∙ (rw c.in-Ok-None.field-0-is at c.in-Ok-None.is));
  same_source = c.next.ensures.same_source ∙ c.loop-number.invariant.same_source;
}

pub returns-in_err-put_line-in-Err-read_said-clause-judging : goal.returns-in_err-put_line-in-Err-read_said-clause-judging
returns-in_err-put_line-in-Err-read_said-clause-judging g c =
    let failed = err_from_is_err_and c.from_residual-in_err-put_line-in-Err-read_said.result c.from_residual-in_err-put_line-in-Err-read_said.ensures.1 in
    rw failed.1 (cut_refused _ _ _ _ _ _ _ _ _ _ _ _ c.loop-number.invariant.so_far _ (rw c.in-Ok-true.field-0-test at c.in-Ok-true.ensures.reads) _ (said_is _ _ _ _ _ _ _ _ _ _ _ _ c.loop-number.invariant.so_far _ (rw c.in-Ok-true.field-0-test at c.in-Ok-true.ensures.reads) _ c.read_said.ensures ∙ c.in-Err-read_said.is) _ failed.0 (rw c.refused_line.ensures at c.in_err-put_line-in-Err-read_said.ensures))

pub returns-in-Err-read_said-clause-judging : goal.returns-in-Err-read_said-clause-judging
returns-in-Err-read_said-clause-judging g c =
    judged_refused _ _ _ _ _ _ _ _ _ _ _ _ c.loop-number.invariant.so_far _ (rw c.in-Ok-true.field-0-test at c.in-Ok-true.ensures.reads) _ (said_is _ _ _ _ _ _ _ _ _ _ _ _ c.loop-number.invariant.so_far _ (rw c.in-Ok-true.field-0-test at c.in-Ok-true.ensures.reads) _ c.read_said.ensures ∙ c.in-Err-read_said.is) _ (rw c.refused_line.ensures at c.in_ok-put_line-in-Err-read_said.ensures)

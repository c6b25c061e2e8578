-- What is written of a log that is judged, or that can't be opened.
use Rattle.std.proofs.Common.{ap}
use Rattle.diva_core.specs.Timed.{Timed}
use Rattle.diva_workbench.proofs.JudgeRunning.{wrote_judgement, wrote_unread}
use Rattle.diva_workbench.proofs.judging.judge_ready.Goals as goal

pub returns-in-Err : goal.returns-in-Err
returns-in-Err g c = λ bytes is.
    wrote_unread c.args.options.now bytes g.D.Source.account c.args.source.now _ _ c.put_unopened.result _ c.in-Err.field-0 c.in-Err.is
    (rw c.as_str.ensures at c.open.ensures) c.put_unopened.ensures

pub returns-in-Ok : goal.returns-in-Ok
returns-in-Ok g c = λ bytes is.
    wrote_judgement c.args.options.now bytes g.D.Source.account c.args.source.now _ _ c.judge_open.result _ c.in-Ok.is _ _
    (ap (λ (m : Timed). m.arch) is.begun) (rw c.as_str.ensures at c.open.ensures) c.judge_open.ensures

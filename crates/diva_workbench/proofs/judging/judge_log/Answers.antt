-- What was loaded, and what was written of it, come to an answer.
use Rattle.std.proofs.Common.{refl}
use Rattle.diva_workbench.proofs.LabWorking.{judged_answers, unjudged_answers}
use Rattle.diva_workbench.proofs.judging.judge_log.Goals as goal

pub returns-in-Ok : goal.returns-in-Ok
returns-in-Ok g c =
    judged_answers _ _ _ c.args.options.now _ _ _ refl c.in-Ok.ensures.ready c.in-Ok.ensures.uncounted c.judge_ready.ensures

pub returns-in-Err : goal.returns-in-Err
returns-in-Err g c = unjudged_answers _ _ _ c.args.options.now _ c.in-Err.stop _ refl refl c.in-Err.ensures.stopped c.write_stop.ensures

-- What was loaded, and what was written of it, come to an answer.
use Rattle.std.proofs.Common.{refl}
use Rattle.diva_args.specs.declared.job.Job.TheVariants.{Run}
use Rattle.diva_cli.proofs.Working.{ready_answers, unready_answers}
use Rattle.diva_cli.proofs.run.run.Goals as goal

pub returns-in-Ok : goal.returns-in-Ok
returns-in-Ok g c =
    ready_answers g.C.Core.gives _ _ _ _ (Run c.args.options) _ c.args.options.setup _ _ _ refl refl
    c.in-Ok.ensures.ready c.in-Ok.ensures.uncounted c.run_ready.ensures

pub returns-in-Err : goal.returns-in-Err
returns-in-Err g c =
    unready_answers g.C.Core.gives _ _ _ _ (Run c.args.options) _ c.args.options.setup c.in-Err.stop _ refl refl refl
    c.in-Err.ensures.stopped c.write_stop.ensures

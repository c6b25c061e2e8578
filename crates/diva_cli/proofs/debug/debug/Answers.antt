-- What was loaded, and what was written of it, come to an answer.
use Rattle.std.proofs.Common.{refl}
use Rattle.diva_args.specs.declared.job.Job.TheVariants.{Debug}
use Rattle.diva_cli.proofs.Working.{done_answers, stop_answers}
use Rattle.diva_cli.proofs.debug.debug.Goals as goal

pub returns-in-Ok : goal.returns-in-Ok
returns-in-Ok g c =
    let h = c.in-Ok.ensures.session in
    done_answers g.C.Core.gives _ _ _ _ (Debug c.args.options) h.bytes _ _ h.sound c.in-Ok.ensures.uncounted (c.debug_ready.ensures h.bytes h.is)

pub returns-in-Err : goal.returns-in-Err
returns-in-Err g c =
    stop_answers g.C.Core.gives _ _ _ _ (Debug c.args.options) c.in-Err.stop _ refl c.in-Err.ensures.stopped c.write_stop.ensures

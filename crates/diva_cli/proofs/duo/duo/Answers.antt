-- What was loaded, and what was written of it, come to an answer.
use Rattle.std.proofs.Common.{refl}
use Rattle.diva_args.specs.declared.job.Job.TheVariants.{Duo}
use Rattle.diva_cli.proofs.Working.{done_answers, stop_answers}
use Rattle.diva_cli.proofs.duo.duo.Goals as goal

pub returns-in-Ok : goal.returns-in-Ok
returns-in-Ok g c =
    let held = c.in-Ok.ensures.ready in
    done_answers g.C.Core.gives _ _ _ _ (Duo c.args.options) held.bytes _ _ held.sound c.in-Ok.ensures.uncounted (c.duo_ready.ensures held.bytes held.is)

pub returns : goal.returns
returns g c =
    stop_answers g.C.Core.gives _ _ _ _ (Duo c.args.options) c.in-Err.stop _ refl c.in-Err.ensures.stopped c.write_stop.ensures

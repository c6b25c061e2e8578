-- What was loaded, and what was written of the runs, come to an answer.
use Rattle.diva_args.specs.declared.job.Job.TheVariants.{Campaign}
use Rattle.diva_cli.proofs.Working.{done_answers, promises_less, stop_answers}
use Rattle.diva_cli.specs.Parts.{no_lanes}
use Rattle.diva_cli.proofs.campaign.campaign.Goals as goal

pub returns-in-Ok : goal.returns-in-Ok
returns-in-Ok g c =
    let held = c.in-Ok.ensures.runs in
    promises_less g.C.Core.gives _ _ no_lanes _ (λ liar asked none. rw none c.load_and_run.ensures.lanes) _ _ _ _
    (done_answers g.C.Core.gives _ _ no_lanes _ (Campaign c.args.options) held.bytes _ _ held.sound c.in-Ok.ensures.uncounted (c.show.ensures c.args.options held.bytes held.are))

pub returns : goal.returns
returns g c =
    stop_answers g.C.Core.gives _ _ _ _ (Campaign c.args.options) c.in-Err.stop _ c.load_and_run.ensures.lanes c.in-Err.ensures.stopped c.write_stop.ensures

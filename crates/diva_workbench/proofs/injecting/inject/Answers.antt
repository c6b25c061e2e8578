-- What was loaded, and what was written of it, come to an answer.
use Rattle.diva_workbench.proofs.InjectRunning.{injects, tried_answers, untried_answers}
use Rattle.diva_workbench.proofs.injecting.inject.Goals as goal

pub returns-in-Ok : goal.returns-in-Ok
returns-in-Ok g c =
    let held = c.in-Ok.ensures.loaded in
    tried_answers g.C.Core.gives _ _ _ c.args.options held.bytes _ held.sound c.in-Ok.ensures.uncounted
    (injects g.C.Core.gives c.args.options held.bytes c.in-Ok.loaded _ _ _ _ c.inject_loaded.ensures.config held.is _ c.inject_loaded.ensures.injects)

pub returns-in-Err : goal.returns-in-Err
returns-in-Err g c = untried_answers g.C.Core.gives _ _ _ c.args.options c.in-Err.stop _ c.in-Err.ensures.stopped c.write_stop.ensures

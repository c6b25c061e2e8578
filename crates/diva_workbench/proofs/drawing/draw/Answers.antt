-- What was loaded, and what was written of it, come to an answer.
use Rattle.std.proofs.Common.{refl}
use Rattle.diva_workbench.proofs.LabWorking.{drawn_answers, undrawn_answers}
use Rattle.diva_workbench.proofs.drawing.draw.Goals as goal

pub returns-in-Ok : goal.returns-in-Ok
returns-in-Ok g c =
    drawn_answers g.C.Core.gives _ _ _ _ c.args.options _ _ _ _ refl
    c.in-Ok.ensures.ready c.in-Ok.ensures.uncounted c.draw_ready.ensures

pub returns-in-Err : goal.returns-in-Err
returns-in-Err g c =
    undrawn_answers g.C.Core.gives _ _ _ _ c.args.options _ c.in-Err.stop _ refl refl
    c.in-Err.ensures.stopped c.write_stop.ensures

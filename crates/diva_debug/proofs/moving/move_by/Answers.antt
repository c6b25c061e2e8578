-- As far as there are steps, or none.
use Rattle.diva_debug.specs.Moves.{steps_by}
use Rattle.diva_debug.proofs.Advancing.{advances_none}
use Rattle.diva_debug.proofs.moving.move_by.Goals as goal

pub returns-in-Until-clause-on : goal.returns-in-Until-clause-on
unfolding steps_by
returns-in-Until-clause-on g c on = rw c.in-Until.is c.seek.ensures

pub returns-in-Reg-clause-on : goal.returns-in-Reg-clause-on
unfolding steps_by
returns-in-Reg-clause-on g c on = rw c.in-Reg.is (advances_none g.C.Core.gives c.args.m.now c.args.core.now c.requires.sound)

pub returns-in-Mem-clause-on : goal.returns-in-Mem-clause-on
unfolding steps_by
returns-in-Mem-clause-on g c on = rw c.in-Mem.is (advances_none g.C.Core.gives c.args.m.now c.args.core.now c.requires.sound)

pub returns-in-Why-clause-on : goal.returns-in-Why-clause-on
unfolding steps_by
returns-in-Why-clause-on g c on = rw c.in-Why.is (advances_none g.C.Core.gives c.args.m.now c.args.core.now c.requires.sound)

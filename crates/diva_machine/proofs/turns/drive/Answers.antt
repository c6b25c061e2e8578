use Rattle.diva_machine.proofs.Driving.{drives}
use Rattle.diva_machine.proofs.turns.drive.Goals as goal

pub returns-clause-is : goal.returns-clause-is
returns-clause-is g c =
    record {
      drives = drives g.C.Core.gives _ _ _ _ c.drive_by.ensures.led.taken c.drive_by.ensures.was;
      ended = c.drive_by.ensures.ended;
      budget = c.drive_by.ensures.budget;
      within = c.drive_by.ensures.within;
      stays = λ off. let s = c.drive_by.ensures.stays off in (s.0, s.1);
    }

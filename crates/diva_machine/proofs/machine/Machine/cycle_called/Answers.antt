use Rattle.diva_machine.proofs.Laws.{is_cycle}
use Rattle.diva_machine.proofs.machine.Machine.cycle_called.Goals as goal

pub returns-clause-is : goal.returns-clause-is
returns-clause-is g c = is_cycle _ _ _ c.cycle_by.ensures.was c.cycle_by.ensures.cycled c.cycle_by.ensures.last c.cycle_by.ensures.checked c.cycle_by.ensures.stays

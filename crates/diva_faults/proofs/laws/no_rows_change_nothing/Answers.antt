use Rattle.diva_faults.proofs.Spoiling.{scripted-none, spoiled-none, none-spoiled}
use Rattle.diva_faults.proofs.laws.no_rows_change_nothing.Goals as goal

pub returns-clause-lists : goal.returns-clause-lists
returns-clause-lists g c = scripted-none

pub returns-clause-cores : goal.returns-clause-cores
returns-clause-cores g c = λ before told s list after.
    (none-spoiled g.C.Core.gives before told s list after, spoiled-none g.C.Core.gives before told s list after)

-- Nothing was asked yet.
use Rattle.diva_machine.proofs.Asking.{lanes_none}
use Rattle.diva_machine.proofs.panel.Panel.new.Goals as goal

pub returns-clause-begins : goal.returns-clause-begins
returns-clause-begins g c = lanes_none g.A.Lane.says g.B.Lane.says g.L.Lane.says _

-- What its type keeps of the entries is said of the machine's value.
use Rattle.std.proofs.Common.{subst}
use Rattle.diva_machine.specs.Machine.{Machine}
use Rattle.diva_machine.specs.Staged.{AreChecked}
use Rattle.diva_machine.proofs.machine.Machine.recall.Goals as goal

pub returns-clause-checked : goal.returns-clause-checked
returns-clause-checked c =
    subst (λ (z : Machine). AreChecked z.timed.arch z.timed.cycles z.entries) c.self.view_is c.self.invariant.1.0.checked

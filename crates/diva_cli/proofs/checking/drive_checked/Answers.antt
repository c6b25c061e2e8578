-- With no liar no lane is asked.
use Rattle.diva_cli.proofs.checking.drive_checked.Goals as goal

pub returns-in-Some-clause-drives : goal.returns-in-Some-clause-drives
returns-in-Some-clause-drives g c = rw c.in-Some.is c.drive_with_liar.ensures.drives

-- The code's table is the definitions'.
use Rattle.diva_lab_args.proofs.LabLaw.{lab_is_exact}
use Rattle.diva_lab_args.proofs.commands.lab_matches.Goals as goal

pub matches-requires : goal.matches-requires
matches-requires c = lab_is_exact

pub returns : goal.returns
returns c = c.matches.ensures

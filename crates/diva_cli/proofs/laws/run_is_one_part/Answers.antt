use Rattle.diva_cli.proofs.Handing.{legs_are_turns}
use Rattle.diva_cli.proofs.Sessions.{read_off}
use Rattle.diva_cli.proofs.laws.run_is_one_part.Goals as goal

pub returns-clause-off : goal.returns-clause-off
returns-clause-off g c = read_off g.C.Core.gives

pub returns-clause-turns : goal.returns-clause-turns
returns-clause-turns g c = legs_are_turns g.C.Core.gives

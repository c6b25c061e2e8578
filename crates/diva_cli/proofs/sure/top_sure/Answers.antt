-- What comes of a job over files and a sink that never fail.
use Rattle.std.proofs.Common.{sym}
use Rattle.diva_cli.proofs.Ending.{job_done}
use Rattle.diva_cli.proofs.Unfailing.{sure_number}
use Rattle.diva_cli.proofs.sure.top_sure.Goals as goal

pub returns : goal.returns
returns g c = rw (sym c.new-files.ensures) (sure_number _ _ job_done _ _ _ _ _ c.top.ensures)

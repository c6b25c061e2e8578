-- So is a drive under a script, which is asked in the cycles that a row touches.
use Rattle.diva_faults.specs.Spoiled.{spoiled}
use Rattle.diva_cli.proofs.Handing.{plays_quiet}
use Rattle.diva_cli.proofs.tasks.QuietTask.scripted.Goals as goal

pub returns : goal.returns
returns g c =
    plays_quiet (spoiled c.args.script.now g.D.Core.gives) _ _ _ _ _ g.S.Sink.account _ _ c.drive_scripted.ensures.drives

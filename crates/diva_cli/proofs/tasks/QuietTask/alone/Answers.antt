-- A drive is one part.
use Rattle.diva_cli.proofs.Handing.{drives_for, plays_quiet}
use Rattle.diva_cli.specs.Lanes.{are_asked}
use Rattle.diva_cli.proofs.tasks.QuietTask.alone.Goals as goal

pub returns : goal.returns
returns g c =
    plays_quiet g.D.Core.gives _ _ _ _ _ g.S.Sink.account _ (are_asked g.L.Lane.says c.args.lanes.now c.drive_checked.new.lanes c.args.self.now.liar)
    (drives_for g.D.Core.gives _ _ _ _ _ c.drive_checked.result _
    c.drive_checked.ensures.drives.drives.turns c.drive_checked.ensures.drives.asked c.drive_checked.ensures.is.within c.drive_checked.ensures.is.ended c.drive_checked.ensures.is.budget)

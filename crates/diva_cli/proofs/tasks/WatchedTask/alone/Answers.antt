-- Turns that are watched are one part.
use Rattle.diva_cli.proofs.Handing.{plays_turns}
use Rattle.diva_cli.proofs.tasks.WatchedTask.alone.Goals as goal

pub returns : goal.returns
returns g c = plays_turns g.D.Core.gives _ _ _ _ _ c.watch_checked.ensures.drives.turns c.watch_checked.ensures.done

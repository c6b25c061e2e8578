-- The legs of a core under a script are those of the core that was lent.
use Rattle.std.proofs.Common.{rules}
use Rattle.diva_cli.proofs.Handing.{plays_faulty}
use Rattle.diva_cli.proofs.tasks.Task.scripted.Goals as goal

pub returns : goal.returns
returns g c = plays_faulty g.D.Core.gives _ _ _ _ _ _ _ _ c.new-faulty.ensures.inner c.new-faulty.ensures.script (search rules) c.alone.ensures

-- No lane is asked for a reply.
use Rattle.std.proofs.Common.{refl}
use Rattle.diva_cli.proofs.Handing.{plays_so}
use Rattle.diva_cli.proofs.tasks.RepliesTask.alone.Goals as goal

pub returns : goal.returns
returns g c = plays_so g.D.Core.gives _ _ _ _ _ _ (λ parts done. (done, refl)) c.reply_each.ensures

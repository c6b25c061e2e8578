use Rattle.diva_ooo.proofs.Marking.{or_has}
use Rattle.diva_ooo.proofs.mark_set.MarkSet.put_all.Goals as goal

pub returns : goal.returns
returns c = or_has c.args.self.now.bits c.args.others.bits

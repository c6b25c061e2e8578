use Rattle.diva_ooo.proofs.Marking.{keep_has}
use Rattle.diva_ooo.proofs.mark_set.MarkSet.below.Goals as goal

pub returns : goal.returns
returns c = keep_has c.args.self.bits c.args.end c.requires

use Rattle.diva_ooo.proofs.Marking.{lowered_has}
use Rattle.diva_ooo.proofs.mark_set.MarkSet.lowered.Goals as goal

pub returns : goal.returns
returns c = lowered_has c.args.self.bits c.args.by

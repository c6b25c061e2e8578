use Rattle.diva_ooo.proofs.Marking.{has_bit}
use Rattle.diva_ooo.proofs.mark_set.MarkSet.has.Goals as goal

pub returns : goal.returns
returns c = has_bit c.args.self.bits c.args.mark

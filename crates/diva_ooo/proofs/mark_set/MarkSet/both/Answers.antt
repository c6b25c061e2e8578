use Rattle.diva_ooo.proofs.Marking.{and_has}
use Rattle.diva_ooo.proofs.mark_set.MarkSet.both.Goals as goal

pub returns : goal.returns
returns c = and_has c.args.self.bits c.args.other.bits

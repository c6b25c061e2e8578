use Rattle.std.proofs.Common.{arith}
use Rattle.diva_ooo.proofs.Marking.{except_has}
use Rattle.diva_ooo.proofs.mark_set.without_all.Goals as goal

pub returns : goal.returns
returns c = λ i. except_has c.args.bits c.args.others i (omega arith) (omega arith)

use Rattle.std.proofs.Common.{arith}
use Rattle.diva_ooo.proofs.Marking.{remove_has}
use Rattle.diva_ooo.proofs.mark_set.without.Goals as goal

pub returns : goal.returns
returns c = remove_has c.args.bits c.args.at c.requires (omega arith)

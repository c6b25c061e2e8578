use Rattle.std.proofs.Common.{arith}
use Rattle.diva_ooo.proofs.Marking.{high_has}
use Rattle.diva_ooo.proofs.mark_set.high_bits.Goals as goal

pub returns : goal.returns
returns c = λ i. high_has c.args.bits c.args.from i c.requires (omega arith)

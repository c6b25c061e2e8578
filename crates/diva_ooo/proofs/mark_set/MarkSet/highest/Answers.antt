use Rattle.std.proofs.Common.{arith}
use Rattle.diva_ooo.proofs.Marking.{highest_none, highest_some}
use Rattle.diva_ooo.proofs.mark_set.MarkSet.highest.Goals as goal

pub returns-in-Some-clause-some : goal.returns-in-Some-clause-some
returns-in-Some-clause-some c = highest_some c.args.self c.in-Some.mark (omega arith) c.in-Some.ensures.power_le c.in-Some.ensures.next_power_gt

pub returns-in-None-clause-none : goal.returns-in-None-clause-none
returns-in-None-clause-none c = λ none i. highest_none c.args.self.bits i c.in-None.ensures.none

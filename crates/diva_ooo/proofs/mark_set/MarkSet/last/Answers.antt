use Rattle.diva_ooo.proofs.Marking.{last_none, last_some}
use Rattle.diva_ooo.proofs.mark_set.MarkSet.last.Goals as goal

pub returns-in-Some-clause-some : goal.returns-in-Some-clause-some
returns-in-Some-clause-some c = last_some c.args.self c.args.end c.in-Some.mark c.requires c.in-Some.ensures.power_le c.in-Some.ensures.next_power_gt

pub returns-in-None-clause-none : goal.returns-in-None-clause-none
returns-in-None-clause-none c = λ none i h. last_none c.args.self.bits c.args.end i c.requires c.in-None.ensures.none h

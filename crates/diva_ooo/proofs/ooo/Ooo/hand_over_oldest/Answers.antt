use Rattle.std.proofs.Common.{arith}
use Rattle.diva_ooo.proofs.Handing.{ring_more}
use Rattle.diva_ooo.proofs.ooo.Ooo.hand_over_oldest.Goals as goal

pub returns-then-result-ne0-clause-ring : goal.returns-then-result-ne0-clause-ring
returns-then-result-ne0-clause-ring c = rw (← c.self.view_is) (let more = ring_more _ _ _ c.hand_over.ensures in omega arith)

pub returns-clause-ring : goal.returns-clause-ring
returns-clause-ring c = rw (← c.self.view_is) (let more = ring_more _ _ _ c.hand_over-2.ensures in omega arith)

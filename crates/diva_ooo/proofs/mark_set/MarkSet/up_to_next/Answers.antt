use Rattle.std.proofs.Common.{arith}
use Rattle.diva_ooo.proofs.Marking.{up_none, up_some}
use Rattle.diva_ooo.proofs.mark_set.MarkSet.up_to_next.Goals as goal

pub returns-clause-some : goal.returns-clause-some
returns-clause-some c = λ n next i. up_some c.args.self c.args.others c.high_bits-behind.result c.args.from n i (omega arith) c.high_bits-behind.ensures next

pub returns-clause-none : goal.returns-clause-none
returns-clause-none c = λ none i. up_none c.args.self c.args.others c.high_bits-behind.result c.args.from i (omega arith) c.high_bits-behind.ensures none

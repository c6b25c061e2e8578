use Rattle.std.proofs.Common.{arith}
use Rattle.std.proofs.lemmas.Nat.{shr_le}
use Rattle.diva_ooo.proofs.Marking.{next_none, next_some, set_below}
use Rattle.diva_ooo.proofs.mark_set.next_bit.Goals as goal

pub returns-then-rest-eq0-clause-none : goal.returns-then-rest-eq0-clause-none
returns-then-rest-eq0-clause-none c = λ none i h. next_none c.args.bits c.args.from i c.if-rest-eq0.true h

pub returns-else-rest-eq0-clause-some : goal.returns-else-rest-eq0-clause-some
returns-else-rest-eq0-clause-some c =
    let less = shr_le c.args.bits c.args.from in
    next_some (record { bits = c.args.bits }) c.args.from (grind (arith, c.if-rest-eq0.false)) (omega arith)

pub returns-else-rest-eq0-clause-below : goal.returns-else-rest-eq0-clause-below
returns-else-rest-eq0-clause-below c =
    let less = shr_le c.args.bits c.args.from in
    let next = next_some (record { bits = c.args.bits }) c.args.from (grind (arith, c.if-rest-eq0.false)) (omega arith) in
    set_below c.args.bits _ (omega arith) next.there

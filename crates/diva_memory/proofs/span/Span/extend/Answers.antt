-- The interval keeps what lay in it where a store is left, and the items before the youngest stay in the span.
use Rattle.std.proofs.Common.{arith}
use Rattle.diva_memory.proofs.span.Span.extend.Goals.{then-self-eq0, else-self-eq0}
use Rattle.diva_memory.proofs.span.Span.extend.Goals as goal

pub returns-clause-older : goal.returns-clause-older
returns-clause-older c = λ p a k lt h. (
  omega arith,
  c.widen.ensures.kept a k (elim c.if-self-eq0.branch [
    | then-self-eq0 w ↦ let none = w.if-self-eq0.true in let some = h.0 in absurd (omega arith)
    | else-self-eq0 w ↦ rw w.self-is h.1
  ]),
)

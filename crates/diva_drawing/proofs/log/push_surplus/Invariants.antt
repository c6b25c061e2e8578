-- The lines of the claims so far were written.
use Rattle.std.proofs.Common.{Ok, take}
use Rattle.diva_outside.specs.Lent.{lent}
use Rattle.diva_outside.specs.declared.sink.SinkFailed.{SinkFailed}
use Rattle.diva_drawing.specs.Log.{surplus_text}
use Rattle.diva_drawing.specs.Pieces.{Passes}
use Rattle.diva_drawing.proofs.log.push_surplus.Given as goal

abbrev pub invariant-loop-claim : goal.invariant-loop-claim
invariant-loop-claim g l =
    Passes {E = SinkFailed} (lent g.S.Sink.account l.initial.sink l.sink) (surplus_text l.row (take l.claim-index l.claims))
    l.initial.block l.block (Ok tt)

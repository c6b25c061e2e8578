-- The rows so far were put.
use Rattle.std.proofs.Common.{Ok, map, take}
use Rattle.diva_outside.specs.Lent.{lent}
use Rattle.diva_outside.specs.Sink.{PutsTo}
use Rattle.diva_outside.specs.declared.sink.SinkFailed.{SinkFailed}
use Rattle.diva_drawing.specs.Drawing.{claim_row, rows_text}
use Rattle.diva_drawing.proofs.drawing.put_claims.Given as goal

abbrev pub invariant-loop-claim : goal.invariant-loop-claim
invariant-loop-claim g l =
    PutsTo {E = SinkFailed} (lent g.S.Sink.account l.initial.sink l.sink) (rows_text l.excerpt (map (claim_row l.last l.ending) (take l.claim-index l.claims))) (Ok tt)

-- The rows of the claims before one were put, and a part of that one's.
use Rattle.std.proofs.lemmas.Result.{err_from_is_err_and}
use Rattle.diva_outside.proofs.Sinks.{puts_then, puts_cut}
use Rattle.diva_drawing.specs.Drawing.{claim_row}
use Rattle.diva_drawing.proofs.Rowing.{rows_at}
use Rattle.diva_drawing.proofs.drawing.put_claims.Goals as goal

pub returns-in_err-put_row : goal.returns-in_err-put_row
returns-in_err-put_row g c =
    let failed = err_from_is_err_and c.from_residual.result c.from_residual.ensures.1 in
    rw (failed.1, rows_at c.args.excerpt (claim_row c.args.last c.args.ending) c.args.claims.now c.loop-claim.claim-index c.claim_row.result _ c.loop-claim-test.true c.claim_row.ensures)
    (puts_cut _ _ _ _ _ _ (puts_then _ _ _ _ _ _ _ c.loop-claim.invariant c.in_err-put_row.ensures))

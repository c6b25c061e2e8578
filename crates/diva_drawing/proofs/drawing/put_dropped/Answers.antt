-- What was put where the first row fails, and where it does not.
use Rattle.std.proofs.lemmas.List.{take_rest}
use Rattle.std.proofs.lemmas.Result.{err_from_is_err_and}
use Rattle.diva_outside.proofs.Sinks.{puts_then, puts_cut}
use Rattle.diva_drawing.proofs.Rowing.{dropped_parts}
use Rattle.diva_drawing.proofs.drawing.put_dropped.Goals as goal

pub returns-in_err-put_row-in-len1-up : goal.returns-in_err-put_row-in-len1-up
returns-in_err-put_row-in-len1-up g c =
    let failed = err_from_is_err_and c.from_residual.result c.from_residual.ensures.1 in
    rw (failed.1, dropped_parts c.args.excerpt c.args.last c.args.first c.args.claims.now c.claim_row.result _ c.in-len1-up.len_at_least c.claim_row.ensures)
    (puts_cut _ _ _ _ _ _ c.in_err-put_row-in-len1-up.ensures)

pub returns-in_ok-put_row-in-len1-up : goal.returns-in_ok-put_row-in-len1-up
returns-in_ok-put_row-in-len1-up g c =
    rw (dropped_parts c.args.excerpt c.args.last c.args.first c.args.claims.now c.claim_row.result _ c.in-len1-up.len_at_least c.claim_row.ensures)
    (puts_then _ _ _ _ _ _ _ c.in_ok-put_row-in-len1-up.ensures (rw (take_rest c.args.claims.now 1) at c.put_claims.ensures))

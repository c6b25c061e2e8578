-- What was put where each part fails, and where none does.
use Rattle.std.proofs.lemmas.Result.{err_from_is_err_and}
use Rattle.diva_outside.proofs.Sinks.{puts_then, puts_cut}
use Rattle.diva_drawing.specs.Drawing.{drawn_cycle}
use Rattle.diva_drawing.proofs.drawing.put_drawn.Goals as goal

pub returns-in_err-put_solo : goal.returns-in_err-put_solo
unfolding drawn_cycle
returns-in_err-put_solo g c =
    let failed = err_from_is_err_and c.from_residual.result c.from_residual.ensures.1 in
    rw failed.1 (puts_cut _ _ _ _ _ _ (puts_cut _ _ _ _ _ _ (rw (c.ended_solo-solo.ensures, c.cycles-last.ensures) at c.in_err-put_solo.ensures)))

pub returns-in_err-put_claims : goal.returns-in_err-put_claims
unfolding drawn_cycle
returns-in_err-put_claims g c =
    let failed = err_from_is_err_and c.from_residual-in_err-put_claims.result c.from_residual-in_err-put_claims.ensures.1 in
    rw failed.1 (puts_cut _ _ _ _ _ _ (puts_then _ _ _ _ _ _ _ (rw (c.ended_solo-solo.ensures, c.cycles-last.ensures) at c.in_ok-put_solo.ensures)
    (rw (c.committed_claims-commits.ensures, c.cycles-last.ensures) at c.in_err-put_claims.ensures)))

pub returns : goal.returns
unfolding drawn_cycle
returns g c =
    puts_then _ _ _ _ _ _ _ (puts_then _ _ _ _ _ _ _ (rw (c.ended_solo-solo.ensures, c.cycles-last.ensures) at c.in_ok-put_solo.ensures)
    (rw (c.committed_claims-commits.ensures, c.cycles-last.ensures) at c.in_ok-put_claims.ensures))
    (rw (c.dropped_claims-drops.ensures, c.cycles-last.ensures, c.first_drop-first.ensures) at c.put_dropped.ensures)

-- What was put where the first part fails, and where it does not.
use Rattle.std.proofs.lemmas.Result.{err_from_is_err_and}
use Rattle.diva_outside.proofs.Sinks.{puts_then, puts_cut}
use Rattle.diva_rate.proofs.writing.write_latency.Goals as goal

pub returns-in_err-put_line : goal.returns-in_err-put_line
returns-in_err-put_line g c =
    let failed = err_from_is_err_and c.from_residual.result c.from_residual.ensures.1 in
    rw failed.1 (puts_cut _ _ _ _ _ _ (rw c.latency_start.ensures at c.in_err-put_line.ensures))

pub returns : goal.returns
returns g c = puts_then _ _ _ _ _ _ _ (rw c.latency_start.ensures at c.in_ok-put_line.ensures) (rw c.latency_end.ensures at c.put_line-2.ensures)

-- What is open was not put whole, and what ended not at all.
use Rattle.std.proofs.lemmas.Result.{err_from_is_err_and}
use Rattle.diva_outside.proofs.Sinks.{puts_cut}
use Rattle.diva_drawing.proofs.pen.put_logged.Goals as goal

pub returns-in_err-put_open : goal.returns-in_err-put_open
returns-in_err-put_open g c =
    let failed = err_from_is_err_and c.from_residual.result c.from_residual.ensures.1 in
    rw failed.1 (puts_cut _ _ _ _ _ _ c.in_err-put_open.ensures)

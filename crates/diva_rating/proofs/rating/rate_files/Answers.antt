-- What is written comes to an answer.
use Rattle.std.proofs.lemmas.Result.{err_from_is_err_and}
use Rattle.diva_rating.proofs.Writing.{cut_rates, wrote_stop}
use Rattle.diva_rating.proofs.rating.rate_files.Goals as goal

pub returns-in_err-write_rates-in-Ok : goal.returns-in_err-write_rates-in-Ok
returns-in_err-write_rates-in-Ok g c = λ bytes.
    let h = c.in-Ok.ensures.rates in
    let failed = err_from_is_err_and c.from_residual.result c.from_residual.ensures.1 in
    rw (failed.1, failed.2) (cut_rates _ _ bytes _ _ h _ (c.in_err-write_rates-in-Ok.ensures.lines h.kept h.are))

pub returns-in-Err : goal.returns-in-Err
returns-in-Err g c = λ bytes. wrote_stop _ _ bytes _ c.in-Err.stop _ c.in-Err.ensures.stopped c.write_stop.ensures

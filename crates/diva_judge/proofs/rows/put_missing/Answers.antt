-- What was put if each part fails, and if none does.
use Rattle.std.proofs.lemmas.Result.{err_from_is_err_and}
use Rattle.diva_outside.proofs.Sinks.{puts_then, puts_cut}
use Rattle.diva_judge.proofs.Listing.{missing_parts}
use Rattle.diva_judge.proofs.rows.put_missing.Goals as goal

pub returns-in_err-put_line : goal.returns-in_err-put_line
returns-in_err-put_line g c =
    let failed = err_from_is_err_and c.from_residual.result c.from_residual.ensures.1 in
    rw (failed.1, missing_parts c.args.place c.args.due.now)
    (puts_cut _ _ _ _ _ _ (rw c.place_line.ensures at c.in_err-put_line.ensures))

pub returns : goal.returns
returns g c =
    rw (missing_parts c.args.place c.args.due.now)
    (puts_then _ _ _ _ _ _ _ (rw c.place_line.ensures at c.in_ok-put_line.ensures) (rw c.list_line.ensures at c.put_line-2.ensures))

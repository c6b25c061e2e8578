-- What was put if each part fails, and if none does.
use Rattle.std.proofs.lemmas.Result.{err_from_is_err_and}
use Rattle.diva_outside.proofs.Sinks.{puts_then, puts_cut}
use Rattle.diva_judge.proofs.Listing.{wrong_parts}
use Rattle.diva_judge.proofs.rows.put_wrong.Goals as goal

pub returns-in_err-put_line : goal.returns-in_err-put_line
returns-in_err-put_line g c =
    let failed = err_from_is_err_and c.from_residual.result c.from_residual.ensures.1 in
    rw (failed.1, wrong_parts c.args.place c.args.due.now c.args.wrong)
    (puts_cut _ _ _ _ _ _ (puts_cut _ _ _ _ _ _ (rw c.place_line.ensures at c.in_err-put_line.ensures)))

pub returns-in_err-put_listed : goal.returns-in_err-put_listed
returns-in_err-put_listed g c =
    let failed = err_from_is_err_and c.from_residual-in_err-put_listed.result c.from_residual-in_err-put_listed.ensures.1 in
    rw (failed.1, wrong_parts c.args.place c.args.due.now c.args.wrong)
    (puts_cut _ _ _ _ _ _ (puts_then _ _ _ _ _ _ _ (rw c.place_line.ensures at c.in_ok-put_line.ensures) c.in_err-put_listed.ensures))

pub returns : goal.returns
returns g c =
    rw (wrong_parts c.args.place c.args.due.now c.args.wrong)
    (puts_then _ _ _ _ _ _ _ (puts_then _ _ _ _ _ _ _ (rw c.place_line.ensures at c.in_ok-put_line.ensures) c.in_ok-put_listed.ensures)
    (rw c.wrong_line.ensures at c.put_line-2.ensures))

-- What was put if each part fails, and if none does.
use Rattle.std.proofs.lemmas.Result.{err_from_is_err_and}
use Rattle.diva_outside.proofs.Sinks.{puts_then, puts_cut}
use Rattle.diva_judge.proofs.log.put_last.Goals as goal

pub returns-in_err-put_first_missing : goal.returns-in_err-put_first_missing
returns-in_err-put_first_missing g c =
    let failed = err_from_is_err_and c.from_residual.result c.from_residual.ensures.1 in
    rw failed.1 (puts_cut _ _ _ _ _ _ (puts_cut _ _ _ _ _ _ (puts_cut _ _ _ _ _ _ c.in_err-put_first_missing.ensures)))

pub returns-in_err-put_left : goal.returns-in_err-put_left
returns-in_err-put_left g c =
    let failed = err_from_is_err_and c.from_residual-in_err-put_left.result c.from_residual-in_err-put_left.ensures.1 in
    rw failed.1 (puts_cut _ _ _ _ _ _ (puts_cut _ _ _ _ _ _
    (puts_then _ _ _ _ _ _ _ c.in_ok-put_first_missing.ensures (rw c.left_over.ensures at c.in_err-put_left.ensures))))

pub returns-in_err-put_line : goal.returns-in_err-put_line
returns-in_err-put_line g c =
    let failed = err_from_is_err_and c.from_residual-in_err-put_line.result c.from_residual-in_err-put_line.ensures.1 in
    rw failed.1 (puts_cut _ _ _ _ _ _
    (puts_then _ _ _ _ _ _ _ (puts_then _ _ _ _ _ _ _ c.in_ok-put_first_missing.ensures (rw c.left_over.ensures at c.in_ok-put_left.ensures))
    (rw (c.end_line_of.ensures, c.ended.ensures.value) at c.in_err-put_line.ensures)))

pub returns : goal.returns
returns g c =
    puts_then _ _ _ _ _ _ _
    (puts_then _ _ _ _ _ _ _ (puts_then _ _ _ _ _ _ _ c.in_ok-put_first_missing.ensures (rw c.left_over.ensures at c.in_ok-put_left.ensures))
    (rw (c.end_line_of.ensures, c.ended.ensures.value) at c.in_ok-put_line.ensures))
    (rw (c.judged_line.ensures, c.count.ensures, c.flushes.ensures) at c.put_line-2.ensures)

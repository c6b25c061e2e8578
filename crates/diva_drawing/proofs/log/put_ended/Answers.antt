-- What was put where the first lines fail, and where they do not.
use Rattle.std.proofs.lemmas.Result.{err_from_is_err_and}
use Rattle.diva_outside.proofs.Sinks.{puts_then, puts_cut}
use Rattle.diva_drawing.specs.Log.{ended_text}
use Rattle.diva_drawing.proofs.log.put_ended.Goals as goal

pub returns-in_err-put_ends : goal.returns-in_err-put_ends
unfolding ended_text
returns-in_err-put_ends g c =
    let failed = err_from_is_err_and c.from_residual.result c.from_residual.ensures.1 in
    rw failed.1 (puts_cut _ _ _ _ _ _ (rw (c.committed_rows-committed.ensures, c.count.ensures) at c.in_err-put_ends.ensures))

pub returns : goal.returns
unfolding ended_text
returns g c =
    puts_then _ _ _ _ _ _ _ (rw (c.committed_rows-committed.ensures, c.count.ensures) at c.in_ok-put_ends.ensures)
    (rw (c.committed_rows-committed.ensures, c.dropped_rows-dropped.ensures.value, c.count-2.ensures) at c.put_ends-2.ensures)

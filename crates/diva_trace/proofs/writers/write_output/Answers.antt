-- What was put where the first line fails, and where it does not.
use Rattle.std.proofs.lemmas.Result.{err_from_is_err_and}
use Rattle.diva_outside.proofs.Sinks.{puts_then, puts_cut}
use Rattle.diva_trace.specs.Text.{output_text}
use Rattle.diva_trace.proofs.writers.write_output.Goals as goal

pub returns-in_err-put_line : goal.returns-in_err-put_line
unfolding output_text
returns-in_err-put_line g c =
    let failed = err_from_is_err_and c.from_residual.result c.from_residual.ensures.1 in
    rw failed.1 (puts_cut _ _ _ _ _ _ (rw c.output_len_line.ensures at c.in_err-put_line.ensures))

pub returns : goal.returns
unfolding output_text
returns g c = puts_then _ _ _ _ _ _ _ (rw c.output_len_line.ensures at c.in_ok-put_line.ensures) c.put_lines.ensures

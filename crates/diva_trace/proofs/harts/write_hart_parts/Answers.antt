-- What was put where each part fails, and where none does.
use Rattle.std.proofs.lemmas.Result.{err_from_is_err_and}
use Rattle.diva_outside.proofs.Sinks.{puts_then, puts_cut}
use Rattle.diva_trace.proofs.harts.write_hart_parts.Goals as goal

pub returns-in_err-write_hart_summary : goal.returns-in_err-write_hart_summary
returns-in_err-write_hart_summary g c =
    let failed = err_from_is_err_and c.from_residual.result c.from_residual.ensures.1 in
    rw failed.1 (puts_cut _ _ _ _ _ _ (puts_cut _ _ _ _ _ _ c.in_err-write_hart_summary.ensures))

pub returns-in_err-write_output : goal.returns-in_err-write_output
returns-in_err-write_output g c =
    let failed = err_from_is_err_and c.from_residual-in_err-write_output.result c.from_residual-in_err-write_output.ensures.1 in
    let text = puts_then _ _ _ _ _ _ _ c.in_ok-write_hart_summary.ensures c.in_err-write_output.ensures in
    rw failed.1 (puts_cut _ _ _ _ _ _ text)

pub returns : goal.returns
returns g c =
    puts_then _ _ _ _ _ _ _ (puts_then _ _ _ _ _ _ _ c.in_ok-write_hart_summary.ensures c.in_ok-write_output.ensures) c.write_registers.ensures

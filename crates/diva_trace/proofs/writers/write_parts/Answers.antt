-- What was put where each part fails, and where none does.
use Rattle.std.proofs.lemmas.Result.{err_from_is_err_and}
use Rattle.diva_outside.proofs.Sinks.{puts_then, puts_cut}
use Rattle.diva_trace.proofs.writers.write_parts.Goals as goal

pub returns-in_err-write_rows : goal.returns-in_err-write_rows
returns-in_err-write_rows g c =
    let failed = err_from_is_err_and c.from_residual.result c.from_residual.ensures.1 in
    rw failed.1 (puts_cut _ _ _ _ _ _ (puts_cut _ _ _ _ _ _ (puts_cut _ _ _ _ _ _ (puts_cut _ _ _ _ _ _ c.in_err-write_rows.ensures))))

pub returns-in_err-write_summary : goal.returns-in_err-write_summary
returns-in_err-write_summary g c =
    let failed = err_from_is_err_and c.from_residual-in_err-write_summary.result c.from_residual-in_err-write_summary.ensures.1 in
    let text = puts_then _ _ _ _ _ _ _ c.in_ok-write_rows.ensures c.in_err-write_summary.ensures in
    rw failed.1 (puts_cut _ _ _ _ _ _ (puts_cut _ _ _ _ _ _ (puts_cut _ _ _ _ _ _ text)))

pub returns-in_err-write_output : goal.returns-in_err-write_output
returns-in_err-write_output g c =
    let failed = err_from_is_err_and c.from_residual-in_err-write_output.result c.from_residual-in_err-write_output.ensures.1 in
    let text = puts_then _ _ _ _ _ _ _ (puts_then _ _ _ _ _ _ _ c.in_ok-write_rows.ensures c.in_ok-write_summary.ensures) c.in_err-write_output.ensures in
    rw failed.1 (puts_cut _ _ _ _ _ _ (puts_cut _ _ _ _ _ _ text))

pub returns-in_err-write_registers : goal.returns-in_err-write_registers
returns-in_err-write_registers g c =
    let failed = err_from_is_err_and c.from_residual-in_err-write_registers.result c.from_residual-in_err-write_registers.ensures.1 in
    let text = puts_then _ _ _ _ _ _ _ (puts_then _ _ _ _ _ _ _ (puts_then _ _ _ _ _ _ _ c.in_ok-write_rows.ensures c.in_ok-write_summary.ensures) c.in_ok-write_output.ensures) c.in_err-write_registers.ensures in
    rw failed.1 (puts_cut _ _ _ _ _ _ text)

pub returns-in-Some : goal.returns-in-Some
returns-in-Some g c =
    let text = puts_then _ _ _ _ _ _ _ (puts_then _ _ _ _ _ _ _ (puts_then _ _ _ _ _ _ _ c.in_ok-write_rows.ensures c.in_ok-write_summary.ensures) c.in_ok-write_output.ensures) c.in_ok-write_registers.ensures in
    rw c.in-Some.is (puts_then _ _ _ _ _ _ _ text c.write_dump.ensures)

-- What was put where a part of the text fails, and where none does.
use Rattle.std.proofs.Common.{◌∙◌, append-nil, ap, sym}
use Rattle.std.proofs.lemmas.Result.{err_from_is_err_and}
use Rattle.diva_outside.proofs.Sinks.{puts_then, puts_cut}
use Rattle.diva_trace.specs.Lines.{cycles_line}
use Rattle.diva_cli.proofs.duo.write_duo.Goals as goal

pub returns-in_err-put_line : goal.returns-in_err-put_line
returns-in_err-put_line g c =
    let line = c.cycles_line.ensures ∙ ap cycles_line c.cycles.ensures in
    let failed = err_from_is_err_and c.from_residual.result c.from_residual.ensures.1 in
    rw failed.1 (puts_cut _ _ _ _ _ _ (puts_cut _ _ _ _ _ _ (puts_cut _ _ _ _ _ _ (rw line at c.in_err-put_line.ensures))))

pub returns-in_err-write_hart_of : goal.returns-in_err-write_hart_of
returns-in_err-write_hart_of g c =
    let line = c.cycles_line.ensures ∙ ap cycles_line c.cycles.ensures in
    let failed = err_from_is_err_and c.from_residual-in_err-write_hart_of.result c.from_residual-in_err-write_hart_of.ensures.1 in
    rw failed.1 (puts_cut _ _ _ _ _ _ (puts_cut _ _ _ _ _ _ (puts_then _ _ _ _ _ _ _ (rw line at c.in_ok-put_line.ensures) c.in_err-write_hart_of.ensures)))

pub returns-in_err-write_hart_of-2 : goal.returns-in_err-write_hart_of-2
returns-in_err-write_hart_of-2 g c =
    let line = c.cycles_line.ensures ∙ ap cycles_line c.cycles.ensures in
    let failed = err_from_is_err_and c.from_residual-in_err-write_hart_of-2.result c.from_residual-in_err-write_hart_of-2.ensures.1 in
    rw failed.1 (puts_cut _ _ _ _ _ _ (puts_then _ _ _ _ _ _ _ (puts_then _ _ _ _ _ _ _ (rw line at c.in_ok-put_line.ensures) c.in_ok-write_hart_of.ensures) c.in_err-write_hart_of-2.ensures))

pub returns-in-Some : goal.returns-in-Some
returns-in-Some g c =
    let line = c.cycles_line.ensures ∙ ap cycles_line c.cycles.ensures in
    let asked = sym c.in-Some.ensures.shown in
    rw asked (puts_then _ _ _ _ _ _ _
    (puts_then _ _ _ _ _ _ _ (puts_then _ _ _ _ _ _ _ (rw line at c.in_ok-put_line.ensures) c.in_ok-write_hart_of.ensures) c.in_ok-write_hart_of-2.ensures)
    c.write_dump.ensures)

pub returns-in-None : goal.returns-in-None
returns-in-None g c =
    let line = c.cycles_line.ensures ∙ ap cycles_line c.cycles.ensures in
    let asked = sym c.in-None.ensures.shown in
    rw (asked, append-nil) (puts_then _ _ _ _ _ _ _ (puts_then _ _ _ _ _ _ _ (rw line at c.in_ok-put_line.ensures) c.in_ok-write_hart_of.ensures) c.in_ok-write_hart_of-2.ensures)

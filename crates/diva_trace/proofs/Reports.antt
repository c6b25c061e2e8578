-- What a report says of a machine.
use Rattle.std.proofs.Common.{◌≡◌, ℕ}
use Rattle.diva_core.specs.Timed.{Timed}
use Rattle.diva_trace.specs.Text.{hart_text, hart_text_in, text_of, text_in, IsHartReportOf, IsReportOf}
use Rattle.diva_trace.specs.declared.report.HartReport.{HartReport}
use Rattle.diva_trace.specs.declared.report.Report.{Report}

-- its text is the machine's
pub text_in_is : (m : Timed) (r : Report) → IsReportOf m r → text_in r ≡ text_of m r.dump
text_in_is m r is = rw (is.rows, is.end, is.count, is.cycles, is.flushes, is.silent, is.output, is.view)

-- the same of a hart's report
pub hart_text_in_is : (number : ℕ) (m : Timed) (r : HartReport) → IsHartReportOf m r → hart_text_in number r ≡ hart_text number m
hart_text_in_is number m r is = rw (is.end, is.count, is.flushes, is.silent, is.output, is.regs, is.pc)

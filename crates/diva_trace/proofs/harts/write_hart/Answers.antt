-- The lines of a report are those of the hart of which it is a report.
use Rattle.diva_trace.proofs.Reports.{hart_text_in_is}
use Rattle.diva_trace.proofs.harts.write_hart.Goals as goal

pub returns-clause-machine : goal.returns-clause-machine
returns-clause-machine g c = λ m is. rw (hart_text_in_is c.args.number m c.args.report.now is) at c.write_hart_parts.ensures

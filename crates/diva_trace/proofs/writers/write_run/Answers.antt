-- The text of a report is the text of the machine of which it is a report.
use Rattle.diva_trace.proofs.Reports.{text_in_is}
use Rattle.diva_trace.proofs.writers.write_run.Goals as goal

pub returns-clause-machine : goal.returns-clause-machine
returns-clause-machine g c = λ m is. rw (text_in_is m c.args.report.now is) at c.write_parts.ensures

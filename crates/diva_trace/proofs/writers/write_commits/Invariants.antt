-- The lines so far were put.
use Rattle.std.proofs.Common.{Ok, take}
use Rattle.std.specs.List.{concat}
use Rattle.diva_outside.specs.Lent.{lent}
use Rattle.diva_outside.specs.Sink.{PutsTo}
use Rattle.diva_outside.specs.declared.sink.SinkFailed.{SinkFailed}
use Rattle.diva_trace.specs.Text.{commit_lines}
use Rattle.diva_trace.proofs.writers.write_commits.Given as goal

abbrev pub invariant-loop-place : goal.invariant-loop-place
invariant-loop-place g l =
    PutsTo {E = SinkFailed} (lent g.S.Sink.account l.initial.sink l.sink) (concat (take l.place (commit_lines l.first l.records))) (Ok tt)

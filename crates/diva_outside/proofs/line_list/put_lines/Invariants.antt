-- What was put, line by line.
use Rattle.std.proofs.Common.{Ok, take}
use Rattle.std.specs.List.{concat}
use Rattle.diva_outside.specs.Lent.{lent}
use Rattle.diva_outside.specs.Sink.{PutsTo}
use Rattle.diva_outside.specs.declared.sink.SinkFailed.{SinkFailed}
use Rattle.diva_outside.proofs.line_list.put_lines.Given as goal

-- the lines so far were put
abbrev pub invariant-loop-at : goal.invariant-loop-at
invariant-loop-at g l =
    PutsTo {E = SinkFailed} (lent g.S.Sink.account l.initial.sink l.sink) (concat (take l.at (g.L.LineList.lines l.list))) (Ok tt)

-- The cells so far were written.
use Rattle.std.proofs.Common.{Ok, take}
use Rattle.std.specs.List.{concat}
use Rattle.diva_outside.specs.Lent.{lent}
use Rattle.diva_outside.specs.declared.sink.SinkFailed.{SinkFailed}
use Rattle.diva_drawing.specs.Pieces.{Passes}
use Rattle.diva_drawing.proofs.drawing.push_cells.Given as goal

abbrev pub invariant-loop-at : goal.invariant-loop-at
invariant-loop-at g l =
    Passes {E = SinkFailed} (lent g.S.Sink.account l.initial.sink l.sink) (concat (take l.at (g.L.LineList.lines l.cells))) l.initial.block l.block (Ok tt)

-- The claims so far, with what was written of them.
use Rattle.std.proofs.Common.{Ok, true, take}
use Rattle.std.specs.List.{All}
use Rattle.diva_outside.specs.Lent.{lent}
use Rattle.diva_outside.specs.Sink.{PutsTo}
use Rattle.diva_outside.specs.declared.sink.SinkFailed.{SinkFailed}
use Rattle.diva_tape.specs.TapeText.{IsClaim, pieces_text}
use Rattle.diva_cli.proofs.watching.write_list.Given as goal

abbrev pub invariant-loop-place : goal.invariant-loop-place
invariant-loop-place g l = record {
  put : PutsTo {E = SinkFailed} (lent g.S.Sink.account l.initial.sink l.sink) (pieces_text true (take l.place l.list)) (Ok tt);
  claims : All IsClaim (take l.place l.list);
}

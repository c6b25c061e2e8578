-- The lines of the claims so far were written.
use Rattle.std.proofs.Common.{◌+◌, Ok, slice_get}
use Rattle.std.specs.List.{flat_map, range_with_len}
use Rattle.diva_outside.specs.Lent.{lent}
use Rattle.diva_outside.specs.declared.sink.SinkFailed.{SinkFailed}
use Rattle.diva_drawing.specs.Log.{claim_text, was_noted}
use Rattle.diva_drawing.specs.Pieces.{Passes}
use Rattle.diva_drawing.proofs.log.push_each.Given as goal

abbrev pub invariant-loop-n : goal.invariant-loop-n
invariant-loop-n g l =
    Passes {E = SinkFailed} (lent g.S.Sink.account l.initial.sink l.sink) (flat_map (λ n. claim_text (l.first.row + n) (l.first.place + n) l.now (was_noted (slice_get l.was n)) (slice_get l.claims n)) (range_with_len 0 l.n))
    l.initial.block l.block (Ok tt)

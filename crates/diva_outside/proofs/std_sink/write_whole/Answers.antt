-- A write that takes some bytes more, and what was taken where a write fails.
use Rattle.std.proofs.Common.{◌+◌, arith}
use Rattle.diva_outside.proofs.Sinks.{appends_more, appends_kept, part_taken}
use Rattle.diva_outside.proofs.std_sink.write_whole.Goals as goal

pub loop-taken-preserved : goal.loop-taken-preserved
loop-taken-preserved g c = record {
  within = omega (arith, c.in-Ok.ensures.bound);
  text = appends_more c.args.piece.now c.loop-taken.taken c.in-Ok.count _ _ _ c.loop-taken.invariant.text c.in-Ok.ensures.bytes;
}

pub returns-in_default-clause-err : goal.returns-in_default-clause-err
returns-in_default-clause-err g c =
    part_taken c.args.piece.now (c.loop-taken.taken + c.in-Ok.count) _ _
    (appends_more c.args.piece.now c.loop-taken.taken c.in-Ok.count _ _ _ c.loop-taken.invariant.text c.in-Ok.ensures.bytes)

pub returns-in_default-2-clause-err : goal.returns-in_default-2-clause-err
returns-in_default-2-clause-err g c =
    part_taken c.args.piece.now c.loop-taken.taken _ _
    (appends_kept _ _ _ _ c.loop-taken.invariant.text c.in_default.ensures.bytes)

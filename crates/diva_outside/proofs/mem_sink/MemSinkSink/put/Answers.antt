-- A put that fails took a prefix of its piece.
use Rattle.std.proofs.Common.{rules}
use Rattle.diva_outside.proofs.Sinks.{part_taken}
use Rattle.diva_outside.proofs.mem_sink.MemSinkSink.put.Goals as goal

pub returns-then-is_some-clause-puts : goal.returns-then-is_some-clause-puts
returns-then-is_some-clause-puts c = record {
  later = search rules;
  ok = tt;
  uncounted = tt;
  part = part_taken c.args.piece.now c.min-count.result _ _ (search rules);
  failed = search rules;
}

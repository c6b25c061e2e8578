-- The rows so far are for other calls.
use Rattle.std.proofs.Common.{◌≡◌, drop}
use Rattle.diva_outside.specs.MemSink.{takes_of}
use Rattle.diva_outside.proofs.mem_sink.takes_of.Given as goal

abbrev pub invariant-loop-fail : goal.invariant-loop-fail
invariant-loop-fail l = takes_of l.fails l.call ≡ takes_of (drop l.fail-index l.fails) l.call

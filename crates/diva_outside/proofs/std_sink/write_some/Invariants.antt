-- A write that fails leaves what was written.
use Rattle.std.specs.Io.KnownBytes.{Keeps}
use Rattle.diva_outside.proofs.std_sink.write_some.Given as goal

abbrev pub invariant-loop : goal.invariant-loop
invariant-loop g l = record {
  kept : Keeps (g.W.Write.contents l.initial.out) (g.W.Write.contents l.out);
}

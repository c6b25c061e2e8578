-- So many instructions were taken back.
use Rattle.std.proofs.Common.{◌≡◌}
use Rattle.diva_debug.specs.Rewindable.{GoesBack}
use Rattle.diva_debug.proofs.rewindable.Rewindable.back.Given as goal

abbrev pub invariant-loop : goal.invariant-loop
invariant-loop l = record {
  back : GoesBack l.counter l.fn.self l.self;
  keep : l.self.keep ≡ l.fn.self.keep;
}

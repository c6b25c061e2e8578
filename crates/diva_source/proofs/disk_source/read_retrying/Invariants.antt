-- A read that fails leaves what is to be read, and the buffer keeps its length.
use Rattle.std.proofs.Common.{◌≡◌, length}
use Rattle.std.specs.Io.KnownBytes.{Keeps}
use Rattle.diva_source.proofs.disk_source.read_retrying.Given as goal

abbrev pub invariant-loop : goal.invariant-loop
invariant-loop g l = record {
  size : length l.buffer ≡ length l.initial.buffer;
  left : Keeps (g.R.Read.remaining l.initial.reader) (g.R.Read.remaining l.reader);
}

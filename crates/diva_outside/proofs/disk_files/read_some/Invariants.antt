-- A read that fails leaves what is to be read, and the buffer keeps its length.
use Rattle.std.proofs.Common.{◌≡◌, length}
use Rattle.std.specs.Io.KnownBytes.{Keeps}
use Rattle.diva_outside.proofs.disk_files.read_some.Given as goal

abbrev pub invariant-loop : goal.invariant-loop
invariant-loop g l = record {
  size : length l.buffer ≡ length l.initial.buffer;
  left : Keeps (g.R.Read.remaining l.initial.file) (g.R.Read.remaining l.file);
}

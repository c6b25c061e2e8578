-- What was read so far is within the limit; what may still be read grows shorter.
use Rattle.std.proofs.Common.{◌≤◌, ◌-◌, vec_len}
use Rattle.std.specs.Io.KnownBytes.{Consumes}
use Rattle.diva_outside.proofs.disk_files.read_whole.Given as goal

abbrev pub invariant-loop-bytes : goal.invariant-loop-bytes
invariant-loop-bytes g l = record {
  short : vec_len l.bytes ≤ l.limit;
  taken : Consumes (g.R.Read.remaining l.initial.file) (g.R.Read.remaining l.file) l.bytes.items;
}

abbrev pub decreases-loop-bytes : goal.decreases-loop-bytes
decreases-loop-bytes g l = l.limit - vec_len l.bytes

-- The files so far have another name.
use Rattle.std.proofs.Common.{◌≡◌, drop}
use Rattle.diva_outside.specs.Named.{named_bytes}
use Rattle.diva_outside.proofs.mem_file.find.Given as goal

abbrev pub invariant-loop-file : goal.invariant-loop-file
invariant-loop-file l = named_bytes l.files l.name ≡ named_bytes (drop l.file-index l.files) l.name

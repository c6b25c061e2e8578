-- The texts so far have another name.
use Rattle.std.proofs.Common.{◌≡◌, drop}
use Rattle.diva_outside.specs.Named.{named_bytes}
use Rattle.diva_source.proofs.mem_source.find.Given as goal

abbrev pub invariant-loop-text : goal.invariant-loop-text
invariant-loop-text l = named_bytes l.texts l.name ≡ named_bytes (drop l.text-index l.texts) l.name

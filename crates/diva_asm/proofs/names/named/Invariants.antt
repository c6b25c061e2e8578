use Rattle.std.proofs.Common.{◌≡◌, drop}
use Rattle.std.specs.Map.{lookup}
use Rattle.std.specs.Str.{bytes_eq}
use Rattle.diva_asm.proofs.names.named.Given as goal

abbrev pub invariant-loop-name : goal.invariant-loop-name
invariant-loop-name g l = lookup (λ name. bytes_eq name.now l.word) l.table ≡ lookup (λ name. bytes_eq name.now l.word) (drop l.name-index l.table)

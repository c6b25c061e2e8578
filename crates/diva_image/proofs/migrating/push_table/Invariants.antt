use Rattle.std.proofs.Common.{◌≡◌, ◌++◌, take}
use Rattle.std.specs.List.{flat_map}
use Rattle.diva_image.specs.Migrated.{pair_bytes}
use Rattle.diva_image.proofs.migrating.push_table.Given as goal

abbrev pub invariant-loop-segment : goal.invariant-loop-segment
invariant-loop-segment l = l.bytes.items ≡ l.initial.bytes.items ++ flat_map pair_bytes (take l.segment-index l.segments)

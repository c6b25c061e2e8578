use Rattle.std.proofs.Common.{◌≡◌, ◌+◌, ◌++◌, drop, length, take}
use Rattle.std.specs.List.{flat_map}
use Rattle.diva_image.specs.Inner.{ArePlaced}
use Rattle.diva_image.specs.Migrated.{bytes_at}
use Rattle.diva_image.proofs.migrating.push_data.Given as goal

abbrev pub invariant-loop-segment : goal.invariant-loop-segment
invariant-loop-segment l = record {
  pushed : l.bytes.items ≡ l.initial.bytes.items ++ flat_map (bytes_at l.image.base l.image.payload) (take l.segment-index l.segments);
  placed : ArePlaced l.image.base (l.image.base + length l.image.payload) (drop l.segment-index l.segments);
}

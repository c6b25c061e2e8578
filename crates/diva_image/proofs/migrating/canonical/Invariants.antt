use Rattle.std.proofs.Common.{◌≡◌, ◌+◌, ◌++◌, length, map}
use Rattle.std.specs.List.{concat}
use Rattle.std.specs.Slice.Iter.{chunks_rest, chunks_size}
use Rattle.diva_image.specs.Migrated.{block_size, blocks_of, limited, stretches}
use Rattle.diva_image.proofs.migrating.canonical.Given as goal

abbrev pub invariant-loop-block : goal.invariant-loop-block
invariant-loop-block l = record {
  size : chunks_size l.block-iterator ≡ block_size;
  cut : blocks_of l.payload ≡ map (λ b. b.now) l.yielded ++ blocks_of (chunks_rest l.block-iterator);
  here : l.addr ≡ l.base + length (concat (map (λ b. b.now) l.yielded));
  left : l.addr + length (chunks_rest l.block-iterator) ≡ l.base + length l.payload;
  made : l.segments ≡ limited 15 (stretches l.base (map (λ b. b.now) l.yielded));
}

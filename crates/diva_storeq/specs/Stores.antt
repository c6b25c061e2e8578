-- Stores that are not in memory yet, laid over it.
-- Cited by `StoreQueue::push`, `drain`, `byte`, `half` and `word`.
use Rattle.std.specs.Prelude.{ℕ, ◌+◌, ◌-◌, ◌*◌, ◌%◌, ◌^◌, List, [], ◌∷◌}
use Rattle.diva_memory.specs.Bytes.{Bytes, low_bytes, put_all}
use Rattle.diva_storeq.specs.declared.masked.Masked.{Masked}
use Rattle.diva_storeq.specs.declared.store.Store.{Store}
use Rattle.diva_storeq.specs.Masked.{merge}

-- the bytes that a store writes, the lowest first
abbrev pub store_bytes : Store → List ℕ
store_bytes s = low_bytes s.width s.value

-- the same, from its address on
abbrev pub placed_bytes : Store → Bytes
placed_bytes s = record { base = s.addr; items = store_bytes s }

-- memory after a store
unfoldable pub lay : Bytes → Store → Bytes
lay m s = put_all m s.addr (store_bytes s)

-- the entry of a store of so many bytes at a multiple of its width: its bytes stand in one word, from its address on
abbrev pub entry_at : (addr width value : ℕ) → Masked
entry_at addr width value = let place = addr % 4 in record {
  addr = addr - place;
  mask = 2 ^ (place + width) - 2 ^ place;
  bytes = value % 2 ^ (8 * width) * 2 ^ (8 * place);
}

unfoldable pub masked : Store → Masked
masked s = entry_at s.addr s.width s.value

-- memory after these entries, the oldest first
abbrev pub laid : Bytes → List Masked → Bytes
laid m [] = m
laid m (e ∷ entries) = laid (merge m e) entries

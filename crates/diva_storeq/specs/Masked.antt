-- What an entry of the queue writes to its word.
-- Cited by `StoreQueue::entry`, `drain` and the type `StoreQueue`.
use Rattle.std.specs.Prelude.{◌≡◌, ◌<◌, ℕ, ◌+◌, ◌-◌, ◌%◌, ◌^◌, ◌==◌, ◌&&◌, nat_le, nat_lt, Option, Some, None, if◌then◌else◌}
use Rattle.std.specs.Int.{bit_at}
use Rattle.diva_memory.specs.Bytes.{Bytes, IsInside, put, word_byte}
use Rattle.diva_storeq.specs.declared.masked.Masked.{Masked}

-- the byte that an entry writes in byte lane i of its word, 0 being the lowest, `None` where bit i of the mask is not set
abbrev pub byte_lane : Masked → ℕ → Option ℕ
byte_lane e i = if bit_at e.mask i == 1 then Some (word_byte e.bytes i) else None

-- the same at an address
abbrev pub byte_in : Masked → ℕ → Option ℕ
byte_in e a = if nat_le e.addr a && nat_lt a (e.addr + 4) then byte_lane e (a - e.addr) else None

-- what holds of every entry: its word is aligned, its mask has four bits, and a byte that it does not write is 0
pub record IsMasked (e : Masked) : Type 0 where
  pub aligned : e.addr % 4 ≡ 0
  pub mask : e.mask < 2 ^ 4
  pub clear : (i : ℕ) → i < 4 → bit_at e.mask i ≡ 0 → word_byte e.bytes i ≡ 0

-- each byte that it writes is inside memory
abbrev pub WritesInside : Bytes → Masked → Type 0
WritesInside m e = (i : ℕ) → i < 4 → bit_at e.mask i ≡ 1 → IsInside m (e.addr + i) 1

-- memory after the byte in byte lane i, if it is written
abbrev pub put_byte_lane : Masked → ℕ → Bytes → Bytes
put_byte_lane e i m = if bit_at e.mask i == 1 then put m (e.addr + i) (word_byte e.bytes i) else m

-- memory after an entry
unfoldable pub merge : Bytes → Masked → Bytes
merge m e = put_byte_lane e 3 (put_byte_lane e 2 (put_byte_lane e 1 (put_byte_lane e 0 m)))

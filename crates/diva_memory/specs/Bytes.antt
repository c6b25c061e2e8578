-- Memory as a list of bytes from an address on: what is inside, what is read, and what a write changes.
-- Cited by `Memory::inside`, `byte`, `half`, `word`, `put` and `put_all`.
use Rattle.std.specs.Prelude.{ℕ, zero, suc, ◌≡◌, ◌<◌, ◌≤◌, ◌+◌, ◌-◌, ◌*◌, ◌/◌, ◌%◌, ◌^◌, ◌==◌, ◌&&◌, nat_le, Bool, List, [], ◌∷◌, length, take, slice_get, slice_set, Option, Some, None, option_and_then, option_map, if◌then◌else◌}
use Rattle.std.specs.Int.{to_le_bytes, w32}

-- the first address, and the bytes from there on
pub record Bytes : Type 0 where
  pub base : ℕ
  pub items : List ℕ

-- n bytes from an address on lie inside
abbrev pub is_inside : Bytes → ℕ → ℕ → Bool
is_inside m addr n = nat_le m.base addr && nat_le (addr + n) (m.base + length m.items)

-- the same as a fact
pub record IsInside (m : Bytes) (addr n : ℕ) : Type 0 where
  pub from : m.base ≤ addr
  pub to : addr + n ≤ m.base + length m.items

-- the byte at an address, `None` outside
abbrev pub byte_at : Bytes → ℕ → Option ℕ
byte_at m addr = if nat_le m.base addr then slice_get m.items (addr - m.base) else None

-- the number that n bytes from an address on are, the lowest first; `None` where one of them is outside
abbrev pub number_at : Bytes → ℕ → ℕ → Option ℕ
number_at m zero addr = Some 0
number_at m (suc n) addr = option_and_then (λ low. option_map (λ high. low + 2 ^ 8 * high) (number_at m n (addr + 1))) (byte_at m addr)

-- the word at an address, `None` where the address is not a multiple of 4 or a byte is outside
abbrev pub word_at : Bytes → ℕ → Option ℕ
word_at m addr = if addr % 4 == 0 then number_at m 4 addr else None

-- byte i of a word, the lowest being byte 0
abbrev pub word_byte : ℕ → ℕ → ℕ
word_byte w i = w / 2 ^ (8 * i) % 2 ^ 8

-- the four bytes from an address on are those of the word w
abbrev pub HasWord : Bytes → ℕ → ℕ → Type 0
HasWord m addr w = (i : ℕ) → i < 4 → byte_at m (addr + i) ≡ Some (word_byte w i)

-- one byte is changed, where the address is inside
abbrev pub put : Bytes → ℕ → ℕ → Bytes
put m addr b = if nat_le m.base addr then record m { items = slice_set m.items (addr - m.base) b } else m

-- bytes are put one after the other, from an address on
abbrev pub put_all : Bytes → ℕ → List ℕ → Bytes
put_all m addr [] = m
put_all m addr (b ∷ bs) = put_all (put m addr b) (addr + 1) bs

-- the n lowest bytes of a word, the lowest first
abbrev pub low_bytes : ℕ → ℕ → List ℕ
low_bytes n v = take n (to_le_bytes w32 v)

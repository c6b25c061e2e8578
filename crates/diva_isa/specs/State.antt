-- A state of the machine, and what is read from it.
-- Cited by the trait `Look`, and so by all that reads a state: `record_of`, `Plain::step`; by `View::reg` of diva_core.
use Rattle.std.specs.Prelude.{◌≡◌, ℕ, ◌==◌, Bool, List, Option, slice_index}
use Rattle.diva_memory.specs.Bytes.{Bytes, byte_at, number_at, word_at}

pub record State : Type 0 where
  pub regs : List ℕ
  pub pc : ℕ
  pub base : ℕ
  pub bytes : List ℕ
  pub output : List ℕ
  -- how many instructions led to it
  pub instret : ℕ
  -- 0 where the machine goes on, 1 + a trap's number, or 256 + the status of a halt (End.antt)
  pub end : ℕ

-- the most bytes that the output holds
abbrev pub output_limit : ℕ
output_limit = 65536

abbrev pub reg_of : State → ℕ → ℕ
reg_of s n = slice_index s.regs n

abbrev pub memory_of : State → Bytes
memory_of s = record { base = s.base; items = s.bytes }

-- the byte at an address, `None` outside
abbrev pub byte_of : State → ℕ → Option ℕ
byte_of s a = byte_at (memory_of s) a

-- the number that n bytes from an address on are, the lowest first; `None` where one of them is outside
abbrev pub number_of : State → ℕ → ℕ → Option ℕ
number_of s n a = number_at (memory_of s) n a

-- the word at an address, `None` where the address is no multiple of 4 or a byte is outside
abbrev pub word_of : State → ℕ → Option ℕ
word_of s a = word_at (memory_of s) a

abbrev pub goes_on : State → Bool
goes_on s = s.end == 0

-- the same as a fact
abbrev pub GoesOn : State → Type 0
GoesOn s = s.end ≡ 0

-- What only private contracts of this crate cite. A reader of its promises can pass over it.
use Rattle.std.specs.Prelude.{◌≡◌, ℕ, ◌<◌, ◌-◌, List, length, take, drop, unwrap_or, ⊤}
use Rattle.diva_memory.specs.Bytes.{Bytes, IsInside, low_bytes}
use Rattle.diva_isa.specs.State.{State, memory_of, number_of, output_limit}
use Rattle.diva_isa.specs.Kind.{size}
use Rattle.diva_isa.specs.declared.effect.Effect.{Effect}
use Rattle.diva_isa.specs.declared.effect.Effect.TheVariants.{Nothing, Writes, Stores, Puts}

-- the state has room for it: what is stored is inside memory, and the output is not full
abbrev pub HasRoom : State → Effect → Type 0
HasRoom s Nothing = ⊤
HasRoom s (Writes rd value) = ⊤
HasRoom s (Stores width addr value) = IsInside (memory_of s) addr (size width)
HasRoom s (Puts byte) = length s.output < output_limit

-- the n bytes of memory from an address on
abbrev pub bytes_from : Bytes → ℕ → ℕ → List ℕ
bytes_from m addr n = take n (drop (addr - m.base) m.items)

-- the number that is kept of memory is that of the bytes which an effect overwrites
abbrev pub IsExact : State → Effect → Type 0
IsExact s Nothing = ⊤
IsExact s (Writes rd value) = ⊤
IsExact s (Stores width addr value) =
    low_bytes (size width) (unwrap_or (number_of s (size width) addr) 0) ≡ bytes_from (memory_of s) addr (size width)
IsExact s (Puts byte) = ⊤

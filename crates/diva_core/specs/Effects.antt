-- What effects do to a state, one after the other.
-- Cited by `byte_in` and `is_apart`; by `Ring::byte` and `word` of diva_ahead.
use Rattle.std.specs.Prelude.{ℕ, ◌+◌, ◌||◌, nat_le, List, [], ◌∷◌, Bool, true, Option, None}
use Rattle.diva_memory.specs.Bytes.{byte_at, low_bytes}
use Rattle.diva_isa.specs.State.{State}
use Rattle.diva_isa.specs.Kind.{size}
use Rattle.diva_isa.specs.Step.{with_effect}
use Rattle.diva_isa.specs.declared.effect.Effect.{Effect}
use Rattle.diva_isa.specs.declared.effect.Effect.TheVariants.{Nothing, Writes, Stores, Puts}

-- a state with these effects, the oldest first: so a byte of its memory is that of the youngest store that covers it
abbrev pub with_effects : State → List Effect → State
with_effects s [] = s
with_effects s (e ∷ effects) = with_effects (with_effect s e) effects

-- the byte that an effect stores at an address
abbrev pub byte_in : Effect → ℕ → Option ℕ
byte_in Nothing a = None
byte_in (Writes rd value) a = None
byte_in (Stores width addr value) a = byte_at (record { base = addr; items = low_bytes (size width) value }) a
byte_in (Puts byte) a = None

-- an effect stores none of the n bytes from an address on
abbrev pub is_apart : Effect → (a n : ℕ) → Bool
is_apart Nothing a n = true
is_apart (Writes rd value) a n = true
is_apart (Stores width addr value) a n = nat_le (addr + size width) a || nat_le (a + n) addr
is_apart (Puts byte) a n = true

-- What a script makes of the list that a core hands over.
-- Cited by `Row::lay_in` and the laws; in `Spoiled.antt`, for what `Faulty` gives.
use Rattle.std.specs.Prelude.{ℕ, ◌+◌, ◌^◌, ◌==◌, bit_and, bit_or, bit_xor, Bool, true, false, List, [], ◌∷◌, ◌++◌, length, take, drop, fold, slice_get, Option, Some, None, if◌then◌else◌}
use Rattle.std.specs.Int.{bit_not, w32}
use Rattle.diva_isa.specs.declared.record.Record.{Record}
use Rattle.diva_core.specs.declared.differences.Field.{Field}
use Rattle.diva_core.specs.declared.differences.Field.TheVariants.{Pc, Word, Src1, Src2, Addr, Value, Next, End}
use Rattle.diva_core.specs.Difference.{field_of}
use Rattle.diva_faults.specs.declared.rows.Change.{Change}
use Rattle.diva_faults.specs.declared.rows.Change.TheVariants.{Flip, Set, Lose, Double, Force}
use Rattle.diva_faults.specs.declared.rows.Row.{Row}
use Rattle.diva_faults.specs.declared.rows.Row.TheVariants.{Lane, Hush, Lasting}
use Rattle.diva_faults.specs.Touched.{touches}

-- a record with another value in a field
abbrev pub with_field : Field → ℕ → Record → Record
with_field Pc value r = record r { pc = value }
with_field Word value r = record r { word = value }
with_field Src1 value r = record r { src1 = value }
with_field Src2 value r = record r { src2 = value }
with_field Addr value r = record r { addr = value }
with_field Value value r = record r { value = value }
with_field Next value r = record r { next = value }
with_field End value r = record r { end = value }

-- a word with a bit forced to 1, or to 0
abbrev pub forced : (high : Bool) → (bit : ℕ) → (word : ℕ) → ℕ
forced true bit word = bit_or word (2 ^ bit)
forced false bit word = bit_and word (bit_not w32 (2 ^ bit))

-- what stands in the place of a claim after a change, in a list of `count` claims
abbrev pub changed : Change → (count : ℕ) → Record → List Record
changed (Flip field bit) count claim = with_field field (bit_xor (field_of field claim) (2 ^ bit)) claim ∷ []
changed (Set field value) count claim = with_field field value claim ∷ []
changed Lose count claim = []
changed Double count claim = if count == 8 then claim ∷ [] else claim ∷ claim ∷ []
changed (Force field bit high) count claim = with_field field (forced high bit (field_of field claim)) claim ∷ []

-- the list with the claim in a lane changed, if there is one
abbrev pub change_at : Change → ℕ → List Record → Option Record → List Record
change_at change lane list None = list
change_at change lane list (Some claim) = take lane list ++ changed change (length list) claim ++ drop (lane + 1) list

-- the list after a row, in a cycle that it touches
abbrev pub laid : Row → List Record → List Record
laid (Lane cycle lane change) list = change_at change lane list (slice_get list lane)
laid (Hush cycle cycles) list = []
laid (Lasting cycle cycles lane change) list = change_at change lane list (slice_get list lane)

-- the list after a row, in the cycle `now`
abbrev pub laid_in : (now : ℕ) → List Record → Row → List Record
laid_in now list row = if touches row now then laid row list else list

-- the list after the rows of a script in the cycle `now`, one after the other. No row makes claims of an empty list, so a hush leaves
-- none, wherever it stands
unfoldable pub scripted : List Row → (now : ℕ) → List Record → List Record
scripted rows now list = fold (laid_in now) list rows

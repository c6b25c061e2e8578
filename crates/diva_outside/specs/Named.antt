-- Files in memory: names with their bytes.
-- Cited by the type `SureFiles`.
use Rattle.std.specs.Prelude.{ℕ, List, [], ◌∷◌, length, Option, Some, None, Result, Ok, Err, Bool, if◌then◌else◌, nat_eq, nat_lt}
use Rattle.std.specs.Cmp.Lexicographic.{pointwise}
use Rattle.diva_outside.specs.declared.files.LoadFault.{LoadFault}
use Rattle.diva_outside.specs.declared.files.LoadFault.TheVariants.{Failed, TooLong}

-- the bytes of the first file of that name, `None` where no file has it
abbrev pub named_bytes : List (List ℕ × List ℕ) → List ℕ → Option (List ℕ)
named_bytes [] name = None
named_bytes (file ∷ files) name = if pointwise nat_eq file.0 name then Some file.1 else named_bytes files name

-- the bytes, or the empty list where there are none
abbrev pub or_empty : Option (List ℕ) → List ℕ
or_empty None = []
or_empty (Some bytes) = bytes

-- what a load of these bytes answers, unless memory runs out
abbrev pub answer_of : List ℕ → ℕ → Result (List ℕ) LoadFault
answer_of bytes limit = if nat_lt limit (length bytes) then Err TooLong else Ok bytes

-- what a call answers that found these bytes or none, by whether it is to fail
abbrev pub answer_to : Option (List ℕ) → Bool → ℕ → Result (List ℕ) LoadFault
answer_to None fails limit = Err Failed
answer_to (Some bytes) fails limit = if fails then Err Failed else answer_of bytes limit

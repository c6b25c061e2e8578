-- The first field in which a claim differs from the due record.
-- Cited by `first_difference`, `difference_in` and `Field::of`.
use Rattle.std.specs.Prelude.{ℕ, ◌≡◌, ◌≢◌, ◌==◌, List, [], ◌∷◌, codes, Option, Some, None, if◌then◌else◌}
use Rattle.diva_isa.specs.declared.record.Record.{Record}
use Rattle.diva_core.specs.declared.differences.Field.{Field}
use Rattle.diva_core.specs.declared.differences.Field.TheVariants.{Pc, Word, Src1, Src2, Addr, Value, Next, End}
use Rattle.diva_core.specs.declared.differences.Diff.{Diff}

abbrev pub field_of : Field → Record → ℕ
field_of Pc r = r.pc
field_of Word r = r.word
field_of Src1 r = r.src1
field_of Src2 r = r.src2
field_of Addr r = r.addr
field_of Value r = r.value
field_of Next r = r.next
field_of End r = r.end

-- how texts call a field
abbrev pub field_name : Field → List ℕ
field_name Pc = codes "pc"
field_name Word = codes "word"
field_name Src1 = codes "src1"
field_name Src2 = codes "src2"
field_name Addr = codes "addr"
field_name Value = codes "value"
field_name Next = codes "next"
field_name End = codes "end"

-- a record's fields, in their order
abbrev pub all_fields : List Field
all_fields = Pc ∷ Word ∷ Src1 ∷ Src2 ∷ Addr ∷ Value ∷ Next ∷ End ∷ []

-- the first of some fields in which p and r are unequal, with the value of each
abbrev pub difference_in : List Field → Record → Record → Option Diff
difference_in [] p r = None
difference_in (f ∷ fs) p r =
    if field_of f p == field_of f r then difference_in fs p r
    else Some (record { field = f; claimed = field_of f p; due = field_of f r })

-- the first field in which the claim p differs from the record r, none where they are equal
unfoldable pub first_difference : Record → Record → Option Diff
first_difference p r = difference_in all_fields p r

-- d names a field in which the claim p is not the record r
pub record IsDifference (p r : Record) (d : Diff) : Type 0 where
  pub claims : d.claimed ≡ field_of d.field p
  pub dues : d.due ≡ field_of d.field r
  pub differ : d.claimed ≢ d.due

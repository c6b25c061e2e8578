-- Labels and where they stand.
-- Cited in `Laying.antt`, for `assemble`.
use Rattle.std.specs.Prelude.{ℕ, List, Option}
use Rattle.std.specs.BTreeMap.{insert_entry}
use Rattle.std.specs.Cmp.Lexicographic.{slice_cmp}
use Rattle.std.specs.Map.{lookup}
use Rattle.std.specs.Ordering.{is_eq, nat_cmp}
use Rattle.diva_outside.specs.Text.{Text}

-- names and their addresses, in the order of the names
abbrev pub Labels : Type 0
Labels = List (Text × ℕ)

-- the address of a name, if it is a label
abbrev pub address_of : Labels → Text → Option ℕ
address_of labels name = lookup (λ label. is_eq (slice_cmp nat_cmp name label)) labels

-- one label more
abbrev pub with_address : Labels → Text → ℕ → Labels
with_address labels name address = insert_entry (slice_cmp nat_cmp) labels name address

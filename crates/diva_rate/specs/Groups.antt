-- Groups of injections: all, those of a model, those in a field, those in a bit.
-- Cited in `Rates.antt`, for `Injections::rates`.
use Rattle.std.specs.Prelude.{ℕ, ◌==◌, Bool, true, false, List, [], ◌∷◌, ◌++◌, map, filter, Option, Some, None, codes}
use Rattle.std.specs.Fmt.{decimal}
use Rattle.std.specs.List.{range_with_len}
use Rattle.std.specs.Str.{bytes_eq}
use Rattle.diva_core.specs.declared.differences.Field.{Field}
use Rattle.diva_core.specs.Difference.{all_fields, field_name}
use Rattle.diva_outside.specs.Text.{Text}
use Rattle.diva_rate.specs.Names.{all_models, model_name}
use Rattle.diva_rate.specs.declared.group.Group.{Group}
use Rattle.diva_rate.specs.declared.group.Group.TheVariants.{All, InModel, InField, InBit}
use Rattle.diva_rate.specs.declared.injection.Injection.{Injection}

-- all groups, in their order
abbrev pub all_groups : List Group
all_groups = All ∷ map InModel all_models ++ map InField all_fields ++ map InBit (range_with_len 0 32)

-- there is a field, and it is this one
abbrev pub is_field : Field → Option Field → Bool
is_field field None = false
is_field field (Some other) = bytes_eq (field_name other) (field_name field)

-- there is a bit, and it is this one
abbrev pub is_bit : ℕ → Option ℕ → Bool
is_bit bit None = false
is_bit bit (Some other) = other == bit

abbrev pub is_in : Group → Injection → Bool
is_in All line = true
is_in (InModel model) line = bytes_eq (model_name line.model) (model_name model)
is_in (InField field) line = is_field field line.field
is_in (InBit bit) line = is_bit bit line.bit

-- the lines of a group, in their order
abbrev pub lines_in : Group → List Injection → List Injection
lines_in group lines = filter (is_in group) lines

-- by what a group is made, and the name that it has among those
abbrev pub group_kind : Group → Text
group_kind All = codes "all"
group_kind (InModel model) = codes "model"
group_kind (InField field) = codes "field"
group_kind (InBit bit) = codes "bit"

abbrev pub group_name : Group → Text
group_name All = []
group_name (InModel model) = model_name model
group_name (InField field) = field_name field
group_name (InBit bit) = decimal bit

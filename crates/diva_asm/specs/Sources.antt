-- The image of a source, or its first fault: the first line with a fault of pass 1, else the first with one of pass 2, else
-- line 0 where the rules of an image are broken.
-- Cited by `assemble`.
use Rattle.std.specs.Prelude.{ℕ, ◌+◌, ◌*◌, ◌/◌, max, List, length, Option, Result}
use Rattle.std.specs.Option.{ok_or, unwrap_or}
use Rattle.diva_image.specs.Images.{image_from}
use Rattle.diva_image.specs.Layout.{Layout}
use Rattle.diva_outside.specs.Lines.{LineFault, fold_lines}
use Rattle.diva_outside.specs.Steps.{and_then}
use Rattle.diva_outside.specs.Text.{Text}
use Rattle.diva_asm.specs.Kinds.{source_kind_number}
use Rattle.diva_asm.specs.Laying.{nothing_laid, with_line}
use Rattle.diva_asm.specs.Building.{nothing_built, built_line}
use Rattle.diva_asm.specs.declared.fault.Kind.TheVariants.{NoImage}
use Rattle.diva_asm.specs.declared.building.Built.{Built}

-- the least multiple of 4 that holds the bytes, at least 4
abbrev pub least_size : List ℕ → ℕ
least_size bytes = max 4 ((length bytes + 3) / 4 * 4)

-- the image of what was built: base is 0, size the least and entry base, where the source does not say them
unfoldable pub image_of_built : Option ℕ → Option ℕ → Built → Result Layout LineFault
image_of_built said_base said_size built =
    let base = unwrap_or said_base 0 in
    let size = unwrap_or said_size (least_size built.bytes) in
    let entry = unwrap_or built.entry base in
    ok_or (image_from base size entry built.bytes) (record { line = 0; kind = source_kind_number NoImage })

-- the first pass over all lines, the second one, and then what they have built
unfoldable pub source_of : Text → Result Layout LineFault
source_of text =
    and_then (fold_lines source_kind_number with_line nothing_laid text) (λ laid.
    and_then (fold_lines source_kind_number (built_line (unwrap_or laid.base 0) laid.labels) nothing_built text) (λ built.
    image_of_built laid.base laid.size built))

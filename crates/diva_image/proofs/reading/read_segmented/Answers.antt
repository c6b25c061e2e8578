-- The segments are those of the file, and lie in memory.
use Rattle.std.proofs.Common.{◌≡◌, ◌+◌, ◌-◌, ◌≤◌, List, ℕ, length, refl, arith, ap, subst, sym, ◌∙◌}
use Rattle.std.proofs.lemmas.List.{take_rest}
use Rattle.diva_image.specs.Images.{image_under}
use Rattle.diva_image.specs.Inner.{ArePlaced}
use Rattle.diva_image.specs.Segments.{segmented_payload}
use Rattle.diva_image.proofs.Again.{faultless_parts, image_with}
use Rattle.diva_image.proofs.Tables.{length-memory_from, placed-wider}
use Rattle.diva_image.proofs.reading.read_segmented.Goals as goal

pub memory_from-requires-clause-placed : goal.memory_from-requires-clause-placed
memory_from-requires-clause-placed c =
    rw c.as_slice.ensures.value (placed-wider _ _ _ _ c.in-Ok.segments (omega arith) (omega (arith, c.requires.header.rules.size_most)) c.in-Ok.ensures.placed)

pub invariant_of-result : goal.invariant_of-result
invariant_of-result c =
    let base = c.args.header.now.base in
    let placed : ArePlaced base (base + c.args.header.now.size) c.as_slice.result.now = rw c.as_slice.ensures.value c.in-Ok.ensures.placed in
    let made = c.new.ensures ∙ c.in_ok-memory_from-in-Ok.ensures in
    let fits : length c.new.result ≤ base + c.args.header.now.size - base
    = subst (λ (bytes : List ℕ). length bytes ≤ base + c.args.header.now.size - base) (sym made) (length-memory_from base (base + c.args.header.now.size) c.as_slice.result.now _ placed) in
    record { rules = record { placed = c.requires.header.rules; payload_fits = omega (arith, fits) } }

pub returns-in_ok-memory_from-in-Ok : goal.returns-in_ok-memory_from-in-Ok
returns-in_ok-memory_from-in-Ok c =
    let payload : c.new.result ≡ segmented_payload c.args.bytes.now
    = c.new.ensures ∙ c.in_ok-memory_from-in-Ok.ensures ∙ rw (take_rest, c.as_slice.ensures.value, c.in-Ok.ensures.segments, c.data_place.ensures, c.requires.header.header) refl in (
      faultless_parts c.args.bytes.now c.args.header.now (sym c.requires.header.header) c.requires.header.faultless (rw c.requires.version c.in-Ok.ensures.faultless),
      image_with c.args.bytes.now c.args.header.now (sym c.requires.header.header) ∙ rw c.requires.version (ap (image_under c.args.header.now) (sym payload)),
    )

-- The segments lie in memory, so they have no more bytes than it has.
use Rattle.std.proofs.Common.{◌≡◌, ◌+◌, ℕ, ap, sym, refl, arith, length, ◌∙◌}
use Rattle.std.specs.List.{sum_by}
use Rattle.std.proofs.lemmas.List.{take_rest}
use Rattle.diva_image.specs.Header.{length_fault}
use Rattle.diva_image.specs.Segments.{data_place, segments_of}
use Rattle.diva_image.specs.declared.header.Header.{Header}
use Rattle.diva_image.proofs.Tables.{segmented_parts, sum-placed}
use Rattle.diva_image.proofs.table.faultless_segments.Goals as goal

pub total-requires : goal.total-requires
total-requires c =
    let fits = sum-placed _ _ c.as_slice-list.result.now (c.in_default-segment_fault.ensures.rules refl) in
    omega (arith, fits, c.requires.rules.size_most)

pub overflow_add-end : goal.overflow_add-end
overflow_add-end c =
    let fits = sum-placed _ _ c.as_slice-list.result.now (c.in_default-segment_fault.ensures.rules refl) in
    let few = c.in_default.ensures.rules refl in
    omega (arith, fits, few.0, c.requires.rules.size_most)

pub returns-in-Some-length_fault-clause-fault : goal.returns-in-Some-length_fault-clause-fault
returns-in-Some-length_fault-clause-fault c =
    let same : c.as_slice-list.result.now ≡ segments_of c.args.bytes.now
    = c.as_slice-list.ensures.value ∙ c.segments_in-segments.ensures ∙ rw (take_rest, c.requires.header) refl in
    let last = ap (λ (h : Header). h.last) c.requires.header in
    let end : c.data_place.result + c.total.result ≡ data_place c.args.bytes.now + sum_by (λ s. s.len) c.as_slice-list.result.now = omega (arith, last) in
    segmented_parts _ c.args.header.now c.as_slice-list.result.now _ c.requires.header same
    (sym c.in_default.ensures.first) (sym c.in_default-segment_fault.ensures.first)
    (sym (c.in-Some-length_fault.ensures.first ∙ ap (λ (e : ℕ). length_fault (length c.args.bytes.now) e) end))

-- One segment's bytes after another's.
use Rattle.std.proofs.Common.{◌≡◌, ◌+◌, ◌-◌, ◌++◌, ◌∷◌, List, ℕ, take, drop, get_or, length, arith, subst, ap, sym, ◌∙◌}
use Rattle.std.proofs.lemmas.List.{append_assoc, drop_more}
use Rattle.std.specs.List.{flat_map}
use Rattle.diva_image.specs.Inner.{ArePlaced}
use Rattle.diva_image.specs.Migrated.{bytes_at}
use Rattle.diva_image.specs.Segments.{behind}
use Rattle.diva_image.specs.declared.segment.Segment.{Segment}
use Rattle.diva_image.proofs.Tables.{flat_map_more, placed-wider}
use Rattle.diva_image.proofs.migrating.push_data.Goals as goal

pub loop-segment-preserved : goal.loop-segment-preserved
loop-segment-preserved c =
    let d : Segment = record { addr = 0; len = 0 } in
    let at = c.loop-segment.segment-index in
    let ss = c.args.segments.now in
    let most = c.args.image.now.base + length c.args.image.now.payload in
    let p : ArePlaced c.args.image.now.base most (get_or ss at d ∷ drop (at + 1) ss)
    = subst (ArePlaced c.args.image.now.base most) (drop_more ss at d c.loop-segment-test.true) c.loop-segment.invariant.placed in
    let f = bytes_at c.args.image.now.base c.args.image.now.payload in
    let from = (get_or ss at d).addr - c.args.image.now.base in
    let len = (get_or ss at d).len in
    let part : take (from + len - from) (drop from c.bytes-payload.result.now) ≡ f (get_or ss at d)
    = ap (λ (n : ℕ). take n (drop from c.bytes-payload.result.now)) (omega arith) ∙ ap (λ (p : List ℕ). take len (drop from p)) c.bytes-payload.ensures in
    record {
      pushed =
          c.in_ok-extend_from_slice.ensures.items
          ∙ ap (λ (bs : List ℕ). c.loop-segment.bytes.items ++ bs) part
          ∙ ap (λ (bs : List ℕ). bs ++ f (get_or ss at d)) c.loop-segment.invariant.pushed
          ∙ append_assoc c.args.bytes.now.items (flat_map f (take at ss)) (f (get_or ss at d))
          ∙ ap (λ (bs : List ℕ). c.args.bytes.now.items ++ bs) (sym (flat_map_more f ss at d c.loop-segment-test.true));
      placed = placed-wider (behind (get_or ss at d)) _ _ _ (drop (at + 1) ss) (omega (arith, p.1)) (omega arith) p.3;
    }

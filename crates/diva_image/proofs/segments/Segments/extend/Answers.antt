-- The last segment is taken out, and put back with the block in it, or with the block behind it.
use Rattle.std.proofs.Common.{◌≡◌, ◌<◌, ◌==◌, ◌++◌, [], ◌∷◌, List, length, false, arith, ap, sym, subst, ◌∙◌}
use Rattle.std.proofs.lemmas.Bool.{eqb-false}
use Rattle.std.proofs.lemmas.List.{length-append}
use Rattle.diva_image.specs.Inner.{ArePlaced, extended}
use Rattle.diva_image.specs.Segments.{behind}
use Rattle.diva_image.specs.declared.segment.Segment.{Segment}
use Rattle.diva_image.proofs.Stretches.{put_behind}
use Rattle.diva_image.proofs.Tables.{placed-last}
use Rattle.diva_image.proofs.segments.Segments.extend.Goals as goal
use Rattle.diva_image.proofs.segments.Segments.extend.Goals.{then-is_full, else-is_full}

pub up_to-requires-clause-fits : goal.up_to-requires-clause-fits
up_to-requires-clause-fits c =
    let old : c.args.self.now ≡ c.pop.new.self.items ++ c.in-Some.last ∷ [] = cc (c.self.view_is, c.in-Some.ensures.items) in
    let p = placed-last _ _ c.pop.new.self.items c.in-Some.last (subst (ArePlaced _ c.args.block.addr) old c.requires) in omega arith

pub returns-in-Some-2 : goal.returns-in-Some-2
returns-in-Some-2 c =
    let old : c.args.self.now ≡ c.pop.new.self.items ++ c.in-Some.last ∷ [] = cc (c.self.view_is, c.in-Some.ensures.items) in
    let total = length-append c.pop.new.self.items (c.in-Some.last ∷ []) in
    elim c.if-is_full.branch [
      | then-is_full w ↦ cc (w.value-is, c.if-behind-from.false)
      | else-is_full w ↦
          let all = ap length c.in-Some.ensures.items in
          let less = eqb-false _ _ (sym c.is_full-is_full.ensures.value ∙ w.if-is_full.false) in
          let few : length c.pop.new.self.items < 15 = omega (arith, all, less, c.self.invariant) in
          let apart : (behind c.in-Some.last == c.args.block.addr) ≡ false = rw (w.behind.ensures, w.from.ensures) at (sym w.value-is ∙ c.if-behind-from.false) in
          c.push-in-Some-2-2.ensures.items ∙ ap (λ (ss : List Segment). ss ++ c.args.block ∷ []) c.push-in-Some-2.ensures.items
          ∙ sym (ap (λ (ss : List Segment). extended 15 ss c.args.block) old ∙ put_behind 15 c.pop.new.self.items c.in-Some.last c.args.block few apart)
    ]

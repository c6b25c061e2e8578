-- One segment after another.
use Rattle.std.proofs.Common.{◌≡◌, ◌+◌, ℕ, Some, arith, ap, sym, ◌∙◌, subst}
use Rattle.diva_image.specs.Header.{header_size}
use Rattle.diva_image.specs.Inner.{ArePlaced}
use Rattle.diva_image.specs.Segments.{segment_fault}
use Rattle.diva_image.proofs.Tables.{no_more, one_fault, one_fine, placed}
use Rattle.diva_image.proofs.table.segment_fault.Goals as goal

pub returns-then-not-is_between-clause-first : goal.returns-then-not-is_between-clause-first
returns-then-not-is_between-clause-first c =
    let most : c.from.result + c.from-2.result ≡ c.args.header.now.base + c.args.header.now.size = omega arith in
    ap Some c.new.ensures ∙ sym (c.loop-at.invariant ∙ one_fault _ _ _ c.args.segments.now c.loop-at.at _ c.loop-at-test.true (sym c.if-not-is_between.ensures))
    ∙ ap (λ (m : ℕ). segment_fault c.args.header.now.base m header_size c.args.segments.now) most

pub loop-at-preserved : goal.loop-at-preserved
loop-at-preserved c =
    c.loop-at.invariant
    ∙ one_fine _ _ _ _ _ c.args.segments.now c.loop-at.at _ c.loop-at-test.true (sym c.if-not-is_between.ensures) c.behind-least.ensures (omega arith)

pub returns-clause-first : goal.returns-clause-first
returns-clause-first c =
    let most : c.from.result + c.from-2.result ≡ c.args.header.now.base + c.args.header.now.size = omega arith in
    sym (c.loop-at.invariant ∙ no_more _ _ _ c.args.segments.now c.loop-at.at c.loop-at-test.false)
    ∙ ap (λ (m : ℕ). segment_fault c.args.header.now.base m header_size c.args.segments.now) most

pub returns-clause-rules : goal.returns-clause-rules
returns-clause-rules c none =
    let most : c.from.result + c.from-2.result ≡ c.args.header.now.base + c.args.header.now.size = omega arith in
    subst (λ (m : ℕ). ArePlaced c.args.header.now.base m c.args.segments.now) most
    (placed _ _ header_size c.args.segments.now (c.loop-at.invariant ∙ no_more _ _ _ c.args.segments.now c.loop-at.at c.loop-at-test.false))

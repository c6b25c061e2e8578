-- One block after another.
use Rattle.std.proofs.Common.{◌+◌, ◌++◌, [], ◌∷◌, List, ℕ, length, map, arith, ap, sym, ◌∙◌}
use Rattle.std.specs.List.{concat}
use Rattle.std.specs.Slice.Iter.{chunks_rest}
use Rattle.std.proofs.lemmas.List.{length-append, map-append}
use Rattle.diva_image.specs.Inner.{ArePlaced}
use Rattle.diva_image.specs.Migrated.{blocks_of}
use Rattle.diva_image.proofs.Shown.{canonical-placed}
use Rattle.diva_image.proofs.Stretches.{length-concat_push, made_more, made_same, next_block}
use Rattle.diva_image.proofs.Tables.{placed-wider}
use Rattle.diva_image.proofs.migrating.canonical.Goals as goal
use Rattle.diva_image.proofs.migrating.canonical.Goals.{then-not-is_zero_block, else-not-is_zero_block}

pub extend-requires : goal.extend-requires
extend-requires c =
    let blocks = map (λ b. b.now) c.loop-block.yielded in
    let placed : ArePlaced c.args.base c.loop-block.addr c.loop-block.segments
    = rw (c.loop-block.invariant.made, c.loop-block.invariant.here) (canonical-placed 15 c.args.base (map (λ b. b.now) c.loop-block.yielded)) in
    let left = ap length c.in-Some.ensures.steps.1.0 in
    let parts = length-append c.in-Some.block.now (chunks_rest c.next.new.self) in
    placed-wider c.args.base _ c.loop-block.addr _ c.loop-block.segments (omega (arith, left, parts, c.loop-block.invariant.left, c.requires.small)) (omega arith) placed

pub loop-block-preserved : goal.loop-block-preserved
loop-block-preserved c =
    let blocks : List (List ℕ) = map (λ b. b.now) c.loop-block.yielded in
    let steps = c.in-Some.ensures.steps in
    let more = map-append (λ b. b.now) c.loop-block.yielded (c.in-Some.block ∷ []) in
    let left = ap length steps.1.0 in
    let parts = length-append c.in-Some.block.now (chunks_rest c.next.new.self) in
    let total = length-concat_push blocks c.in-Some.block.now in
    record {
      size = steps.0 ∙ c.loop-block.invariant.size;
      cut =
          next_block c.args.payload.now blocks (chunks_rest c.loop-block.block-iterator) c.in-Some.block.now (chunks_rest c.next.new.self) _
          c.loop-block.invariant.cut steps.1.0 steps.1.1 steps.1.2 c.loop-block.invariant.size
          ∙ ap (λ (bs : List (List ℕ)). bs ++ blocks_of (chunks_rest c.next.new.self)) (sym more);
      here = rw more (omega (arith, total, c.loop-block.invariant.here));
      left = omega (arith, left, parts, c.loop-block.invariant.left);
      made = rw more (elim c.if-not-is_zero_block.branch [
        | then-not-is_zero_block w ↦ made_more c.args.base c.loop-block.addr blocks c.in-Some.block.now c.loop-block.segments c.if-not-is_zero_block.segments
            c.loop-block.invariant.made c.loop-block.invariant.here (sym c.is_zero_block.ensures ∙ w.if-not-is_zero_block.true) (w.segments-is ∙ w.extend.ensures)
        | else-not-is_zero_block w ↦ w.segments-is ∙ made_same c.args.base blocks c.in-Some.block.now c.loop-block.segments
            c.loop-block.invariant.made (sym c.is_zero_block.ensures ∙ w.if-not-is_zero_block.false)
      ]);
    }

pub returns-clause-placed : goal.returns-clause-placed
returns-clause-placed c =
    let blocks : List (List ℕ) = map (λ b. b.now) c.loop-block.yielded in
    placed-wider c.args.base c.args.base (c.args.base + length (concat blocks)) _ c.loop-block.segments (omega arith)
    (omega (arith, c.loop-block.invariant.here, c.loop-block.invariant.left)) (rw c.loop-block.invariant.made (canonical-placed 15 c.args.base blocks))

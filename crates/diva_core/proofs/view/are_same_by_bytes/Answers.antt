-- All bytes are the same.
use Rattle.std.proofs.Common.{◌≡◌, sym, ◌∙◌, arith}
use Rattle.std.proofs.lemmas.Grind.{common_steps}
use Rattle.diva_core.proofs.Reading.{same_laid}
use Rattle.diva_core.proofs.view.are_same_by_bytes.Goals as goal

pub returns : goal.returns
returns c =
    let m = c.args.memory.now in
    let n = c.args.other_memory.now in
    let entries = c.args.queue.now.items in
    let others = c.args.other_queue.now.items in
    let base = c.base-base.result in
    let here : m.base ≡ base = sym c.base-base.ensures.base in
    let same = same_laid m n entries others base here (sym c.requires.base ∙ here) c.requires.size
    (λ k lt. c.loop-place.invariant k (grind (arith, common_steps))) in
    grind (arith, common_steps)

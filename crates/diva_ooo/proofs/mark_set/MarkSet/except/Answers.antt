use Rattle.std.proofs.Common.{ap, not, Bool, ◌&&◌, ◌∙◌}
use Rattle.diva_ooo.specs.MarkSets.{has}
use Rattle.diva_ooo.proofs.mark_set.MarkSet.except.Goals as goal

pub returns : goal.returns
returns c = λ i. c.without_all.ensures i ∙ ap (λ (b : Bool). has c.args.self i && not b) (c.high_bits.ensures i)

use Rattle.std.proofs.Common.{◌-◌, length}
use Rattle.diva_memory.proofs.Spanning.{span_drop}
use Rattle.diva_ahead.specs.Inner.{StoresAt}
use Rattle.diva_ahead.proofs.ring.Ring.trim.Goals as goal

pub invariant_of-self : goal.invariant_of-self
invariant_of-self c =
    let r = c.self.inside in
    let n = length r.effects.items - c.args.most in
    rw c.truncate_front.ensures (c.self.invariant.0, span_drop StoresAt r.span c.drop_oldest.new.self n r.effects.items c.self.invariant.1 (rw c.len-len.ensures.len at c.drop_oldest.ensures.left))

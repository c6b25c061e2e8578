use Rattle.std.proofs.lemmas.List.Elements.{All-drop}
use Rattle.diva_memory.proofs.Spanning.{span_drop}
use Rattle.diva_core.specs.Entries.{IsDecoded, MayStore}
use Rattle.diva_core.proofs.pending.Pending.pop.Goals as goal

pub invariant_of-self : goal.invariant_of-self
invariant_of-self c =
    let p = c.self.inside in
    rw c.pop_front.ensures.items (All-drop IsDecoded 1 p.entries.items c.self.invariant.0, c.self.invariant.1, span_drop MayStore p.span c.drop_oldest.new.self 1 p.entries.items c.self.invariant.2 c.drop_oldest.ensures.left)

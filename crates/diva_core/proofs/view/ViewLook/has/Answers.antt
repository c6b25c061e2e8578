-- All bytes of a number are there where its first and its last are inside memory.
use Rattle.std.proofs.Common.{◌∙◌, sym}
use Rattle.diva_core.proofs.Inside.{laid_width_there}
use Rattle.diva_core.proofs.view.ViewLook.has.Goals as goal

pub returns : goal.returns
returns c =
    let v = c.self.inside in
    c.inside.ensures.value ∙ rw (c.size.ensures, ← c.self.view_is) (sym (laid_width_there v.memory.now v.queue.now.items c.args.width c.args.addr))

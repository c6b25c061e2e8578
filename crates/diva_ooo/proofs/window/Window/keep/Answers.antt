use Rattle.diva_ooo.proofs.window.Window.keep.Goals as goal

pub invariant_of-self : goal.invariant_of-self
invariant_of-self c =
    let w = c.self.inside.entries.items in
    rw c.truncate_back.ensures (
      c.self.invariant.0,
      c.keep.ensures.board w c.self.invariant.1,
      rw c.keep.ensures.base c.self.invariant.2,
    )

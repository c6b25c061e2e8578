use Rattle.std.proofs.Common.{sym, subst}
use Rattle.diva_commit.specs.Committing.{AreInside}
use Rattle.diva_commit.proofs.Storing.{oldest_inside}
use Rattle.diva_hart.specs.HartArch.{HartArch}
use Rattle.diva_hart.proofs.arch.HartArch.drain.Goals as goal

pub drain-requires : goal.drain-requires
drain-requires c =
    oldest_inside c.args.memory.now c.self.inside.queue.items (subst (λ (h : HartArch). AreInside c.args.memory.now h.state.buffer) (sym c.self.view_is) c.requires.inside)

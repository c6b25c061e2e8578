-- One more is taken back.
use Rattle.std.proofs.Common.{◌∙◌}
use Rattle.diva_debug.proofs.Backing.{back_then}
use Rattle.diva_debug.proofs.rewindable.Rewindable.back.Goals as goal

pub loop-preserved : goal.loop-preserved
loop-preserved c =
    let inv = c.loop.invariant in
    record { back = back_then c.loop.counter _ _ _ c.requires.sound inv.back c.undo.ensures.back; keep = c.undo.ensures.keep ∙ inv.keep }

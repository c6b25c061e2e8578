use Rattle.diva_core.proofs.Laying.{effect_more}
use Rattle.diva_core.proofs.pending.Pending.byte_after.Goals as goal

pub loop-place-preserved : goal.loop-place-preserved
loop-place-preserved c = λ s here.
    rw (c.next_effect.ensures s, c.unwrap_or-latest.ensures, c.byte_in.ensures) (effect_more _ c.next_effect.result c.args.addr c.loop-place.latest (c.loop-place.invariant s here))

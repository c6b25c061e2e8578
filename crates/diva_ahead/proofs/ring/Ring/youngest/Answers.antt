use Rattle.std.proofs.Common.{map}
use Rattle.std.proofs.lemmas.List.{map-append}
use Rattle.diva_core.proofs.Laying.{effects_more}
use Rattle.diva_ahead.proofs.ring.Ring.youngest.Goals as goal

pub loop-effect-preserved : goal.loop-effect-preserved
loop-effect-preserved c =
    λ s here. simp map-append (rw (c.unwrap_or-youngest.ensures, c.byte_in.ensures) (effects_more s (map (λ e. e.now) c.loop-effect.yielded) c.in-Some.effect.now c.args.addr c.loop-effect.youngest (c.loop-effect.invariant s here)))

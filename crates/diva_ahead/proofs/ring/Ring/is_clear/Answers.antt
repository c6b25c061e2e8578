use Rattle.diva_memory.proofs.Spanning.{span_apart}
use Rattle.diva_core.specs.Effects.{is_apart}
use Rattle.diva_ahead.specs.Inner.{StoresAt}
use Rattle.diva_ahead.proofs.Clear.{effect_apart}
use Rattle.diva_ahead.proofs.ring.Ring.is_clear.Goals as goal

pub returns : goal.returns
returns c =
    let r = c.self.inside in
    let a = c.args.addr in
    let n = c.args.n in
    λ t. rw (← c.self.view_is) (span_apart StoresAt (λ e. is_apart e a n) r.span r.effects.items a n (λ e. effect_apart e a n) c.self.invariant.1 (c.is_apart.ensures.apart t))

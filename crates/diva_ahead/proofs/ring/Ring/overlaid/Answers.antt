use Rattle.std.proofs.Common.{◌+◌, map}
use Rattle.std.proofs.lemmas.List.{map-append}
use Rattle.diva_core.proofs.Laying.{effects_more}
use Rattle.diva_ahead.proofs.ring.Ring.overlaid.Goals as goal

pub loop-effect-preserved : goal.loop-effect-preserved
loop-effect-preserved c =
    let l = c.loop-effect in
    let s = c.args.view.now in
    let es = map (λ e. e.now) l.yielded in
    let e = c.in-Some.effect.now in
    let a = c.args.addr in
    simp map-append (rw (c.unwrap_or-byte0.ensures, c.byte_in.ensures, c.unwrap_or-byte1.ensures, c.byte_in-in-loop-effect.ensures, c.unwrap_or-byte2.ensures, c.byte_in-in-loop-effect-2.ensures, c.unwrap_or-byte3.ensures, c.byte_in-in-loop-effect-3.ensures) (effects_more s es e a l.byte0 l.invariant.0, effects_more s es e (a + 1) l.byte1 l.invariant.1, effects_more s es e (a + 2) l.byte2 l.invariant.2, effects_more s es e (a + 3) l.byte3 l.invariant.3))

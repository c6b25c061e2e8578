use Rattle.std.proofs.Common.{◌+◌}
use Rattle.diva_core.proofs.Laying.{effect_more}
use Rattle.diva_core.proofs.pending.Pending.word_after.Goals as goal

pub loop-place-init : goal.loop-place-init
loop-place-init c = λ s has. (has.byte0, has.byte1, has.byte2, has.byte3)

pub loop-place-preserved : goal.loop-place-preserved
loop-place-preserved c = λ s has.
    let l = c.loop-place in
    let e = c.next_effect-effect.result in
    let a = c.args.addr in
    let now = l.invariant s has in
    rw (c.next_effect-effect.ensures s, c.unwrap_or-byte0.ensures, c.byte_in.ensures, c.unwrap_or-byte1.ensures, c.byte_in-in-loop-place.ensures, c.unwrap_or-byte2.ensures, c.byte_in-in-loop-place-2.ensures, c.unwrap_or-byte3.ensures, c.byte_in-in-loop-place-3.ensures)
    (effect_more _ e a l.byte0 now.0, effect_more _ e (a + 1) l.byte1 now.1, effect_more _ e (a + 2) l.byte2 now.2, effect_more _ e (a + 3) l.byte3 now.3)

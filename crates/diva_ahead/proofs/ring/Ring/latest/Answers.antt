use Rattle.std.proofs.Common.{◌≡◌, ◌<◌, ◌^◌, map, sym, ◌∙◌, rules}
use Rattle.std.proofs.lemmas.List.{map-append}
use Rattle.diva_isa.specs.declared.effect.Effect.TheVariants.{Stores}
use Rattle.diva_isa.specs.declared.kind.Width.TheVariants.{Word}
use Rattle.diva_ahead.proofs.Whole.{apart_more, whole_more}
use Rattle.diva_ahead.proofs.ring.Ring.latest.Goals as goal

pub loop-effect-preserved-then-from-addr : goal.loop-effect-preserved-then-from-addr
loop-effect-preserved-then-from-addr c =
    let es = map (λ e. e.now) c.loop-effect.yielded in
    let w = c.in-Stores-Word-default-default in
    let whole : c.in-Some.effect.now ≡ Stores Word c.args.addr w.value = search rules in
    let fits : w.value < 2 ^ 32 = search rules in
    λ s here. simp map-append (rw whole (whole_more s es c.args.addr w.value c.loop-effect.latest fits (c.loop-effect.invariant s here)))

pub loop-effect-preserved : goal.loop-effect-preserved
loop-effect-preserved c =
    let es = map (λ e. e.now) c.loop-effect.yielded in
    λ s here. simp map-append (apart_more s es c.in-Some.effect.now c.args.addr c.loop-effect.latest (sym c.is_apart.ensures ∙ c.if-is_apart.true) (c.loop-effect.invariant s here))

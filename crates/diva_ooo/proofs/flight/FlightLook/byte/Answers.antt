use Rattle.std.proofs.Common.{◌≡◌, None, Some, arith, sym, ap, ◌∙◌, rules, take, refl, List}
use Rattle.diva_isa.specs.State.{byte_of}
use Rattle.diva_isa.specs.declared.effect.Effect.{Effect}
use Rattle.diva_core.specs.Effects.{with_effects}
use Rattle.diva_core.proofs.Laying.{effects_byte}
use Rattle.diva_ooo.proofs.Knowing.{shown}
use Rattle.diva_ooo.proofs.Reading.{byte_next, effects, none_yet, older_none, quiet}
use Rattle.diva_ooo.proofs.flight.FlightLook.byte.Goals as goal

pub returns-in_err-byte : goal.returns-in_err-byte
returns-in_err-byte c =
    let f = c.args.self.now in
    let outside : byte_of (with_effects f.view.now f.ahead.now.ring) c.args.addr ≡ None = search rules in
    rw c.from_residual.ensures (sym (older_none f.view.now f.ahead.now.ring (effects (take f.at f.window.now)) c.args.addr outside))

pub loop-place-init : goal.loop-place-init
loop-place-init c =
    let f = c.args.self.now in
    let here : byte_of (with_effects f.view.now f.ahead.now.ring) c.args.addr ≡ Some c.in_ok-byte.byte = search rules in
    record { seen = ap (λ (es : List Effect). byte_of (with_effects f.view.now es) c.args.addr) (none_yet f.ahead.now.ring f.window.now) ∙ here; within = omega arith }

pub overflow_add-from : goal.overflow_add-from
overflow_add-from c =
    let below = c.in-Some.ensures.below in
    omega arith

pub loop-place-preserved : goal.loop-place-preserved
loop-place-preserved c =
    let f = c.args.self.now in
    let next = c.in-Some.ensures.some in
    let before = next.1 in
    let same = quiet byte_of 1 effects_byte f.view.now f.ahead.now.ring f.window.now c.loop-place.from c.in-Some.place c.args.addr c.loop-place.byte next.0.behind (λ i h k. next.0.first i h k) c.loop-place.invariant.seen in
    record {
      seen = rw (c.unwrap_or-byte.ensures, c.byte_in.ensures, c.entry.invariant.effect)
          (byte_next f.view.now f.ahead.now.ring f.window.now c.in-Some.place (shown c.entry.inside) c.args.addr c.loop-place.byte (c.entry-entry.ensures ∙ ap Some (sym c.entry.view_is)) same);
      within = omega arith;
    }

pub returns : goal.returns
returns c =
    let f = c.args.self.now in
    sym (quiet byte_of 1 effects_byte f.view.now f.ahead.now.ring f.window.now c.loop-place.from f.at c.args.addr c.loop-place.byte c.loop-place.invariant.within (λ i h k. c.in_default.ensures.none refl i h k) c.loop-place.invariant.seen)

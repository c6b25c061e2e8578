use Rattle.std.proofs.Common.{◌≡◌, ◌<◌, ◌^◌, List, None, Some, arith, sym, ap, refl, ◌∙◌, rules, slice_get, take}
use Rattle.diva_isa.specs.State.{word_of}
use Rattle.diva_isa.specs.declared.effect.Effect.{Effect}
use Rattle.diva_isa.specs.declared.effect.Effect.TheVariants.{Stores}
use Rattle.diva_isa.specs.declared.kind.Width.TheVariants.{Word}
use Rattle.diva_core.specs.Effects.{is_apart, with_effects}
use Rattle.diva_core.proofs.Laying.{effects_word}
use Rattle.diva_ooo.specs.WindowEntry.{WindowEntry}
use Rattle.diva_ooo.proofs.Knowing.{shown}
use Rattle.diva_ooo.proofs.Reading.{effects, none_yet, older_word_none, quiet, word_apart, word_whole}
use Rattle.diva_ooo.proofs.flight.Flight.find_word.Goals as goal
use Rattle.diva_ahead.specs.Effects.{done_by}
use Rattle.diva_ooo.proofs.flight.Flight.find_word.Goals.{in-Stores-Word-default-default, in_default-effect}

pub returns-in_err-latest : goal.returns-in_err-latest
returns-in_err-latest c =
    let f = c.args.self.now in
    let outside : word_of (with_effects f.view.now f.ahead.now.ring) c.args.addr ≡ None = search rules in
    rw c.from_residual.ensures (sym (older_word_none f.view.now f.ahead.now.ring (effects (take f.at f.window.now)) c.args.addr outside))

pub loop-place-init : goal.loop-place-init
loop-place-init c =
    let f = c.args.self.now in
    let here : word_of (with_effects f.view.now f.ahead.now.ring) c.args.addr ≡ Some c.in_ok-latest.latest = search rules in
    record { seen = ap (λ (es : List Effect). word_of (with_effects f.view.now es) c.args.addr) (none_yet f.ahead.now.ring f.window.now) ∙ here; within = omega arith }

pub overflow_add-from : goal.overflow_add-from
overflow_add-from c =
    let below = c.in-Some.ensures.below in
    omega arith

pub loop-place-preserved : goal.loop-place-preserved
loop-place-preserved c =
    let f = c.args.self.now in
    let next = c.in-Some.ensures.some in
    let before = next.1 in
    let place = c.in-Some.place in
    let latest = c.loop-place.latest in
    let e : WindowEntry = shown c.entry.inside in
    let does = c.entry.invariant.effect in
    let here : slice_get f.window.now place ≡ Some e = c.entry-entry.ensures ∙ ap Some (sym c.entry.view_is) in
    let same = quiet word_of 4 effects_word f.view.now f.ahead.now.ring f.window.now c.loop-place.from place c.args.addr latest next.0.behind (λ i h k. next.0.first i h k) c.loop-place.invariant.seen in
    record {
      seen =
          elim c.match-effect.branch [
            | in-Stores-Word-default-default w ↦
                let v = w.in-Stores-Word-default-default.value in
                let stores : c.entry.inside.effect ≡ Stores Word c.args.addr v = search rules in
                let whole : done_by e.result ≡ Stores Word c.args.addr v = sym does ∙ stores in
                let fits : v < 2 ^ 32 = search rules in
                rw w.latest-is (word_whole f.view.now f.ahead.now.ring f.window.now place e c.args.addr v latest here whole fits same)
            | in_default-effect w ↦
                rw w.latest-is (word_apart f.view.now f.ahead.now.ring f.window.now place e c.args.addr latest here (ap (λ (d : Effect). is_apart d c.args.addr 4) (sym does) ∙ sym w.is_apart.ensures ∙ w.if-is_apart.true) same)
          ];
      within = omega arith;
    }

pub returns : goal.returns
returns c =
    let f = c.args.self.now in
    sym (quiet word_of 4 effects_word f.view.now f.ahead.now.ring f.window.now c.loop-place.from f.at c.args.addr c.loop-place.latest c.loop-place.invariant.within (λ i h k. c.in_default.ensures.none refl i h k) c.loop-place.invariant.seen)

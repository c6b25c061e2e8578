use Rattle.std.proofs.Common.{◌≡◌, ◌+◌, ap, sym, ◌∙◌, arith}
use Rattle.diva_duo.specs.Duo.{Duo}
use Rattle.diva_duo.specs.Which.{First, Second}
use Rattle.diva_duo.proofs.Cycles.{cycles_more}
use Rattle.diva_duo.proofs.Progress.{has_gone, will_go}
use Rattle.diva_duo.proofs.Turning.{drives_none, drives_more}
use Rattle.diva_duo.proofs.drives.drive2.Goals as goal

pub returns-then-ended-clause-drives : goal.returns-then-ended-clause-drives
returns-then-ended-clause-drives g c = drives_none g.A.Core.gives g.B.Core.gives _ _ _ c.ended.ensures.duo

pub loop-init : goal.loop-init
loop-init g c =
    let on = sym c.ended.ensures.value ∙ c.if-ended.false in
    record { drives = drives_none g.A.Core.gives g.B.Core.gives _ _ _ c.ended.ensures.duo; on = on; began = on; start = c.ended.ensures.duo; sound = c.ended.ensures.duo; cycles = omega arith }

pub returns-then-ended-2-clause-drives : goal.returns-then-ended-2-clause-drives
returns-then-ended-2-clause-drives g c =
    let inv = c.loop.invariant in
    drives_more g.A.Core.gives g.B.Core.gives _ _ _ c.loop.duo _ _
    (record { first = c.ask.new.list; first_core = c.ask.new.core; second = c.ask-in-loop.new.list; second_core = c.ask-in-loop.new.core })
    c.cycle.new.self inv.drives inv.start inv.sound inv.on c.ask.ensures c.ask-in-loop.ensures c.cycle.ensures.cycled c.cycle.ensures.last

pub returns-then-ended-2-clause-within : goal.returns-then-ended-2-clause-within
returns-then-ended-2-clause-within g c =
    let n : c.cycle.new.self.duo.cycles ≡ c.loop.duo.duo.cycles + 1 = ap (λ (d : Duo). d.cycles) c.cycle.ensures.cycled ∙ cycles_more c.loop.duo.duo c.loop.invariant.sound c.ask.new.list c.ask-in-loop.new.list c.loop.invariant.on in
    let at = c.loop.invariant.cycles in
    omega arith

pub loop-preserved : goal.loop-preserved
loop-preserved g c =
    let inv = c.loop.invariant in
    let n : c.cycle.new.self.duo.cycles ≡ c.loop.duo.duo.cycles + 1 = ap (λ (d : Duo). d.cycles) c.cycle.ensures.cycled ∙ cycles_more c.loop.duo.duo inv.sound c.ask.new.list c.ask-in-loop.new.list inv.on in
    record {
      drives = drives_more g.A.Core.gives g.B.Core.gives _ _ _ c.loop.duo _ _
          (record { first = c.ask.new.list; first_core = c.ask.new.core; second = c.ask-in-loop.new.list; second_core = c.ask-in-loop.new.core })
          c.cycle.new.self inv.drives inv.start inv.sound inv.on c.ask.ensures c.ask-in-loop.ensures c.cycle.ensures.cycled c.cycle.ensures.last;
      on = sym c.ended-in-loop.ensures.value ∙ c.if-ended-2.false;
      began = inv.began;
      start = inv.start;
      sound = c.cycle.ensures.duo;
      cycles = (let at = inv.cycles in omega arith);
    }

pub returns-clause-first_will_go : goal.returns-clause-first_will_go
returns-clause-first_will_go g c = will_go First c.loop.duo.duo c.loop.invariant.sound

pub returns-clause-second_will_go : goal.returns-clause-second_will_go
returns-clause-second_will_go g c = will_go Second c.loop.duo.duo c.loop.invariant.sound

pub returns-clause-first_has_gone : goal.returns-clause-first_has_gone
returns-clause-first_has_gone g c = has_gone First c.loop.duo.duo c.loop.invariant.sound

pub returns-clause-second_has_gone : goal.returns-clause-second_has_gone
returns-clause-second_has_gone g c = has_gone Second c.loop.duo.duo c.loop.invariant.sound

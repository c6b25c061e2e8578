use Rattle.std.proofs.Common.{◌≡◌, true, refl, sym, ◌∙◌, ap, not, arith}
use Rattle.std.proofs.Math.Bool.{not-not}
use Rattle.diva_isa.specs.State.{goes_on}
use Rattle.diva_core.proofs.Outcomes.{cycle-cycles}
use Rattle.diva_core.proofs.Pacing.{turns-stay}
use Rattle.diva_machine.proofs.Asking.{led_more, led_none}
use Rattle.diva_machine.proofs.Laws.{idle_goes_on}
use Rattle.diva_machine.proofs.turns.drive_by.Goals as goal

-- ---- a machine that had ended

pub returns-then-not-goes_on-clause-led : goal.returns-then-not-goes_on-clause-led
returns-then-not-goes_on-clause-led g c = led_none g.C.Core.gives _ _ g.S.Stages.led _

pub loop-list-init : goal.loop-list-init
loop-list-init g c =
    record {
      on = sym c.goes_on.ensures.value ∙ c.if-not-goes_on.false;
      began = sym c.goes_on.ensures.value ∙ c.if-not-goes_on.false;
      within = omega arith;
      sound = c.goes_on.ensures.machine;
      outvoted = refl;
      stages = c.requires.stages_sound;
      led = led_none g.C.Core.gives _ _ g.S.Stages.led _;
    }

-- ---- a turn

pub has_just_ended-requires : goal.has_just_ended-requires
has_just_ended-requires g c =
    let inv = c.loop-list.invariant in
    λ off. idle_goes_on c.loop-list.m.timed c.cycle_within-committed.new.self.timed c.ask-fits.new.list c.cycle_within-committed.new.self.last (turns-stay g.C.Core.gives _ _ _ _ inv.sound inv.led.taken.turns) c.cycle_within-committed.ensures.is.cycled inv.on c.cycle_within-committed.ensures.is.hart.due (c.cycle_within-committed.ensures.none off)

-- one that ended it

pub returns-then-has_just_ended-clause-led : goal.returns-then-has_just_ended-clause-led
returns-then-has_just_ended-clause-led g c =
    let inv = c.loop-list.invariant in
    led_more g.C.Core.gives _ _ _ _ g.S.Stages.led _ _ inv.led inv.sound c.cycle_within-committed.new.self c.ask-fits.new.list c.ask-fits.new.core c.cycle_within-committed.new.stages inv.on c.ask-fits.ensures.asked c.cycle_within-committed.ensures.is.cycled c.cycle_within-committed.ensures.is.hart.due c.cycle_within-committed.ensures.led

pub returns-then-has_just_ended-clause-within : goal.returns-then-has_just_ended-clause-within
returns-then-has_just_ended-clause-within g c =
    let inv = c.loop-list.invariant in
    let next = ap (λ m. m.cycles) c.cycle_within-committed.ensures.is.cycled ∙ cycle-cycles c.loop-list.m.timed c.ask-fits.new.list (turns-stay g.C.Core.gives _ _ _ _ inv.sound inv.led.taken.turns) inv.on in
    let l = c.loop-list-test.true in
    let first = c.cycles.ensures in
    let now = c.cycles-in-loop-list.ensures in omega arith

-- one after which it goes on

pub loop-list-smaller : goal.loop-list-smaller
loop-list-smaller g c =
    let inv = c.loop-list.invariant in
    let next = ap (λ m. m.cycles) c.cycle_within-committed.ensures.is.cycled ∙ cycle-cycles c.loop-list.m.timed c.ask-fits.new.list (turns-stay g.C.Core.gives _ _ _ _ inv.sound inv.led.taken.turns) inv.on in
    let l = c.loop-list-test.true in
    let first = c.cycles.ensures in
    let now = c.cycles-in-loop-list.ensures in omega arith

pub loop-list-preserved : goal.loop-list-preserved
loop-list-preserved g c =
    let inv = c.loop-list.invariant in
    let next = ap (λ m. m.cycles) c.cycle_within-committed.ensures.is.cycled ∙ cycle-cycles c.loop-list.m.timed c.ask-fits.new.list (turns-stay g.C.Core.gives _ _ _ _ inv.sound inv.led.taken.turns) inv.on in
    let l = c.loop-list-test.true in
    let first = c.cycles.ensures in
    let now = c.cycles-in-loop-list.ensures in
    let on : goes_on c.cycle_within-committed.new.self.timed.arch ≡ true = sym (not-not _) ∙ ap not (sym c.has_just_ended.ensures ∙ c.if-has_just_ended.false) in
    record {
      on = on;
      began = inv.began;
      within = omega arith;
      sound = inv.sound;
      outvoted = c.cycle_within-committed.ensures.outvoted ∙ inv.outvoted;
      stages = c.cycle_within-committed.ensures.stages_sound;
      led = led_more g.C.Core.gives _ _ _ _ g.S.Stages.led _ _ inv.led inv.sound c.cycle_within-committed.new.self c.ask-fits.new.list c.ask-fits.new.core c.cycle_within-committed.new.stages inv.on c.ask-fits.ensures.asked c.cycle_within-committed.ensures.is.cycled c.cycle_within-committed.ensures.is.hart.due c.cycle_within-committed.ensures.led;
    }

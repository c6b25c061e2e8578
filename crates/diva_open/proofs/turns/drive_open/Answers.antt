use Rattle.std.proofs.Common.{◌≡◌, ◌+◌, ◌≤◌, true, sym, ap, ◌∙◌, arith, inr, inl}
use Rattle.diva_isa.specs.State.{goes_on}
use Rattle.diva_core.specs.Told.{told_of}
use Rattle.diva_open.specs.Open.{Open}
use Rattle.diva_open.proofs.Phases.{cycle_cycles}
use Rattle.diva_open.proofs.Turning.{turns_more}
use Rattle.diva_open.proofs.turns.drive_open.Given as given
use Rattle.diva_open.proofs.turns.drive_open.Goals as goal

-- the machine goes on in the turn
runs : (g : given.Over) (c : goal.After-cycle-in-loop-list g) → goes_on c.loop-list.m.timed.arch ≡ true
runs g c = sym c.goes_on.ensures ∙ c.loop-list-test.true

-- one cycle more has run
counts_cycle : (g : given.Over) (c : goal.After-cycle-in-loop-list g) → c.cycle-in-loop-list.new.self.timed.cycles ≡ c.loop-list.m.timed.cycles + 1
counts_cycle g c = ap (λ (o : Open). o.timed.cycles) c.cycle-in-loop-list.ensures ∙ cycle_cycles c.loop-list.m c.cycle.new.out (runs g c)

-- the budget was not run before
early : (g : given.Over) (c : goal.After-cycle-in-loop-list g) → c.loop-list.m.timed.cycles + 1 ≤ c.args.m.now.timed.cycles + c.args.budget
early g c =
    let test = c.if-cycles-last.false in
    let first = c.cycles.ensures in
    let now = c.cycles-in-loop-list.ensures in omega arith

asked : (g : given.Over) (c : goal.After-cycle-in-loop-list g) → g.C.Core.gives c.loop-list.core (told_of c.loop-list.m.timed) c.loop-list.m.timed.arch c.cycle.new.out c.cycle.new.self
asked g c = rw (← c.told.ensures, ← c.view.ensures.goes_on (runs g c)) c.cycle.ensures

pub loop-list-smaller : goal.loop-list-smaller
loop-list-smaller g c =
    let next = counts_cycle g c in
    let within = early g c in omega arith

pub loop-list-preserved : goal.loop-list-preserved
loop-list-preserved g c =
    let inv = c.loop-list.invariant in
    let next = counts_cycle g c in
    let within = early g c in
    record {
      turns = turns_more g.C.Core.gives c.args.m.now c.args.core.now c.loop-list.m c.loop-list.core inv.turns c.cycle-in-loop-list.new.self c.cycle.new.out c.cycle.new.self
          (runs g c) (asked g c) c.cycle-in-loop-list.ensures;
      within = omega arith;
      began = elim inv.began [ inl first ↦ inr (ap (λ (o : Open). goes_on o.timed.arch) (sym first.0) ∙ runs g c) | inr on ↦ inr on ];
    }

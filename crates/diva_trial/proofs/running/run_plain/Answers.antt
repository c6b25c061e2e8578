-- One turn more.
use Rattle.std.proofs.Common.{◌∙◌, sym, ap, ◌+◌, arith}
use Rattle.diva_faults.specs.Lists.{scripted}
use Rattle.diva_trial.proofs.Pathing.{Stands-more}
use Rattle.diva_trial.proofs.running.run_plain.Goals as goal

pub loop-m-preserved : goal.loop-m-preserved
loop-m-preserved g c =
    let inv = c.loop-m.invariant in
    let last = c.cycle-in-loop-m.ensures in
    let on = sym c.goes_on.ensures ∙ c.if-goes_on.true in
    record {
      stands = λ o first s. Stands-more g.M.Driven.step g.C.Core.gives c.args.script.now o first (g.M.Driven.seen c.loop-m.m) c.loop-m.core (g.M.Driven.seen c.cycle-in-loop-m.new.self) c.cycle.new.out c.cycle.new.self
          (inv.stands o first s) on (rw (← c.told.ensures, ← c.view.ensures on) c.cycle.ensures)
          (last.cycled ∙ ap (g.M.Driven.step (g.M.Driven.seen c.loop-m.m)) (c.lay.ensures ∙ ap (λ n. scripted c.args.script.now (n + 1) c.cycle.new.out) c.cycles-in-loop-m.ensures)) last.raised;
      alike = record { config = last.config ∙ inv.alike.config; size = last.size ∙ inv.alike.size };
      within = (let r = last.raised in let test = c.loop-m-test.true in let run = c.cycles.ensures in omega arith);
    }

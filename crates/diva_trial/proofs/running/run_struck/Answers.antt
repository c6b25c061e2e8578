-- One turn more.
use Rattle.std.proofs.Common.{◌∙◌, sym, refl, arith}
use Rattle.diva_trial.proofs.Pathing.{Struck-again, Struck-begins, Struck-yet}
use Rattle.diva_trial.proofs.running.run_struck.Goals as goal

pub loop-m-init : goal.loop-m-init
loop-m-init g c =
    record {
      struck = λ o first s. Struck-begins g.M.Driven.step g.C.Core.gives c.args.script.now c.args.fault.now o first (g.M.Driven.seen c.args.m.now) c.args.core.now c.requires.before s;
      alike = record { config = refl; size = refl };
      within = c.requires.within;
    }

pub loop-m-preserved-then-hit : goal.loop-m-preserved-then-hit
loop-m-preserved-then-hit g c =
    let inv = c.loop-m.invariant in
    let t = c.turn_struck-struck.ensures in
    let test = c.loop-m-test.true in
    let run = c.cycles.ensures in
    record {
      struck = λ o first s. Struck-again g.M.Driven.step g.C.Core.gives c.args.script.now c.args.fault.now o first (g.M.Driven.seen c.loop-m.m) c.loop-m.core c.loop-m.hit
          (g.M.Driven.seen c.turn_struck-struck.new.m) c.turn_struck-struck.new.core c.turn_struck-struck.result
          c.if-hit.true (inv.struck o first s) (sym c.goes_on.ensures ∙ c.if-goes_on.true) t.turn t.raised;
      alike = record { config = t.alike.config ∙ inv.alike.config; size = t.alike.size ∙ inv.alike.size };
      within = (let r = t.raised in omega arith);
    }

pub loop-m-preserved : goal.loop-m-preserved
loop-m-preserved g c =
    let inv = c.loop-m.invariant in
    let t = c.turn_struck-struck.ensures in
    let test = c.loop-m-test.true in
    let run = c.cycles.ensures in
    record {
      struck = λ o first s. Struck-yet g.M.Driven.step g.C.Core.gives c.args.script.now c.args.fault.now o first (g.M.Driven.seen c.loop-m.m) c.loop-m.core c.loop-m.hit
          (g.M.Driven.seen c.turn_struck-struck.new.m) c.turn_struck-struck.new.core c.turn_struck-struck.result
          c.if-hit.false (inv.struck o first s) (sym c.goes_on.ensures ∙ c.if-goes_on.true) t.turn t.raised;
      alike = record { config = t.alike.config ∙ inv.alike.config; size = t.alike.size ∙ inv.alike.size };
      within = (let r = t.raised in omega arith);
    }

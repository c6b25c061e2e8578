-- The runs under a fault, and what became of them.
use Rattle.std.proofs.Common.{◌≡◌, ◌↔◌, ◌∙◌, Bool, true, ap, sym, subst}
use Rattle.std.specs.List.{All}
use Rattle.diva_machine.specs.Machine.{Machine}
use Rattle.diva_open.specs.Laws.{opened}
use Rattle.diva_open.specs.Open.{Open, new_open, open_cycle_of}
use Rattle.diva_inject.specs.declared.outcome.Outcome.{Outcome}
use Rattle.diva_trial.specs.Inner.{IsOver}
use Rattle.diva_trial.specs.Kept.{IsStand}
use Rattle.diva_trial.specs.Paths.{HasHit, checked_cycle, lists_on}
use Rattle.diva_trial.specs.Trials.{outcome_of}
use Rattle.diva_trial.proofs.trials.Trials.run.Goals as goal

pub returns-clause-trial : goal.returns-clause-trial
returns-clause-trial g c = λ config start core t.
    let o : Open = new_open config start in
    let checked = c.strike-hit.ensures.struck o core t.checked in
    let unchecked = c.strike.ensures.struck o core t.unchecked in
    let over : IsOver c.args.self.now.until (opened c.strike-hit.new.self.work.machine.timed) = subst (λ n. IsOver n (opened c.strike-hit.new.self.work.machine.timed)) c.from-until.ensures c.strike-hit.ensures.over in
    let open_over : IsOver c.args.self.now.until c.strike.new.self.work.machine = subst (λ n. IsOver n c.strike.new.self.work.machine) c.from-until.ensures c.strike.ensures.over in
    let is = c.outcome_of.ensures in
    let hit : c.outcome_of.result.hit ≡ c.strike-hit.result = ap (λ (x : Outcome). x.hit) is in
    record {
      last = c.strike-hit.new.self.work.machine.timed;
      o = c.strike.new.self.work.machine;
      trial = record {
        final = c.strike-hit.new.self.work.core;
        runs = record { leads = checked.leads; within = over.within; whole = over.whole };
        hit = subst (λ (b : Bool). (b ≡ true) ↔ HasHit checked_cycle c.args.self.now.script.now c.args.fault.now o (lists_on checked.leads.path)) (sym hit) checked.decides;
        open_final = c.strike.new.self.work.core;
        open_runs = record { leads = unchecked.leads; within = open_over.within; whole = open_over.whole };
        says = is ∙ ap (λ (b : Bool). outcome_of c.args.number c.args.fault.now b c.args.self.now.free.timed c.strike-hit.new.self.work.machine.timed c.strike.new.self.work.machine) (sym hit);
      };
    }

pub returns-clause-stays : goal.returns-clause-stays
returns-clause-stays g c = λ config start core t.
    let o : Open = new_open config start in
    record {
      free = t.free;
      checked = subst (All (IsStand (λ (m : Machine). opened m.timed) checked_cycle g.C.Core.gives c.args.self.now.script.now o core)) (sym c.strike-hit.ensures.stands) t.checked;
      unchecked = subst (All (IsStand (λ (m : Open). m) open_cycle_of g.C.Core.gives c.args.self.now.script.now o core)) (sym c.strike.ensures.stands) t.unchecked;
    }

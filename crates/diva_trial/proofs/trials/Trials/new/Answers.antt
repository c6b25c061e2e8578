-- The run without a fault, and what is kept of it.
use Rattle.std.proofs.Common.{subst}
use Rattle.diva_image.specs.ImageLayout.{layout}
use Rattle.diva_hart.specs.Start.{start_of}
use Rattle.diva_open.specs.Laws.{opened}
use Rattle.diva_open.specs.Open.{Open, new_open}
use Rattle.diva_trial.specs.Inner.{IsOver}
use Rattle.diva_trial.specs.Paths.{checked_cycle}
use Rattle.diva_trial.proofs.Keeping.{stands_new}
use Rattle.diva_trial.proofs.trials.Trials.new.Goals as goal

pub returns-clause-are : goal.returns-clause-are
returns-clause-are g c =
    let o : Open = new_open c.args.config (start_of (layout c.args.image.now)) in
    let free = c.in_ok-free.ensures in
    let s = c.run_plain.ensures.stands o c.args.core.now
    (stands_new checked_cycle g.C.Core.gives c.args.script.now o c.args.core.now (opened c.in_ok-free.free.machine.timed) c.in_ok-free.free.core free.machine free.core) in
    let over : IsOver c.args.until (opened c.run_plain.new.m.timed) = subst (λ n. IsOver n (opened c.run_plain.new.m.timed)) c.from.ensures c.run_plain.ensures.over in
    record {
      free = record { final = c.run_plain.new.core; runs = record { leads = s.leads; within = over.within; whole = over.whole } };
      checked = c.in_ok-new.ensures.stands;
      unchecked = c.in_ok-new-2.ensures.stands;
    }

-- Line by line.
use Rattle.std.proofs.Common.{◌∙◌, ◌+◌, refl, arith}
use Rattle.std.proofs.lemmas.Result.{err_from_is_err_and}
use Rattle.diva_trial.proofs.Numbering.{none_left, skip, take_one}
use Rattle.diva_trial.proofs.Putting.{as_outcome, cut_header, cut_more, put_all, put_header, put_more}
use Rattle.diva_trial.proofs.lines.put_trials.Goals as goal

pub returns-in_err-put_line : goal.returns-in_err-put_line
returns-in_err-put_line g c = λ config start core t.
    let failed = err_from_is_err_and c.from_residual.result c.from_residual.ensures.1 in
    rw failed.1 (cut_header _ _ g.S.Sink.account _ _ _ (rw c.header_line.ensures at c.in_err-put_line.ensures))

pub loop-number-init : goal.loop-number-init
loop-number-init g c =
    let f = c.args.faults.now in
    record {
      ready = c.requires.ready;
      stays = record { trials = λ config start core t. t; free = refl; script = refl; until = refl };
      one = c.next-number.ensures.one;
      puts = λ config start core t.
          put_header _ _ g.S.Sink.account _ _ _ (skip f.part f.first c.next-number.result f.count (rw (← c.from.ensures) c.next-number.ensures))
          (rw c.header_line.ensures at c.in_ok-put_line.ensures);
    }

pub returns-in_err-put_trial : goal.returns-in_err-put_trial
returns-in_err-put_trial g c = λ config start core t.
    let f = c.args.faults.now in
    let inv = c.loop-number.invariant in
    let failed = err_from_is_err_and c.from_residual-in_err-put_trial.result c.from_residual-in_err-put_trial.ensures.1 in
    let left = take_one f.part c.loop-number.number f.count inv.one (omega (arith, c.loop-number-test.true, c.from-count.ensures)) in
    rw failed.1 (cut_more _ _ g.S.Sink.account _ _ _ _ _ _ (rw left at (inv.puts config start core t))
    (as_outcome g.C.Core.gives _ _ _ _ _ _ config start core inv.stays (c.in_err-put_trial.ensures.line config start core (inv.stays.trials config start core t))))

pub loop-number-preserved : goal.loop-number-preserved
loop-number-preserved g c =
    let f = c.args.faults.now in
    let inv = c.loop-number.invariant in
    let was = inv.stays in
    let now = c.put_trial.ensures.stays in
    let left = take_one f.part c.loop-number.number f.count inv.one (omega (arith, c.loop-number-test.true, c.from-count.ensures)) in
    record {
      ready = c.put_trial.ensures.ready;
      stays = record {
        trials = λ config start core t. now.trials config start core (was.trials config start core t);
        free = now.free ∙ was.free;
        script = now.script ∙ was.script;
        until = now.until ∙ was.until;
      };
      one = c.next-number-in-loop-number.ensures.one;
      puts = λ config start core t.
          rw (← skip f.part (c.loop-number.number + 1) c.next-number-in-loop-number.result f.count c.next-number-in-loop-number.ensures)
          (put_more _ _ g.S.Sink.account c.loop-number.number _ _ _ _ (rw left at (inv.puts config start core t))
          (as_outcome g.C.Core.gives _ _ _ _ _ _ config start core was (c.in_ok-put_trial.ensures.line config start core (was.trials config start core t))));
    }

pub returns : goal.returns
returns g c = λ config start core t.
    put_all _ _ g.S.Sink.account _ _ _ (none_left c.args.faults.now.part c.loop-number.number c.args.faults.now.count (omega (arith, c.loop-number-test.false, c.from-count.ensures)))
    (c.loop-number.invariant.puts config start core t)

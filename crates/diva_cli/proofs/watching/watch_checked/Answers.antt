-- One turn more, with what was written of it.
use Rattle.std.proofs.Common.{◌+◌, sym, ◌∙◌, ap, arith}
use Rattle.std.proofs.lemmas.Result.{err_from_is_err_and}
use Rattle.diva_core.specs.Timed.{Timed}
use Rattle.diva_core.proofs.Outcomes.{cycle-cycles}
use Rattle.diva_cli.proofs.Seeing.{counts_fit, counts_on, ended, watched, watches_none, watches_turn}
use Rattle.diva_cli.specs.Lanes.{are_asked}
use Rattle.diva_cli.proofs.Polling.{asked_then, none_asked}
use Rattle.diva_cli.proofs.watching.watch_checked.Goals as goal

pub returns-then-not-goes_on : goal.returns-then-not-goes_on
returns-then-not-goes_on g c =
    watched g.C.Core.gives g.W.Watcher.puts g.W.Watcher.says _ _ _ g.S.Sink.account _ _ 0 c.args.budget _ _ _ _ _
    (watches_none g.C.Core.gives g.W.Watcher.puts g.W.Watcher.says _ _ _ g.S.Sink.account _ (are_asked g.L.Lane.says c.args.lanes.now c.args.lanes.now c.args.liar) (none_asked g.L.Lane.says c.args.lanes.now c.args.liar)) c.goes_on.ensures.machine (omega arith)
    (ended c.args.m.now.timed 0 c.args.budget (sym c.goes_on.ensures.value ∙ c.if-not-goes_on.true))

pub loop-init : goal.loop-init
loop-init g c =
    record {
      watches = watches_none g.C.Core.gives g.W.Watcher.puts g.W.Watcher.says _ _ _ g.S.Sink.account _ _ (none_asked g.L.Lane.says c.args.lanes.now c.args.liar);
      can = λ n h. c.requires.can n (omega arith);
      on = sym c.goes_on.ensures.value ∙ c.if-not-goes_on.false;
      sound = c.goes_on.ensures.machine;
      honest = c.requires.honest;
    }

pub see-requires-clause-can : goal.see-requires-clause-can
see-requires-clause-can g c = c.loop.invariant.can 1 (let l = c.loop-test.true in omega arith)

pub see-requires-clause-first : goal.see-requires-clause-first
see-requires-clause-first g c =
    let is = c.turn_checked.ensures.is.cycle.hart in
    counts_on c.loop.m.timed c.turn_checked.new.m _ c.count-first.ensures is.due is.rises.counted

pub see-requires-clause-count : goal.see-requires-clause-count
see-requires-clause-count g c =
    let inv = c.loop.invariant in
    let next = cycle-cycles c.loop.m.timed c.turn_checked.new.list inv.sound inv.on in
    counts_fit c.turn_checked.new.m.timed c.turn_checked.ensures.is.cycle.machine
    (let e = ap (λ (k : Timed). k.cycles) c.turn_checked.ensures.is.cycle.cycled in let y = inv.watches.many in let l = c.loop-test.true in let r = c.requires.cycles in omega arith)

pub returns-in_err-see : goal.returns-in_err-see
returns-in_err-see g c =
    let inv = c.loop.invariant in
    let failed = err_from_is_err_and c.from_residual.result c.from_residual.ensures.1 in
    rw failed.1 (watched g.C.Core.gives g.W.Watcher.puts g.W.Watcher.says _ _ _ g.S.Sink.account _ _ (c.loop.counter + 1) c.args.budget _ _ _ _ _
    (watches_turn g.C.Core.gives g.W.Watcher.puts g.W.Watcher.says _ _ _ g.S.Sink.account _ _ (are_asked g.L.Lane.says c.args.lanes.now c.turn_checked.new.lanes c.args.liar) c.loop.counter _ _ _ _ inv.watches
    (λ earlier asked. asked_then g.L.Lane.says _ _ _ c.args.liar earlier _ asked c.turn_checked.ensures.lanes)
    c.goes_on.ensures.machine inv.on _ _ _ c.turn_checked.ensures.is _ c.count-first.ensures _ _ _ c.in_err-see.ensures.watches c.in_err-see.ensures.says)
    c.goes_on.ensures.machine (let l = c.loop-test.true in omega arith) tt)

pub returns-then-not-goes_on-2 : goal.returns-then-not-goes_on-2
returns-then-not-goes_on-2 g c =
    let inv = c.loop.invariant in
    watched g.C.Core.gives g.W.Watcher.puts g.W.Watcher.says _ _ _ g.S.Sink.account _ _ (c.loop.counter + 1) c.args.budget _ _ _ _ _
    (watches_turn g.C.Core.gives g.W.Watcher.puts g.W.Watcher.says _ _ _ g.S.Sink.account _ _ (are_asked g.L.Lane.says c.args.lanes.now c.turn_checked.new.lanes c.args.liar) c.loop.counter _ _ _ _ inv.watches
    (λ earlier asked. asked_then g.L.Lane.says _ _ _ c.args.liar earlier _ asked c.turn_checked.ensures.lanes)
    c.goes_on.ensures.machine inv.on _ _ _ c.turn_checked.ensures.is _ c.count-first.ensures _ _ _ c.in_ok-see.ensures.watches c.in_ok-see.ensures.says)
    c.goes_on.ensures.machine (let l = c.loop-test.true in omega arith)
    (ended c.turn_checked.new.m.timed (c.loop.counter + 1) c.args.budget (sym c.goes_on-in-loop.ensures.value ∙ c.if-not-goes_on-2.true))

pub loop-preserved : goal.loop-preserved
loop-preserved g c =
    let inv = c.loop.invariant in
    record {
      watches = watches_turn g.C.Core.gives g.W.Watcher.puts g.W.Watcher.says _ _ _ g.S.Sink.account _ _ (are_asked g.L.Lane.says c.args.lanes.now c.turn_checked.new.lanes c.args.liar) c.loop.counter _ _ _ _ inv.watches
          (λ earlier asked. asked_then g.L.Lane.says _ _ _ c.args.liar earlier _ asked c.turn_checked.ensures.lanes)
          c.goes_on.ensures.machine inv.on _ _ _ c.turn_checked.ensures.is _ c.count-first.ensures _ _ _ c.in_ok-see.ensures.watches c.in_ok-see.ensures.says;
      can = λ n h. c.in_ok-see.ensures.can n (inv.can (n + 1) (omega arith));
      on = sym c.goes_on-in-loop.ensures.value ∙ c.if-not-goes_on-2.false;
      sound = c.turn_checked.ensures.is.cycle.machine;
      honest = c.turn_checked.ensures.honest;
    }

pub returns : goal.returns
returns g c =
    watched g.C.Core.gives g.W.Watcher.puts g.W.Watcher.says _ _ _ g.S.Sink.account _ _ c.loop.counter c.args.budget _ _ _ _ _ c.loop.invariant.watches
    c.goes_on.ensures.machine (let e = c.loop.auto.counter-end in omega arith)
    (λ on. (let e = c.loop.auto.counter-end in let f = c.loop-test.false in omega arith))

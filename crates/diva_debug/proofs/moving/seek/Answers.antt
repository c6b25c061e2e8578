-- One instruction more.
use Rattle.std.proofs.Common.{◌≡◌, ◌-◌, true, false, sym, subst, ◌∙◌, arith, rules}
use Rattle.diva_isa.specs.State.{goes_on}
use Rattle.diva_debug.specs.Inner.{Advances}
use Rattle.diva_debug.specs.Moves.{stands_at, steps_until}
use Rattle.diva_debug.proofs.Advancing.{advances_none, advances_then}
use Rattle.diva_debug.proofs.Stepping.{left-then, stops-there, until-off}
use Rattle.diva_debug.proofs.moving.seek.Goals as goal

pub loop-init : goal.loop-init
loop-init g c = record { so_far = advances_none g.C.Core.gives _ _ c.requires.sound; left = search rules }

pub returns-then-not-goes_on : goal.returns-then-not-goes_on
returns-then-not-goes_on g c =
    let inv = c.loop.invariant in
    let off : goes_on c.loop.m.machine.timed.arch ≡ false = sym c.goes_on.ensures.value ∙ c.if-not-goes_on.true in
    let none = until-off (c.args.most - c.loop.counter) c.args.pc c.loop.m.machine.timed.arch off in
    let all : steps_until c.args.most c.args.pc c.args.m.now.machine.timed.arch ≡ c.loop.counter = inv.left ∙ (omega arith) in
    subst (λ n. Advances g.C.Core.gives n c.args.m.now c.args.core.now c.loop.m c.loop.core) (sym all) inv.so_far

pub returns-then-stands_at : goal.returns-then-stands_at
returns-then-stands_at g c =
    let inv = c.loop.invariant in
    let on : goes_on c.loop.m.machine.timed.arch ≡ true = sym c.goes_on.ensures.value ∙ c.if-not-goes_on.false in
    let there : stands_at c.args.pc c.step_one.new.self.machine.timed.arch ≡ true = sym c.stands_at.ensures ∙ c.if-stands_at.true in
    let all = stops-there c.args.most c.loop.counter c.args.m.now.machine.timed c.loop.m.machine.timed c.step_one.new.self.machine.timed c.loop-test.true on c.step_one.ensures.moved c.args.pc inv.left there in
    subst (λ n. Advances g.C.Core.gives n c.args.m.now c.args.core.now c.step_one.new.self c.step_one.new.core) (sym all)
    (advances_then g.C.Core.gives c.loop.counter 1 _ _ _ _ _ _ inv.so_far c.step_one.ensures)

pub loop-preserved : goal.loop-preserved
loop-preserved g c =
    let inv = c.loop.invariant in
    let on : goes_on c.loop.m.machine.timed.arch ≡ true = sym c.goes_on.ensures.value ∙ c.if-not-goes_on.false in
    let other : stands_at c.args.pc c.step_one.new.self.machine.timed.arch ≡ false = sym c.stands_at.ensures ∙ c.if-stands_at.false in
    record {
      so_far = advances_then g.C.Core.gives c.loop.counter 1 _ _ _ _ _ _ inv.so_far c.step_one.ensures;
      left = left-then c.args.most c.loop.counter c.args.m.now.machine.timed c.loop.m.machine.timed c.step_one.new.self.machine.timed c.loop-test.true on c.step_one.ensures.moved c.args.pc inv.left other;
    }

-- One instruction more.
use Rattle.std.proofs.Common.{◌≡◌, ◌-◌, true, false, sym, subst, ◌∙◌, arith, rules}
use Rattle.diva_isa.specs.State.{goes_on}
use Rattle.diva_debug.specs.Inner.{Advances}
use Rattle.diva_debug.specs.Moves.{steps_in}
use Rattle.diva_debug.proofs.Advancing.{advances_none, advances_then}
use Rattle.diva_debug.proofs.Stepping.{in-then, steps_in-off}
use Rattle.diva_debug.proofs.moving.advance.Goals as goal

pub loop-init : goal.loop-init
loop-init g c = record { so_far = advances_none g.C.Core.gives _ _ c.requires.sound; left = search rules }

pub returns-then-not-goes_on : goal.returns-then-not-goes_on
returns-then-not-goes_on g c =
    let inv = c.loop.invariant in
    let off : goes_on c.loop.m.machine.timed.arch ≡ false = sym c.goes_on.ensures.value ∙ c.if-not-goes_on.true in
    let none = steps_in-off (c.args.count - c.loop.counter) c.loop.m.machine.timed.arch off in
    let all : steps_in c.args.count c.args.m.now.machine.timed.arch ≡ c.loop.counter = inv.left ∙ (omega arith) in
    subst (λ n. Advances g.C.Core.gives n c.args.m.now c.args.core.now c.loop.m c.loop.core) (sym all) inv.so_far

pub loop-preserved : goal.loop-preserved
loop-preserved g c =
    let inv = c.loop.invariant in
    let on : goes_on c.loop.m.machine.timed.arch ≡ true = sym c.goes_on.ensures.value ∙ c.if-not-goes_on.false in
    record {
      so_far = advances_then g.C.Core.gives c.loop.counter 1 _ _ _ _ _ _ inv.so_far c.step_one.ensures;
      left = in-then c.args.count c.loop.counter c.args.m.now.machine.timed c.loop.m.machine.timed c.step_one.new.self.machine.timed c.loop-test.true on c.step_one.ensures.moved inv.left;
    }

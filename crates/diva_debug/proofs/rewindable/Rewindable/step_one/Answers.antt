-- The instruction's undo was taken before it.
use Rattle.std.proofs.Common.{◌≡◌, true, ap, subst, ◌∙◌}
use Rattle.diva_isa.specs.State.{State, goes_on}
use Rattle.diva_isa.specs.Step.{step}
use Rattle.diva_isa.specs.Undo.{IsUndo, restore}
use Rattle.diva_debug.specs.Inner.{Advances}
use Rattle.diva_debug.specs.Rewindable.{Rewindable}
use Rattle.diva_debug.specs.Undos.{Undos}
use Rattle.diva_debug.proofs.Advancing.{advances_one, one_is}
use Rattle.diva_debug.proofs.rewindable.Rewindable.step_one.Goals as goal

pub invariant_of-self : goal.invariant_of-self
invariant_of-self g c =
    let r : Rewindable = record { machine = c.self.inside.machine; undos = c.self.inside.undos.items; keep = c.self.inside.undos.keep } in
    let last : Rewindable = record { machine = c.drive_one.new.m; undos = c.keep.new.self.items; keep = c.keep.new.self.keep } in
    let u = c.undo_of-undo.result in
    let on : goes_on r.machine.timed.arch ≡ true = ap (λ (r : Rewindable). goes_on r.machine.timed.arch) c.self.view_is ∙ c.requires.on in
    let at = c.view.ensures.goes_on on in
    let back = subst (λ (s : State). restore (step s) u ≡ s) at c.undo_of-undo.ensures.back in
    let overwrote = subst (λ (s : State). IsUndo (step s) u) at c.undo_of-undo.ensures.last in
    one_is g.C.Core.gives r c.args.core.now last c.drive_one.new.core u c.self.invariant back overwrote c.drive_one.ensures.moved
    (ap (λ (u : Undos). u.items) c.keep.ensures.items) (ap (λ (u : Undos). u.keep) c.keep.ensures.items) c.drive_one.ensures.config

pub returns : goal.returns
returns g c =
    let r : Rewindable = record { machine = c.self.inside.machine; undos = c.self.inside.undos.items; keep = c.self.inside.undos.keep } in
    let last : Rewindable = record { machine = c.drive_one.new.m; undos = c.keep.new.self.items; keep = c.keep.new.self.keep } in
    let u = c.undo_of-undo.result in
    let on : goes_on r.machine.timed.arch ≡ true = ap (λ (r : Rewindable). goes_on r.machine.timed.arch) c.self.view_is ∙ c.requires.on in
    let at = c.view.ensures.goes_on on in
    let back = subst (λ (s : State). restore (step s) u ≡ s) at c.undo_of-undo.ensures.back in
    let overwrote = subst (λ (s : State). IsUndo (step s) u) at c.undo_of-undo.ensures.last in
    subst (λ (r : Rewindable). Advances g.C.Core.gives 1 r c.args.core.now last c.drive_one.new.core) c.self.view_is
    (advances_one g.C.Core.gives r c.args.core.now last c.drive_one.new.core u c.self.invariant back overwrote c.drive_one.ensures.moved
    (ap (λ (u : Undos). u.items) c.keep.ensures.items) (ap (λ (u : Undos). u.keep) c.keep.ensures.items) c.drive_one.ensures.config
    c.drive_one.ensures.turns c.drive_one.ensures.within c.drive_one.ensures.at_once)

-- What its type keeps.
use Rattle.std.proofs.Common.{◌≡◌, ◌≤◌, Some, ap, sym, subst, ◌∙◌}
use Rattle.std.specs.Prelude.{slice_get}
use Rattle.diva_debug.specs.Rewindable.{Rewindable, kept_of}
use Rattle.diva_debug.specs.Undos.{Undos}
use Rattle.diva_debug.proofs.Backing.{back-is, back_one}
use Rattle.diva_debug.proofs.rewindable.Rewindable.undo.Goals as goal

pub invariant_of-self : goal.invariant_of-self
invariant_of-self c =
    let r : Rewindable = record { machine = c.self.inside.machine; undos = c.self.inside.undos.items; keep = c.self.inside.undos.keep } in
    let last : Rewindable = record { machine = c.undo.new.self; undos = c.pop.new.self.items; keep = c.pop.new.self.keep } in
    let newest : slice_get r.undos 0 ≡ Some c.in-Some.undo = sym c.pop.ensures.value ∙ c.in-Some.is in
    let rest = ap (λ (u : Undos). u.items) c.pop.ensures.rest in
    let keep = ap (λ (u : Undos). u.keep) c.pop.ensures.rest in
    let some : 1 ≤ kept_of r = subst (λ (r : Rewindable). 1 ≤ kept_of r) (sym c.self.view_is) c.requires in
    back-is 1 r last (back_one r c.in-Some.undo c.self.invariant last newest c.undo.ensures.undone c.undo.ensures.last rest) c.self.invariant some keep

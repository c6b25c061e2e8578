use Rattle.std.proofs.Common.{◌≡◌, ◌≢◌, ap, sym, ◌∙◌}
use Rattle.diva_core.specs.Timed.{Timed}
use Rattle.diva_machine.specs.Machine.{Machine}
use Rattle.diva_machine.proofs.Laws.{sound_undone}
use Rattle.diva_machine.proofs.Staging.{solo_undone, staged_undone}
use Rattle.diva_machine.proofs.machine.Machine.undo.Goals as goal

pub invariant_of-self : goal.invariant_of-self
invariant_of-self c =
    let same : c.self.inside.parts.timed ≡ c.args.self.now.timed = ap (λ (z : Machine). z.timed) c.self.view_is in
    let some : c.self.inside.parts.timed.count ≢ 0 = (λ none. c.requires.counted (ap (λ (m : Timed). m.count) (sym same) ∙ none)) in
    rw c.undo.ensures (sound_undone c.self.inside.parts.timed c.args.u.now c.self.invariant.0 some, (staged_undone _ c.self.inside.parts c.args.u.now, solo_undone _ c.self.inside.parts c.args.u.now))

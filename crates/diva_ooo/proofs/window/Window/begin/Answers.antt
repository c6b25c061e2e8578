use Rattle.std.proofs.Common.{◌≡◌, Some, ap, refl, rules, slice_get, sym, ◌∙◌}
use Rattle.diva_core.specs.Cycle.{is_store}
use Rattle.diva_ooo.specs.WindowEntry.{WindowEntry}
use Rattle.diva_ooo.specs.declared.entry.Progress.TheVariants.{Running}
use Rattle.diva_ooo.proofs.Knowing.{shown}
use Rattle.diva_ooo.proofs.window.Window.begin.Goals as goal

pub invariant_of-self : goal.invariant_of-self
invariant_of-self c =
    let w = c.self.inside.entries.items in
    let known = c.entry.invariant in
    let e : WindowEntry = shown c.entry.inside in
    let new : WindowEntry = record e { progress = Running c.entry.inside.profile.cycles; result = c.args.r } in
    let there : slice_get w c.args.at ≡ Some c.unwrap-entry.result.now = search rules in
    let here : slice_get w c.args.at ≡ Some e = there ∙ ap Some (sym c.entry.view_is) in
    let waits = c.requires.waits e (rw (← c.self.view_is) here) in (
      c.self.invariant.0,
      c.begin.ensures.board w e new c.self.invariant.1 here waits refl refl (ap is_store (sym known.effect) ∙ known.fresh waits) (ap is_store (sym c.requires.effect) ∙ sym c.is_store.ensures),
      rw c.begin.ensures.base c.self.invariant.2,
    )

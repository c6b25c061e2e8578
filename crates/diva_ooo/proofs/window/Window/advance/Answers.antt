use Rattle.std.proofs.Common.{◌≡◌, Some, ap, refl, rules, slice_get, sym, ◌∙◌}
use Rattle.diva_ooo.specs.WindowEntry.{WindowEntry}
use Rattle.diva_ooo.specs.declared.entry.Progress.TheVariants.{Running}
use Rattle.diva_ooo.proofs.Boarding.{board_runs}
use Rattle.diva_ooo.proofs.Knowing.{shown}
use Rattle.diva_ooo.proofs.window.Window.advance.Goals as goal

pub invariant_of-self : goal.invariant_of-self
invariant_of-self c =
    let w = c.self.inside.entries.items in
    let e : WindowEntry = shown c.entry.inside in
    let there : slice_get w c.args.at ≡ Some c.unwrap-entry.result.now = search rules in
    let here : slice_get w c.args.at ≡ Some e = there ∙ ap Some (sym c.entry.view_is) in (
      c.self.invariant.0,
      board_runs w c.args.at e (record e { progress = Running c.args.left }) c.self.inside.board c.self.invariant.1 here (c.requires.runs e (rw (← c.self.view_is) here)) refl refl refl,
      c.self.invariant.2,
    )

use Rattle.std.proofs.Common.{◌≡◌, Some, ap, refl, rules, slice_get, sym, ◌∙◌}
use Rattle.diva_ooo.specs.WindowEntry.{WindowEntry}
use Rattle.diva_ooo.specs.declared.entry.Progress.TheVariants.{Done}
use Rattle.diva_ooo.specs.declared.profile.Profile.{Profile}
use Rattle.diva_ooo.proofs.Knowing.{shown}
use Rattle.diva_ooo.proofs.window.Window.complete.Goals as goal

pub complete-requires-clause-register : goal.complete-requires-clause-register
complete-requires-clause-register c = c.entry.invariant.sources.rd

pub invariant_of-self : goal.invariant_of-self
invariant_of-self c =
    let w = c.self.inside.entries.items in
    let e : WindowEntry = shown c.entry.inside in
    let there : slice_get w c.args.at ≡ Some c.unwrap-entry.result.now = search rules in
    let here : slice_get w c.args.at ≡ Some e = there ∙ ap Some (sym c.entry.view_is) in (
      c.self.invariant.0,
      c.complete.ensures.board w e (record e { progress = Done }) c.self.invariant.1 here (c.requires.runs e (rw (← c.self.view_is) here)) refl refl refl (ap (λ (p : Profile). p.rd) c.entry.invariant.profile),
      rw c.complete.ensures.base c.self.invariant.2,
    )

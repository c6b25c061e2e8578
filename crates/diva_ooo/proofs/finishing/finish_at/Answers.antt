use Rattle.std.proofs.Common.{◌≡◌, Some, ap, arith, slice_get, sym, ◌∙◌}
use Rattle.diva_ooo.specs.WindowEntry.{WindowEntry}
use Rattle.diva_ooo.proofs.Finished.{finish_running, finish_ends}
use Rattle.diva_ooo.proofs.Knowing.{shown}
use Rattle.diva_ooo.proofs.Places.{drop_set_at}
use Rattle.diva_ooo.proofs.finishing.finish_at.Goals as goal

pub returns-in-Running-clause-finishes : goal.returns-in-Running-clause-finishes
returns-in-Running-clause-finishes c =
    let e : WindowEntry = shown c.entry.inside in
    let here : slice_get c.args.window.now c.args.at ≡ Some e = c.entry-entry.ensures ∙ ap Some (sym c.entry.view_is) in
    finish_running c.args.window.now c.advance.new.self c.args.at e c.in-Running.left here c.in-Running.is (omega arith) (c.advance.ensures.set e here)

pub returns-in-Running-2-clause-finishes : goal.returns-in-Running-2-clause-finishes
returns-in-Running-2-clause-finishes c =
    let e : WindowEntry = shown c.entry.inside in
    let here : slice_get c.args.window.now c.args.at ≡ Some e = c.entry-entry.ensures ∙ ap Some (sym c.entry.view_is) in
    let same : c.in-Running-2.field-0 ≡ c.in-Running.left = cc (c.in-Running.is, c.in-Running-2.is) in
    finish_ends c.args.window.now c.complete.new.self c.args.at e c.in-Running-2.field-0 c.redirect_by.result here c.in-Running-2.is (omega arith) (c.complete.ensures.set e here) c.redirect_by.ensures

pub returns-in-Running-clause-behind : goal.returns-in-Running-clause-behind
returns-in-Running-clause-behind c = rw (c.advance.ensures.set c.entry-entry.result.now c.entry-entry.ensures) (drop_set_at c.args.window.now c.args.at _)

pub returns-in-Running-2-clause-behind : goal.returns-in-Running-2-clause-behind
returns-in-Running-2-clause-behind c = rw (c.complete.ensures.set c.entry-entry.result.now c.entry-entry.ensures) (drop_set_at c.args.window.now c.args.at _)

use Rattle.std.proofs.Common.{◌≡◌, length, take, Some, ap, arith, rules, slice_get, sym, true, ◌∙◌}
use Rattle.std.proofs.lemmas.Grind.{common_steps}
use Rattle.diva_ooo.specs.WindowEntry.{WindowEntry}
use Rattle.diva_ooo.specs.declared.profile.Profile.{Profile}
use Rattle.diva_ooo.specs.Board.{is_load, is_loading}
use Rattle.diva_ooo.specs.Issue.{is_waiting}
use Rattle.diva_ooo.proofs.Knowing.{shown}
use Rattle.diva_ooo.proofs.Marking.{holds_here}
use Rattle.diva_ooo.proofs.Windowing.{can_if_free, can_not, could_not}
use Rattle.diva_ooo.proofs.window.is_ready_at.Goals as goal

pub returns-then-not-has_sources-clause-value : goal.returns-then-not-has_sources-clause-value
returns-then-not-has_sources-clause-value c =
    let w = c.args.entries.now.items in
    let there : slice_get w c.args.at ≡ Some c.unwrap-entry.result.now = search rules in
    sym (can_not w c.args.at (shown c.entry.inside) (there ∙ ap Some (sym c.entry.view_is)) _ c.entry.invariant.profile _ (c.has_sources.ensures w c.requires.board (omega arith)) c.if-not-has_sources.true)

pub returns-then-not-has_sources-clause-board : goal.returns-then-not-has_sources-clause-board
returns-then-not-has_sources-clause-board c =
    let w = c.args.entries.now.items in
    let there : slice_get w c.args.at ≡ Some c.unwrap-entry.result.now = search rules in
    c.pass.ensures.board w c.requires.board
    (could_not w c.args.at (shown c.entry.inside) (there ∙ ap Some (sym c.entry.view_is)) _ c.entry.invariant.profile _ (c.has_sources.ensures w c.requires.board (omega arith)) c.if-not-has_sources.true)

pub returns-clause-value : goal.returns-clause-value
returns-clause-value c =
    let w = c.args.entries.now.items in
    let e : WindowEntry = shown c.entry.inside in
    let there : slice_get w c.args.at ≡ Some c.unwrap-entry.result.now = search rules in
    let here : slice_get w c.args.at ≡ Some e = there ∙ ap Some (sym c.entry.view_is) in
    let waits : is_waiting e.progress ≡ true = sym (holds_here (λ x. is_waiting x.progress) w c.args.at e here) ∙ c.requires.waits in
    let place : length (take c.args.at w) ≡ c.args.at = grind (arith, common_steps) in
    c.is_free_at.ensures (take c.args.at w) place (λ load. c.requires.stored (holds_here is_load w c.args.at e here ∙ ap (λ (p : Profile). is_loading p.class) (sym c.entry.invariant.profile) ∙ load))
    ∙ can_if_free w c.args.at e here _ c.entry.invariant.profile _ (c.has_sources.ensures w c.requires.board (omega arith)) waits c.if-not-has_sources.false

-- The lines of one claim more are written, or no room could be made for them.
use Rattle.std.proofs.Common.{ap, sym, ◌∙◌, take, drop}
use Rattle.std.proofs.lemmas.Grind.{flat_map-append}
use Rattle.std.proofs.lemmas.List.{take-append-drop}
use Rattle.std.proofs.lemmas.Result.{err_from_is_err_and}
use Rattle.diva_drawing.proofs.Holding.{holds_front, surplus_more}
use Rattle.diva_drawing.specs.Log.{surplus_text}
use Rattle.diva_drawing.proofs.log.push_surplus.Goals as goal

pub returns-in_err-make_room : goal.returns-in_err-make_room
returns-in_err-make_room g c =
    let failed = err_from_is_err_and c.from_residual.result c.from_residual.ensures.1 in
    let at = c.loop-claim.claim-index in
    rw failed.1 (holds_front _ _ _ (surplus_text c.args.row (drop at c.args.claims.now)) _ _ _ _ _ _ _ _
    (ap (surplus_text c.args.row) (sym (take-append-drop at c.args.claims.now)) ∙ flat_map-append _ (take at c.args.claims.now) (drop at c.args.claims.now))
    c.loop-claim.invariant c.in_err-make_room.ensures.passes)

pub loop-claim-preserved : goal.loop-claim-preserved
loop-claim-preserved g c =
    surplus_more _ c.args.row c.args.claims.now c.loop-claim.claim-index _ _ _ _ _ _ _ _
    c.loop-claim-test.true c.loop-claim.invariant c.in_ok-make_room.ensures.passes c.push_dropped.ensures

-- What was written where each part fails, and where none does.
use Rattle.std.proofs.Common.{[], ◌+◌, ◌-◌, ◌++◌, drop}
use Rattle.std.proofs.lemmas.Result.{err_from_is_err_and}
use Rattle.diva_drawing.specs.Log.{claims_text, cycle_line, open_text, solo_text, surplus_text}
use Rattle.diva_drawing.specs.Rows.{accepted_claims, committed_rows, open_rows}
use Rattle.diva_drawing.proofs.Passing.{passes_cut, passes_then}
use Rattle.diva_drawing.proofs.log.push_open.Goals as goal

pub returns-in_err-push_cycle : goal.returns-in_err-push_cycle
unfolding open_text
returns-in_err-push_cycle g c =
    let failed = err_from_is_err_and c.from_residual.result c.from_residual.ensures.1 in
    let before = c.args.before.now in
    let after = c.args.after.now in
    let claims = claims_text c.args.row after.count after.cycles (drop (committed_rows before after) before.claims) after.claims in
    let solo = solo_text c.args.row after.count after.cycles after.newest after.solo in
    let surplus = surplus_text (c.args.row + open_rows after - 1) (drop (accepted_claims before after) c.args.handed.now) in
    rw failed.1 (passes_cut _ ((cycle_line ++ claims) ++ solo) surplus _ [] _ _ _ _
    (passes_cut _ (cycle_line ++ claims) solo _ [] _ _ _ _ (passes_cut _ cycle_line claims _ _ _ _ _ _ c.in_err-push_cycle.ensures)))

pub returns-in_err-push_claims : goal.returns-in_err-push_claims
unfolding open_text
returns-in_err-push_claims g c =
    let failed = err_from_is_err_and c.from_residual-in_err-push_claims.result c.from_residual-in_err-push_claims.ensures.1 in
    rw failed.1 (passes_cut _ _ _ _ [] _ _ _ _ (passes_cut _ _ _ _ _ _ _ _ _
    (passes_then _ _ _ _ _ _ _ _ _ _ c.in_ok-push_cycle.ensures c.in_err-push_claims.ensures)))

pub returns-in_err-push_solo : goal.returns-in_err-push_solo
unfolding open_text
returns-in_err-push_solo g c =
    let failed = err_from_is_err_and c.from_residual-in_err-push_solo.result c.from_residual-in_err-push_solo.ensures.1 in
    rw failed.1 (passes_cut _ _ _ _ _ _ _ _ _
    (passes_then _ _ _ _ _ _ _ _ _ _ (passes_then _ _ _ _ _ _ _ _ _ _ c.in_ok-push_cycle.ensures c.in_ok-push_claims.ensures) c.in_err-push_solo.ensures))

pub returns : goal.returns
unfolding open_text
returns g c =
    passes_then _ _ _ _ _ _ _ _ _ _
    (passes_then _ _ _ _ _ _ _ _ _ _ (passes_then _ _ _ _ _ _ _ _ _ _ c.in_ok-push_cycle.ensures c.in_ok-push_claims.ensures) c.in_ok-push_solo.ensures)
    c.push_others.ensures

-- What was put where each part fails, and where none does.
use Rattle.std.proofs.Common.{◌∙◌, ap, ◌++◌, List, ℕ}
use Rattle.std.proofs.lemmas.Result.{err_from_is_err_and}
use Rattle.diva_drawing.proofs.Passing.{cells_cut, end_cut, line_put}
use Rattle.diva_drawing.proofs.drawing.put_cells.Goals as goal

pub returns-in_err-push_cells : goal.returns-in_err-push_cells
returns-in_err-push_cells g c =
    let failed = err_from_is_err_and c.from_residual.result c.from_residual.ensures.1 in
    rw failed.1 (cells_cut _ c.args.name.now _ _ _ _ (c.line.ensures.bytes ∙ ap (λ (l : List ℕ). l ++ c.args.name.now) c.clear.ensures) _ _ _ c.in_err-push_cells.ensures)

pub returns-in_err-push : goal.returns-in_err-push
returns-in_err-push g c =
    let failed = err_from_is_err_and c.from_residual-in_err-push.result c.from_residual-in_err-push.ensures.1 in
    rw failed.1 (end_cut _ c.args.name.now _ _ _ _ (c.line.ensures.bytes ∙ ap (λ (l : List ℕ). l ++ c.args.name.now) c.clear.ensures) _ _ _ _ c.in_ok-push_cells.ensures _ (rw c.line_end.ensures at c.in_err-push.ensures))

pub returns : goal.returns
returns g c =
    line_put _ c.args.name.now _ _ _ _ (c.line.ensures.bytes ∙ ap (λ (l : List ℕ). l ++ c.args.name.now) c.clear.ensures) _ _ _ _ c.in_ok-push_cells.ensures _ _ (rw c.line_end.ensures at c.in_ok-push.ensures) c.put.ensures

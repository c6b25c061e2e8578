-- One cell more was written, or a part of what is written.
use Rattle.std.proofs.Common.{◌≡◌, ◌<◌, ◌∙◌, ℕ, List, [], length, get_or, arith}
use Rattle.std.proofs.lemmas.List.{get_or_default}
use Rattle.std.proofs.lemmas.Result.{err_from_is_err_and}
use Rattle.diva_outside.proofs.Sinks.{concat_more, concat_parts}
use Rattle.diva_drawing.proofs.Passing.{passes_cut, passes_then}
use Rattle.diva_drawing.proofs.drawing.push_cells.Goals as goal

-- the cell at a place is the one that was made
made : (cells : List (List ℕ)) (at : ℕ) (cell : List ℕ) → at < length cells → cell ≡ get_or cells at [] → cell ≡ get_or cells at cell
made cells at cell inside is = is ∙ get_or_default cells at [] cell inside

pub loop-at-preserved : goal.loop-at-preserved
loop-at-preserved g c =
    let cells : List (List ℕ) = g.L.LineList.lines c.args.cells.now in
    let at : ℕ = c.loop-at.at in
    let inside : at < length cells = omega (arith, c.count-at-end.ensures) in
    rw (concat_more cells at c.line.result inside (made cells at c.line.result inside c.line.ensures))
    (passes_then _ _ _ _ _ _ _ _ _ _ c.loop-at.invariant c.in_ok-push.ensures)

pub returns-in_err-push : goal.returns-in_err-push
returns-in_err-push g c =
    let cells : List (List ℕ) = g.L.LineList.lines c.args.cells.now in
    let at : ℕ = c.loop-at.at in
    let inside : at < length cells = omega (arith, c.count-at-end.ensures) in
    let failed = err_from_is_err_and c.from_residual.result c.from_residual.ensures.1 in
    rw (failed.1, concat_parts cells at c.line.result inside (made cells at c.line.result inside c.line.ensures))
    (passes_cut _ _ _ _ _ _ _ _ _ (passes_then _ _ _ _ _ _ _ _ _ _ c.loop-at.invariant c.in_err-push.ensures))

-- One line more was put, or a prefix of it.
use Rattle.std.proofs.Common.{◌≡◌, ◌<◌, ◌∙◌, ℕ, List, [], length, get_or, arith}
use Rattle.std.proofs.lemmas.List.{get_or_default}
use Rattle.std.proofs.lemmas.Result.{err_from_is_err_and}
use Rattle.diva_outside.proofs.Sinks.{puts_then, puts_cut, concat_more, concat_parts}
use Rattle.diva_outside.proofs.line_list.put_lines.Goals as goal

-- the line at a place is the one that was made
made : (lines : List (List ℕ)) (at : ℕ) (line : List ℕ) → at < length lines → line ≡ get_or lines at [] → line ≡ get_or lines at line
made lines at line inside is = is ∙ get_or_default lines at [] line inside

pub loop-at-preserved : goal.loop-at-preserved
loop-at-preserved g c =
    let lines : List (List ℕ) = g.L.LineList.lines c.args.list.now in
    let at : ℕ = c.loop-at.at in
    let inside : at < length lines = omega (arith, c.count-at-end.ensures) in
    rw (concat_more lines at c.line.result inside (made lines at c.line.result inside c.line.ensures))
    (puts_then _ _ _ _ _ _ _ c.loop-at.invariant c.in_ok-put_line.ensures)

pub returns-in_err-put_line : goal.returns-in_err-put_line
returns-in_err-put_line g c =
    let lines : List (List ℕ) = g.L.LineList.lines c.args.list.now in
    let at : ℕ = c.loop-at.at in
    let inside : at < length lines = omega (arith, c.count-at-end.ensures) in
    let failed = err_from_is_err_and c.from_residual.result c.from_residual.ensures.1 in
    rw (failed.1, concat_parts lines at c.line.result inside (made lines at c.line.result inside c.line.ensures))
    (puts_cut _ _ _ _ _ _ (puts_then _ _ _ _ _ _ _ c.loop-at.invariant c.in_err-put_line.ensures))

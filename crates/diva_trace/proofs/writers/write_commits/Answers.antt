-- One line more was put, or a prefix of it.
use Rattle.std.proofs.Common.{◌≡◌, ◌≤◌, ◌<◌, ◌+◌, ◌∙◌, ℕ, List, [], length, get_or, take_all, sym, subst, arith, Ok}
use Rattle.std.proofs.lemmas.List.{get_or_default}
use Rattle.std.proofs.lemmas.Result.{err_from_is_err_and}
use Rattle.std.specs.List.{concat}
use Rattle.diva_isa.specs.declared.record.Record.{Record}
use Rattle.diva_outside.specs.Lent.{lent}
use Rattle.diva_outside.specs.Sink.{PutsTo}
use Rattle.diva_outside.specs.declared.sink.SinkFailed.{SinkFailed}
use Rattle.diva_outside.proofs.Sinks.{puts_then, puts_cut, concat_more, concat_parts}
use Rattle.diva_trace.specs.Lines.{commit_line}
use Rattle.diva_trace.specs.Text.{commit_lines, commits_text}
use Rattle.diva_trace.proofs.Numbered.{length_commit_lines, line_commit_lines}
use Rattle.diva_trace.proofs.writers.write_commits.Goals as goal

-- the line at a place is the one that was made
made : (first : ℕ) (records : List Record) (at : ℕ) (line : List ℕ) (d : Record) → at < length records → line ≡ commit_line (first + at) (get_or records at d)
    → line ≡ get_or (commit_lines first records) at line
made first records at line d inside is =
    is ∙ sym (line_commit_lines first records at d inside) ∙ get_or_default (commit_lines first records) at [] line (rw (length_commit_lines first records) inside)

inside_lines : (first : ℕ) (records : List Record) (at : ℕ) → at < length records → at < length (commit_lines first records)
inside_lines first records at inside = rw (length_commit_lines first records) inside

pub loop-place-preserved : goal.loop-place-preserved
loop-place-preserved g c =
    let lines : List (List ℕ) = commit_lines c.args.first c.args.records.now in
    let at : ℕ = c.loop-place.place in
    let inside : at < length c.args.records.now = omega arith in
    rw (concat_more lines at c.fill_commit.new.line (inside_lines _ _ at inside) (made c.args.first c.args.records.now at c.fill_commit.new.line _ inside c.fill_commit.ensures))
    (puts_then _ _ _ _ _ _ _ c.loop-place.invariant c.in_ok-put_line.ensures)

pub returns-in_err-put_line : goal.returns-in_err-put_line
unfolding commits_text
returns-in_err-put_line g c =
    let lines : List (List ℕ) = commit_lines c.args.first c.args.records.now in
    let at : ℕ = c.loop-place.place in
    let inside : at < length c.args.records.now = omega arith in
    let failed = err_from_is_err_and c.from_residual.result c.from_residual.ensures.1 in
    rw (failed.1, concat_parts lines at c.fill_commit.new.line (inside_lines _ _ at inside) (made c.args.first c.args.records.now at c.fill_commit.new.line _ inside c.fill_commit.ensures))
    (puts_cut _ _ _ _ _ _ (puts_then _ _ _ _ _ _ _ c.loop-place.invariant c.in_err-put_line.ensures))

pub returns : goal.returns
unfolding commits_text
returns g c =
    let lines : List (List ℕ) = commit_lines c.args.first c.args.records.now in
    let all : length lines ≤ c.loop-place.place = (
    let e = length_commit_lines c.args.first c.args.records.now in let f = c.loop-place.auto.place-end in let h = c.loop-place-test.false in omega arith
    ) in
    subst (λ (put : List (List ℕ)). PutsTo {E = SinkFailed} (lent g.S.Sink.account c.args.sink.now c.loop-place.sink) (concat put) (Ok tt)) (take_all c.loop-place.place lines all) c.loop-place.invariant

-- What was put where a part of the text fails, and where none does.
use Rattle.std.proofs.Common.{◌≡◌, ◌∙◌, ℕ, List, [], ◌∷◌, ◌++◌, Result, Ok, ap, subst, append-nil, append_assoc}
use Rattle.std.specs.List.{concat}
use Rattle.std.proofs.lemmas.Result.{err_from_is_err_and}
use Rattle.diva_isa.specs.State.{State}
use Rattle.diva_outside.specs.Lent.{lent}
use Rattle.diva_outside.specs.Sink.{PutsTo, SinkAccount}
use Rattle.diva_outside.proofs.Sinks.{puts_then, puts_cut}
use Rattle.diva_trace.specs.Lines.{count_line, end_line_of}
use Rattle.diva_trace.specs.Text.{registers_text}
use Rattle.diva_cli.proofs.campaign.write_runs.Goals as goal

-- two lines behind a text
behind : {S E : Type 0} (account : S → SinkAccount) (tally end count end' count' : List ℕ) (old mid new : S) (result : Result (Unit {0}) E)
    → end' ≡ end → count' ≡ count → PutsTo {E = E} (lent account old mid) tally (Ok tt) → PutsTo (lent account mid new) (concat (end' ∷ count' ∷ [])) result
    → PutsTo (lent account old new) (tally ++ end ++ count) result
behind account tally end count end' count' old mid new result p q first second =
    let joined : tally ++ concat (end' ∷ count' ∷ []) ≡ tally ++ end ++ count = rw (p, q) (simp (append-nil, append_assoc)) in
    subst (λ (text : List ℕ). PutsTo (lent account old new) text result) joined
    (puts_then account tally (concat (end' ∷ count' ∷ [])) old mid new result first second)

pub returns-in_err-write_tally : goal.returns-in_err-write_tally
returns-in_err-write_tally g c =
    let failed = err_from_is_err_and c.from_residual.result c.from_residual.ensures.1 in
    rw failed.1 (puts_cut _ _ _ _ _ _ (puts_cut _ _ _ _ _ _ (puts_cut _ _ _ _ _ _ (puts_cut _ _ _ _ _ _ c.in_err-write_tally.ensures))))

pub returns-in_err-put_lines : goal.returns-in_err-put_lines
returns-in_err-put_lines g c =
    let failed = err_from_is_err_and c.from_residual-in_err-put_lines.result c.from_residual-in_err-put_lines.ensures.1 in
    rw failed.1 (puts_cut _ _ _ _ _ _ (puts_cut _ _ _ _ _ _
    (behind _ _ _ _ _ _ _ _ _ _ (c.end_line_of.ensures ∙ ap end_line_of c.ended.ensures.value) (c.count_line.ensures ∙ ap count_line c.count.ensures)
    c.in_ok-write_tally.ensures c.in_err-put_lines.ensures)))

pub returns-in_err-write_output : goal.returns-in_err-write_output
returns-in_err-write_output g c =
    let head = behind _ _ _ _ _ _ _ _ _ _ (c.end_line_of.ensures ∙ ap end_line_of c.ended.ensures.value) (c.count_line.ensures ∙ ap count_line c.count.ensures)
    c.in_ok-write_tally.ensures c.in_ok-put_lines.ensures in
    let failed = err_from_is_err_and c.from_residual-in_err-write_output.result c.from_residual-in_err-write_output.ensures.1 in
    rw failed.1 (puts_cut _ _ _ _ _ _ (puts_then _ _ _ _ _ _ _ head (rw c.output.ensures.bytes at c.in_err-write_output.ensures)))

pub returns : goal.returns
returns g c =
    let head = behind _ _ _ _ _ _ _ _ _ _ (c.end_line_of.ensures ∙ ap end_line_of c.ended.ensures.value) (c.count_line.ensures ∙ ap count_line c.count.ensures)
    c.in_ok-write_tally.ensures c.in_ok-put_lines.ensures in
    puts_then _ _ _ _ _ _ _
    (puts_then _ _ _ _ _ _ _ head (rw c.output.ensures.bytes at c.in_ok-write_output.ensures))
    (subst (λ (s : State). PutsTo (lent g.S.Sink.account c.write_output.new.sink c.write_registers.new.sink) (registers_text s.regs s.pc) c.write_registers.result) c.view.ensures.shows c.write_registers.ensures)

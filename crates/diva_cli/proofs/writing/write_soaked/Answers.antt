-- What was put where a part of the text fails, and where none does.
use Rattle.std.proofs.Common.{◌≡◌, ◌∙◌, ℕ, List, [], ◌∷◌, ◌++◌, Result, ap, subst, append-nil, append_assoc}
use Rattle.std.specs.List.{concat}
use Rattle.std.proofs.lemmas.Result.{err_from_is_err_and}
use Rattle.diva_isa.specs.State.{State}
use Rattle.diva_outside.specs.Lent.{lent}
use Rattle.diva_outside.specs.Sink.{PutsTo, LentSink}
use Rattle.diva_outside.proofs.Sinks.{puts_then, puts_cut}
use Rattle.diva_trace.specs.Lines.{end_line_of}
use Rattle.diva_trace.specs.Text.{registers_text}
use Rattle.diva_cli.proofs.writing.write_soaked.Goals as goal

-- three lines are put as one text
three : {S E : Type 0} (sink : LentSink S) (a b d a' b' d' : List ℕ) (result : Result (Unit {0}) E)
    → a' ≡ a → b' ≡ b → d' ≡ d → PutsTo sink (concat (a' ∷ b' ∷ d' ∷ [])) result
    → PutsTo sink (a ++ b ++ d) result
three sink a b d a' b' d' result p q r puts =
    let joined : concat (a' ∷ b' ∷ d' ∷ []) ≡ a ++ b ++ d = rw (p, q, r) (simp (append-nil, append_assoc)) in
    subst (λ (text : List ℕ). PutsTo sink text result) joined puts

pub returns-in_err-put_lines : goal.returns-in_err-put_lines
returns-in_err-put_lines g c =
    let failed = err_from_is_err_and c.from_residual.result c.from_residual.ensures.1 in
    rw failed.1 (puts_cut _ _ _ _ _ _ (puts_cut _ _ _ _ _ _
    (three _ _ _ _ _ _ _ _ c.counts_line.ensures c.counts_line-2.ensures (c.end_line_of.ensures ∙ ap end_line_of c.ended.ensures.value) c.in_err-put_lines.ensures)))

pub returns-in_err-write_output : goal.returns-in_err-write_output
returns-in_err-write_output g c =
    let head = three _ _ _ _ _ _ _ _ c.counts_line.ensures c.counts_line-2.ensures (c.end_line_of.ensures ∙ ap end_line_of c.ended.ensures.value) c.in_ok-put_lines.ensures in
    let failed = err_from_is_err_and c.from_residual-in_err-write_output.result c.from_residual-in_err-write_output.ensures.1 in
    rw failed.1 (puts_cut _ _ _ _ _ _ (puts_then _ _ _ _ _ _ _ head (rw c.output.ensures.bytes at c.in_err-write_output.ensures)))

pub returns : goal.returns
returns g c =
    let head = three _ _ _ _ _ _ _ _ c.counts_line.ensures c.counts_line-2.ensures (c.end_line_of.ensures ∙ ap end_line_of c.ended.ensures.value) c.in_ok-put_lines.ensures in
    puts_then _ _ _ _ _ _ _
    (puts_then _ _ _ _ _ _ _ head (rw c.output.ensures.bytes at c.in_ok-write_output.ensures))
    (subst (λ (s : State). PutsTo (lent g.S.Sink.account c.write_output.new.sink c.write_registers.new.sink) (registers_text s.regs s.pc) c.write_registers.result) c.view.ensures.shows c.write_registers.ensures)

use Rattle.std.proofs.Common.{◌≡◌, ◌∙◌, ◌∷◌, length, sym, ap, arith, rules}
use Rattle.diva_outside.specs.Lines.{lines_of}
use Rattle.diva_outside.proofs.Splitting.{lines_next}
use Rattle.diva_outside.proofs.text_lines.TextLinesIterator.next.Goals as goal

pub returns-clause-steps : goal.returns-clause-steps
returns-clause-steps c =
    sym c.self.view_is ∙ lines_next c.self.inside.rest.now _ _ (search rules) c.cut_line.ensures.line c.cut_line.ensures.rest

pub returns-clause-goes : goal.returns-clause-goes
returns-clause-goes c =
    let one : c.args.self.now ≡ c.cut_line.result.0.now ∷ lines_of c.cut_line.result.1.now =
    sym c.self.view_is ∙ lines_next c.self.inside.rest.now _ _ (search rules) c.cut_line.ensures.line c.cut_line.ensures.rest in
    record { on = λ _. (tt, tt, omega (arith, ap length one)); keeps = tt; rests = λ _. tt }

use Rattle.std.proofs.Common.{◌≡◌, ◌∙◌, ◌∷◌, length, sym, ap, arith, rules}
use Rattle.diva_outside.specs.Words.{words_in}
use Rattle.diva_outside.proofs.Splitting.{words_end, words_next}
use Rattle.diva_outside.proofs.line_words.LineWordsIterator.next.Goals as goal

pub returns-then-is_empty-clause-steps : goal.returns-then-is_empty-clause-steps
returns-then-is_empty-clause-steps c =
    let ended = words_end c.self.inside.rest.now _ _ c.cut_word.result.1.now c.without_blanks.ensures c.cut_word.ensures.word c.cut_word.ensures.rest (search rules) in
    (sym c.self.view_is ∙ ended.0, ended.1)

pub returns-clause-steps : goal.returns-clause-steps
returns-clause-steps c =
    sym c.self.view_is ∙ words_next c.self.inside.rest.now _ _ _ c.without_blanks.ensures c.cut_word.ensures.word c.cut_word.ensures.rest (search rules)

pub returns-clause-goes : goal.returns-clause-goes
returns-clause-goes c =
    let one : c.args.self.now ≡ c.cut_word.result.0.now ∷ words_in c.cut_word.result.1.now =
    sym c.self.view_is ∙ words_next c.self.inside.rest.now _ _ _ c.without_blanks.ensures c.cut_word.ensures.word c.cut_word.ensures.rest (search rules) in
    record { on = λ _. (tt, tt, omega (arith, ap length one)); keeps = tt; rests = λ _. tt }

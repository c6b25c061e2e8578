-- The last word is one of those that are in use.
use Rattle.std.proofs.Common.{◌∙◌, ◌-◌, ap, arith, List, slice_set, take}
use Rattle.diva_outside.specs.Text.{Text}
use Rattle.diva_source.specs.KeptWords.{lengthened}
use Rattle.diva_source.proofs.Runs.{used_lengthened}
use Rattle.diva_source.proofs.few_words.FewWords.lengthen.Goals as goal

pub returns-then-self-gt0 : goal.returns-then-self-gt0
returns-then-self-gt0 c =
    let words : List Text = c.self.inside.words in
    ap (λ (word : Text). take c.self.inside.count (slice_set words (c.self.inside.count - 1) word)) c.extend.ensures
    ∙ used_lengthened words c.self.inside.count c.index-self-self.result c.args.letters.now (omega arith) (omega (arith, c.self.invariant.0, c.self.invariant.1))
    ∙ ap (λ (ws : List Text). lengthened ws c.args.letters.now) c.self.view_is

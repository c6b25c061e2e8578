-- Numbered columns of an excerpt.
use Rattle.std.proofs.Common.{◌≡◌, ◌<◌, ◌∙◌, ℕ, ◌+◌, ◌-◌, List, [], length, min, take, get_or, ap, arith}
use Rattle.std.proofs.lemmas.List.{get_or-drop, get_or-take, length-drop, length-take}
use Rattle.diva_trace.specs.Text.{numbered}
use Rattle.diva_trace.proofs.Numbered.{length_numbered, line_numbered}
use Rattle.diva_drawing.specs.Drawing.{in_excerpt}
use Rattle.diva_drawing.specs.declared.excerpt.Excerpt.{Excerpt}

pub length_numbered_in : (excerpt : Excerpt) (n : ℕ) (column : ℕ → List ℕ) → length (in_excerpt excerpt (numbered n column)) ≡ min excerpt.to n - (excerpt.from - 1)
length_numbered_in excerpt n column =
    length-drop (excerpt.from - 1) (take excerpt.to (numbered n column))
    ∙ ap (λ k. k - (excerpt.from - 1)) (length-take excerpt.to (numbered n column) ∙ ap (min excerpt.to) (length_numbered n column))

pub line_numbered_in : (excerpt : Excerpt) (n : ℕ) (column : ℕ → List ℕ) (at : ℕ) → at < min excerpt.to n - (excerpt.from - 1)
    → get_or (in_excerpt excerpt (numbered n column)) at [] ≡ column (excerpt.from - 1 + at)
line_numbered_in excerpt n column at inside =
    get_or-drop (excerpt.from - 1) (take excerpt.to (numbered n column)) at []
    ∙ get_or-take excerpt.to (numbered n column) (excerpt.from - 1 + at) [] (omega arith)
    ∙ line_numbered n column (excerpt.from - 1 + at) (omega arith)

-- Cells that are written one after the other.
use Rattle.std.proofs.Common.{◌≡◌, [], ◌∷◌, ◌++◌, ap, ◌∙◌}
use Rattle.std.specs.Prelude.{codes}
use Rattle.std.proofs.lemmas.List.{append_assoc}
use Rattle.diva_outside.specs.Text.{Text}
use Rattle.diva_inject.specs.Lines.{joined}

pub in_order : (a b c d end : Text)
    → a ++ codes "," ++ b ++ codes "," ++ c ++ codes "," ++ d ++ end ≡ joined (a ∷ b ∷ c ∷ d ∷ []) ++ end
in_order a b c d end =
    let comma : Text = codes "," in
    let first : Text = a ++ comma in
    let second : Text = b ++ comma in
    let third : Text = c ++ comma in
    ap (λ (t : Text). t ++ end)
    (ap (λ (t : Text). t ++ c ++ comma ++ d) (append_assoc first b comma)
    ∙ ap (λ (t : Text). t ++ d) (append_assoc (first ++ second) c comma)
    ∙ append_assoc (first ++ second) third d
    ∙ append_assoc first second (third ++ d))

-- What one line more makes of a judgement and its text.
use Rattle.std.proofs.Common.{◌≡◌, ◌∙◌, ◌++◌, ℕ, List, [], ◌∷◌, Option, ap, sym, refl, append-nil, append_assoc}
use Rattle.diva_claims.specs.declared.said.Said.{Said}
use Rattle.diva_outside.specs.Text.{Text}
use Rattle.diva_judge.specs.Judgement.{Judged, with_lines, with_said}
use Rattle.diva_judge.specs.Texts.{lines_text, said_text}
use Rattle.diva_judge.specs.declared.terms.Terms.{Terms}

pub with_more : (stop : Option ℕ) (lines : List Said) (said : Said) (j : Judged) → with_lines stop (lines ++ said ∷ []) j ≡ with_said stop said (with_lines stop lines j)
with_more stop [] said j = refl
with_more stop (first ∷ lines) said j = with_more stop lines said (with_said stop first j)

pub text_more : (terms : Terms) (lines : List Said) (said : Said) (j : Judged)
    → lines_text terms (lines ++ said ∷ []) j ≡ lines_text terms lines j ++ said_text terms said (with_lines terms.stop lines j)
text_more terms [] said j = append-nil (said_text terms said j)
text_more terms (first ∷ lines) said j =
    ap (λ (text : Text). said_text terms first j ++ text) (text_more terms lines said (with_said terms.stop first j))
    ∙ sym (append_assoc (said_text terms first j) (lines_text terms lines (with_said terms.stop first j)) _)

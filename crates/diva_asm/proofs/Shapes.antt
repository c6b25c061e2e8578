-- Operands and texts that run out.
use Rattle.std.proofs.Common.{◌≡◌, ◌<◌, ℕ, List, [], ◌∷◌, length, false, refl, arith}
use Rattle.std.specs.Prelude.{Some}
use Rattle.std.proofs.lemmas.List.{length-map}
use Rattle.std.proofs.lemmas.List.Splits.{length-slice_split}
use Rattle.diva_asm.specs.Texts.{operand_texts}
use Rattle.diva_asm.specs.Statements.{have_shapes}
use Rattle.diva_asm.specs.declared.operand.Operand.{Operand}

pub no_texts : (operands : List Operand) → 0 < length operands → have_shapes operands [] ≡ false
unfolding have_shapes
no_texts [] h = absurd (omega arith)
no_texts (operand ∷ operands) h = refl

more_texts : (texts : List (List ℕ)) → 0 < length texts → have_shapes [] texts ≡ false
unfolding have_shapes
more_texts [] h = absurd (omega arith)
more_texts (text ∷ texts) h = refl

pub texts_left : (text : List ℕ) → have_shapes [] (operand_texts (Some text)) ≡ false
texts_left text = more_texts (operand_texts (Some text)) (rw length-map (omega (arith, length-slice_split {X = ℕ})))

-- Where a line is cut into its parts.
use Rattle.std.proofs.Common.{◌≡◌, ◌<◌, ◌+◌, ◌-◌, ℕ, [], ◌∷◌, take, drop, length, not, ap, sym, ◌∙◌, arith}
use Rattle.std.specs.Prelude.{Some, None}
use Rattle.std.specs.List.{position, position_or_len, slice_split}
use Rattle.std.proofs.lemmas.Grind.{common_steps}
use Rattle.std.proofs.lemmas.List.{take_rest}
use Rattle.std.proofs.lemmas.List.Splits.{slice_split_first, slice_split_none}
use Rattle.std.proofs.lemmas.List.Sums.{fails_before_first, prefix_len-le-length}
use Rattle.diva_outside.specs.Text.{Text}
use Rattle.diva_tape.specs.Tapes.{separates}

module _ (text : Text) where
  at_place : (at : ℕ) → position separates text ≡ Some at → position_or_len separates text ≡ at
  at_place at found = grind (arith, common_steps)

  at_end : position separates text ≡ None → position_or_len separates text ≡ length text
  at_end none = let most = prefix_len-le-length (λ b. not (separates b)) text in grind (arith, common_steps)

  inside : (at : ℕ) → position separates text ≡ Some at → position_or_len separates text < length text
  inside at found = grind (arith, common_steps)

  -- the first part, and the text behind its `;`
  pub part_cut : (at : ℕ) → position separates text ≡ Some at
      → slice_split separates text ≡ take at text ∷ slice_split separates (take (length text - (at + 1)) (drop (at + 1) text))
  part_cut at found =
      let place = at_place at found in
      slice_split_first separates text 0 (inside at found)
      ∙ ap (λ n. take n text ∷ slice_split separates (drop (n + 1) text)) place
      ∙ ap (λ rest. take at text ∷ slice_split separates rest) (sym (take_rest text (at + 1)))

  -- a text without `;` is one part
  pub part_whole : position separates text ≡ None → slice_split separates text ≡ text ∷ []
  part_whole none = slice_split_none separates text (λ k d h. let e = at_end none in fails_before_first separates text k d (omega arith))

-- The text of a claim, as it is written number by number.
use Rattle.std.proofs.Common.{◌≡◌, ◌<◌, ◌+◌, ℕ, List, [], ◌∷◌, ◌++◌, length, take, get_or, ap, sym, ◌∙◌, append_assoc}
use Rattle.std.specs.List.{flat_map}
use Rattle.std.proofs.lemmas.List.{flat_map_more, take_more}
use Rattle.diva_outside.specs.Text.{Text, hex_word}

abbrev spaced : ℕ → Text
spaced number = 32 ∷ hex_word number

pub number-more : (before line : Text) (numbers : List ℕ) (i : ℕ) → i < length numbers → line ≡ before ++ flat_map spaced (take i numbers)
    → (line ++ 32 ∷ []) ++ hex_word (get_or numbers i 0) ≡ before ++ flat_map spaced (take (i + 1) numbers)
number-more before line numbers i low so_far =
    append_assoc line (32 ∷ []) (hex_word (get_or numbers i 0))
    ∙ ap (λ l. l ++ spaced (get_or numbers i 0)) so_far
    ∙ flat_map_more spaced before (take i numbers) (get_or numbers i 0)
    ∙ ap (λ xs. before ++ flat_map spaced xs) (sym (take_more numbers i 0 low))

-- Words that are not `K/M`.
use Rattle.std.proofs.Common.{◌≡◌, ◌∙◌, ◌≤◌, ◌+◌, ℕ, List, [], length, refl, ap, Option, Some, None, arith}
use Rattle.std.specs.Prelude.{option_and_then}
use Rattle.std.specs.List.{after_first, before_first, position_or_len}
use Rattle.std.proofs.lemmas.List.{drop_all}
use Rattle.diva_outside.specs.Numbers.{decimal_of}
use Rattle.diva_args.specs.Values.{number_in_range}
use Rattle.diva_inject.specs.Parts.{Part}
use Rattle.diva_lab_args.specs.Inject.{is_slash, part_at, part_of}

-- what an index and the text of a number of parts give
abbrev with_count : List ℕ → ℕ → Option Part
with_count text index = option_and_then (part_at index) (number_in_range 0 4294967295 text)

-- the empty text is no number of parts
no_count : (index : Option ℕ) → option_and_then (with_count []) index ≡ None
unfolding decimal_of
no_count None = refl
no_count (Some index) = refl

-- a word with no slash is not `K/M`
pub no_slash : (word : List ℕ) → position_or_len is_slash word ≡ length word → part_of word ≡ None
unfolding part_of
no_slash word none =
    let past : length word ≤ position_or_len is_slash word + 1 = omega (arith, none) in
    let rest : after_first is_slash word ≡ [] = drop_all (position_or_len is_slash word + 1) word past in
    let index = number_in_range 0 4294967295 (before_first is_slash word) in
    ap (λ (t : List ℕ). option_and_then (with_count t) index) rest ∙ no_count index

-- Words that are not `ADDR:LEN`.
use Rattle.std.proofs.Common.{◌≡◌, ◌∙◌, ◌≤◌, ◌+◌, ℕ, List, [], length, refl, ap, Option, Some, None, arith}
use Rattle.std.specs.Prelude.{option_and_then}
use Rattle.std.specs.List.{after_first, before_first, position_or_len}
use Rattle.std.proofs.lemmas.List.{drop_all}
use Rattle.diva_outside.specs.Numbers.{decimal_of, hex_of}
use Rattle.diva_args.specs.Options.{DumpRange, most_dumped}
use Rattle.diva_args.specs.Values.{dump_at, dump_range_of, is_colon, number_in_range}

-- what an address and the text of a length give
abbrev with_length : List ℕ → ℕ → Option DumpRange
with_length text addr = option_and_then (dump_at addr) (number_in_range 1 most_dumped text)

-- the empty text is not a length
no_length : (addr : Option ℕ) → option_and_then (with_length []) addr ≡ None
unfolding decimal_of
no_length None = refl
no_length (Some addr) = refl

-- a word with no colon is not `ADDR:LEN`
pub no_colon : (word : List ℕ) → position_or_len is_colon word ≡ length word → dump_range_of word ≡ None
unfolding dump_range_of
no_colon word none =
    let past : length word ≤ position_or_len is_colon word + 1 = omega (arith, none) in
    let rest : after_first is_colon word ≡ [] = drop_all (position_or_len is_colon word + 1) word past in
    let addr = hex_of (before_first is_colon word) in
    ap (λ (t : List ℕ). option_and_then (with_length t) addr) rest ∙ no_length addr

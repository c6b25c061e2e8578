-- The numbers of a part, as they are read word by word.
use Rattle.std.proofs.Common.{◌≡◌, ◌≤◌, ◌<◌, ◌+◌, ℕ, Bool, true, false, nat_lt, List, [], ◌∷◌, ◌++◌, length, take, set, get_or, refl, ap, sym, ◌∙◌, arith, append_assoc, append-nil, length-take}
use Rattle.std.specs.Prelude.{Option, Some, None, option_map, Ok}
use Rattle.std.proofs.lemmas.Bool.Decides.{nat_tests}
use Rattle.std.proofs.lemmas.List.{take_all, take-append-le, take_more_set, length_push, length-take-le}
use Rattle.diva_outside.specs.Numbers.{hex_of}
use Rattle.diva_outside.specs.Text.{Text}
use Rattle.diva_outside.specs.Words.{words_of}
use Rattle.diva_tape.specs.LineParts.{claim_in}
use Rattle.diva_tape.specs.Tapes.{all_by, record_from}

-- some words were read, of which the first eight numbers are kept
pub record IsRead (total left : List Text) (numbers : List ℕ) (count : ℕ) (is_over : Bool) : Type 0 where
  pub read : List ℕ
  pub same : all_by hex_of total ≡ option_map (λ more. read ++ more) (all_by hex_of left)
  pub most : count ≤ 8
  pub kept : take count numbers ≡ take 8 read
  pub over : is_over ≡ nat_lt 8 (length read)

one_more : (read : List ℕ) (n : ℕ) (xs : Option (List ℕ)) → option_map (λ more. read ++ more) (option_map (λ ys. n ∷ ys) xs) ≡ option_map (λ more. (read ++ n ∷ []) ++ more) xs
one_more read n None = refl
one_more read n (Some xs) = ap Some (sym (append_assoc read (n ∷ []) xs))

module _ (total : List Text) (word : Text) (left : List Text) (numbers : List ℕ) (count : ℕ) (is_over : Bool) (n : ℕ) (is : hex_of word ≡ Some n) (all : length numbers ≡ 8) (before : IsRead total (word ∷ left) numbers count is_over) where
  same-more : all_by hex_of total ≡ option_map (λ more. (before.read ++ n ∷ []) ++ more) (all_by hex_of left)
  same-more = (rw is at before.same) ∙ one_more before.read n (all_by hex_of left)

  many : length (take count numbers) ≡ length (take 8 before.read)
  many = ap length before.kept

  -- one of the first eight
  pub read-kept : count < 8 → IsRead total left (set numbers count n) (count + 1) is_over
  read-kept low =
      let a : length (take count numbers) ≡ count = length-take-le count numbers (omega arith) in
      let b = length-take 8 before.read in
      let m = many in
      let few : length before.read ≡ count = omega arith in
      record {
        read = before.read ++ n ∷ [];
        same = same-more;
        most = omega arith;
        kept =
            take_more_set numbers count n (omega arith)
            ∙ ap (λ xs. xs ++ n ∷ []) (before.kept ∙ take_all 8 before.read (omega arith))
            ∙ sym (take_all 8 (before.read ++ n ∷ []) (let l = length_push before.read n in omega arith));
        over = before.over ∙ (let l = length_push before.read n in grind (arith, nat_tests));
      }

  -- one behind them
  pub read-over : 8 ≤ count → IsRead total left numbers count true
  read-over high =
      let c : count ≡ 8 = (let m = before.most in omega arith) in
      let a : length (take count numbers) ≡ count = length-take-le count numbers (omega arith) in
      let b = length-take 8 before.read in
      let m = many in
      let enough : 8 ≤ length before.read = omega arith in
      record {
        read = before.read ++ n ∷ [];
        same = same-more;
        most = before.most;
        kept = before.kept ∙ sym (take-append-le 8 before.read (n ∷ []) enough);
        over = (let l = length_push before.read n in grind (arith, nat_tests));
      }

-- ---- eight numbers

module _ (total : List Text) (numbers : List ℕ) (count : ℕ) (is_over : Bool) (all : length numbers ≡ 8) (last : IsRead total [] numbers count is_over) where
  ended : all_by hex_of total ≡ Some last.read
  ended = last.same ∙ ap Some (append-nil last.read)

  read-all : 8 ≤ count → is_over ≡ false → all_by hex_of total ≡ Some numbers
  read-all high none =
      let t : nat_lt 8 (length last.read) ≡ false = sym last.over ∙ none in
      let c : count ≡ 8 = (let m = last.most in omega arith) in
      let few : length last.read ≤ 8 = grind (arith, nat_tests) in
      ended ∙ ap Some (sym (take_all 8 last.read few) ∙ sym last.kept ∙ take_all count numbers (omega arith))

record_from-all : (xs : List ℕ) → length xs ≡ 8
    → record_from xs ≡ Some (record { pc = get_or xs 0 0; word = get_or xs 1 0; src1 = get_or xs 2 0; src2 = get_or xs 3 0; addr = get_or xs 4 0; value = get_or xs 5 0; next = get_or xs 6 0; end = get_or xs 7 0 })
record_from-all (a ∷ b ∷ c ∷ d ∷ e ∷ f ∷ g ∷ h ∷ []) eight = refl
record_from-all (a ∷ b ∷ c ∷ d ∷ e ∷ f ∷ g ∷ h ∷ i ∷ xs) eight = absurd (omega arith)
record_from-all [] eight = absurd (omega arith)
record_from-all (a ∷ []) eight = absurd (omega arith)
record_from-all (a ∷ b ∷ []) eight = absurd (omega arith)
record_from-all (a ∷ b ∷ c ∷ []) eight = absurd (omega arith)
record_from-all (a ∷ b ∷ c ∷ d ∷ []) eight = absurd (omega arith)
record_from-all (a ∷ b ∷ c ∷ d ∷ e ∷ []) eight = absurd (omega arith)
record_from-all (a ∷ b ∷ c ∷ d ∷ e ∷ f ∷ []) eight = absurd (omega arith)
record_from-all (a ∷ b ∷ c ∷ d ∷ e ∷ f ∷ g ∷ []) eight = absurd (omega arith)

-- the claim of a part that has eight numbers
pub claim-all : (part : Text) (numbers : List ℕ) (count : ℕ) (is_over : Bool) → length numbers ≡ 8 → IsRead (words_of part) [] numbers count is_over → 8 ≤ count → is_over ≡ false
    → Ok (Some (record { pc = get_or numbers 0 0; word = get_or numbers 1 0; src1 = get_or numbers 2 0; src2 = get_or numbers 3 0; addr = get_or numbers 4 0; value = get_or numbers 5 0; next = get_or numbers 6 0; end = get_or numbers 7 0 })) ≡ claim_in part
unfolding claim_in
claim-all part numbers count is_over all last high none =
    rw (read-all (words_of part) numbers count is_over all last high none) (ap Ok (sym (record_from-all numbers all)))

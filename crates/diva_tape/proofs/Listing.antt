-- The list of a line, as it is read part by part.
use Rattle.std.proofs.Common.{◌≡◌, ◌≤◌, ℕ, Bool, true, false, ◌||◌, nat_lt, nat_le, List, [], ◌∷◌, ◌++◌, length, refl, ap, sym, arith, append_assoc, length-append}
use Rattle.std.specs.Prelude.{Option, Some, None, option_map, Result, Ok, Err, if◌then◌else◌}
use Rattle.std.specs.Option.{ok_or}
use Rattle.std.proofs.lemmas.Bool.Decides.{nat_tests}
use Rattle.diva_isa.specs.declared.record.Record.{Record}
use Rattle.diva_outside.specs.Numbers.{hex_of}
use Rattle.diva_outside.specs.Steps.{and_then}
use Rattle.diva_outside.specs.Text.{Text}
use Rattle.diva_outside.specs.Words.{words_of}
use Rattle.diva_tape.specs.declared.fault.Kind.{Kind}
use Rattle.diva_tape.specs.declared.fault.Kind.TheVariants.{Word, NumberCount, ClaimCount}
use Rattle.diva_tape.specs.LineParts.{claim_in}
use Rattle.diva_tape.specs.Tapes.{all_by, record_from}

abbrev pub numbers_in : Text → Option (List ℕ)
numbers_in part = all_by hex_of (words_of part)

-- what the claims that are left come to, behind a list; there were more than eight claims before, or not
abbrev with_records : List Record → (is_overfull : Bool) → Option (List Record) → Result (List Record) Kind
with_records list is_overfull claims =
    and_then (ok_or claims NumberCount) (λ claims.
    if is_overfull || nat_lt 8 (length (list ++ claims)) then Err ClaimCount else Ok (list ++ claims))

-- the same by their numbers; some claim before had other than eight numbers, or not
abbrev with_numbers : List Record → (is_miscounted is_overfull : Bool) → List (List ℕ) → Result (List Record) Kind
with_numbers list is_miscounted is_overfull numbers =
    if is_miscounted then Err NumberCount else with_records list is_overfull (all_by record_from numbers)

-- the same by the parts of the line
abbrev pub with_parts : List Record → (is_miscounted is_overfull : Bool) → List Text → Result (List Record) Kind
with_parts list is_miscounted is_overfull parts =
    and_then (ok_or (all_by numbers_in parts) Word) (with_numbers list is_miscounted is_overfull)

-- ---- no part yet, and no part more

either : (n : ℕ) (list : List Record) → (if nat_le n 8 then Ok list else Err ClaimCount) ≡ (if nat_lt 8 n then Err ClaimCount else Ok list)
either n list = grind (arith, nat_tests)

-- ---- one part more

or-true : (o : Bool) → (o || true) ≡ true
or-true true = refl
or-true false = refl

module _ (list : List Record) (o : Bool) (claim : Record) where
  records-taken : (claims : Option (List Record)) → with_records list o (option_map (λ ys. claim ∷ ys) claims) ≡ with_records (list ++ claim ∷ []) o claims
  records-taken None = refl
  records-taken (Some claims) =
      ap (λ (xs : List Record). if o || nat_lt 8 (length xs) then Err ClaimCount else Ok xs) (sym (append_assoc list (claim ∷ []) claims))

  records-full : length list ≡ 8 → (claims : Option (List Record)) → with_records list o (option_map (λ ys. claim ∷ ys) claims) ≡ with_records list true claims
  records-full full None = refl
  records-full full (Some claims) =
      let many : nat_lt 8 (length (list ++ claim ∷ claims)) ≡ true = (let l = length-append list (claim ∷ claims) in grind (arith, nat_tests)) in
      rw (many, or-true o) refl

-- the numbers of a part, and the claim that they are
record HasNumbers (part : Text) (claim : Option Record) : Type 0 where
  numbers : List ℕ
  are : numbers_in part ≡ Some numbers
  give : record_from numbers ≡ claim

claim_in-ok : (part : Text) (claim : Option Record) → claim_in part ≡ Ok claim → HasNumbers part claim
unfolding claim_in
claim_in-ok part claim e = by (numbers_in part) refl e
  where
    by : (n : Option (List ℕ)) → numbers_in part ≡ n → and_then (ok_or n Word) (λ numbers. Ok (record_from numbers)) ≡ Ok claim → HasNumbers part claim
    by None are e = absurd (cc)
    by (Some numbers) are e = record { numbers = numbers; are = are; give = (cc) }

module _ (list : List Record) (m o : Bool) (part : Text) (parts : List Text) where
  -- a word is no number
  pub part-wrong : (kind : Kind) → claim_in part ≡ Err kind → with_parts list m o (part ∷ parts) ≡ Err kind
  unfolding claim_in
  part-wrong kind e = by (numbers_in part) refl e
    where
      by : (n : Option (List ℕ)) → numbers_in part ≡ n → and_then (ok_or n Word) (λ numbers. Ok (record_from numbers)) ≡ Err kind → with_parts list m o (part ∷ parts) ≡ Err kind
      by None are e = let is : Word ≡ kind = cc in rw are (ap Err is)
      by (Some numbers) are e = absurd (cc)

  part-step : (numbers : List ℕ) (list' : List Record) (m' o' : Bool) → numbers_in part ≡ Some numbers
      → ((rest : List (List ℕ)) → with_numbers list m o (numbers ∷ rest) ≡ with_numbers list' m' o' rest)
      → with_parts list m o (part ∷ parts) ≡ with_parts list' m' o' parts
  part-step numbers list' m' o' are same = rw are (by (all_by numbers_in parts))
    where
      by : (rest : Option (List (List ℕ)))
          → and_then (ok_or (option_map (λ ys. numbers ∷ ys) rest) Word) (with_numbers list m o) ≡ and_then (ok_or rest Word) (with_numbers list' m' o')
      by None = refl
      by (Some rest) = same rest

  -- a claim, where there is room for one
  pub part-taken : (claim : Record) → claim_in part ≡ Ok (Some claim) → with_parts list m o (part ∷ parts) ≡ with_parts (list ++ claim ∷ []) m o parts
  part-taken claim e =
      let h : HasNumbers part (Some claim) = claim_in-ok part (Some claim) e in
      part-step h.numbers (list ++ claim ∷ []) m o h.are
      (λ rest. rw h.give (ap (λ r. if m then Err NumberCount else r) (records-taken list o claim (all_by record_from rest))))

  -- a claim, where there is none
  pub part-full : (claim : Record) → claim_in part ≡ Ok (Some claim) → length list ≡ 8 → with_parts list m o (part ∷ parts) ≡ with_parts list m true parts
  part-full claim e full =
      let h : HasNumbers part (Some claim) = claim_in-ok part (Some claim) e in
      part-step h.numbers list m true h.are
      (λ rest. rw h.give (ap (λ r. if m then Err NumberCount else r) (records-full list o claim full (all_by record_from rest))))

  same-either : (m : Bool) (kind : Result (List Record) Kind) → (if m then kind else kind) ≡ kind
  same-either true kind = refl
  same-either false kind = refl

  -- other than eight numbers
  pub part-miscounted : claim_in part ≡ Ok None → with_parts list m o (part ∷ parts) ≡ with_parts list true o parts
  part-miscounted e =
      let h : HasNumbers part None = claim_in-ok part None e in
      part-step h.numbers list true o h.are (λ rest. rw h.give (same-either m (Err NumberCount)))

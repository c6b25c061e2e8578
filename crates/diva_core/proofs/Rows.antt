-- What rows make of a log.
use Rattle.std.proofs.Common.{◌≡◌, ℕ, ◌+◌, ◌≤◌, Bool, List, [], ◌∷◌, ◌++◌, length, take, Option, Some, refl, ap, sym, ◌∙◌, arith, inl, inr, length-append, length-take, append-nil, append_assoc, if◌then◌else◌}
use Rattle.std.specs.Prelude.{nat_lt, count_by}
use Rattle.std.proofs.lemmas.Bool.{cond_both, cases_lt, ltb-true, ltb-false}
use Rattle.std.proofs.lemmas.List.{take-append-le, take_all}
use Rattle.std.proofs.lemmas.List.Sums.{sum_by-append}
use Rattle.diva_core.specs.declared.flushes.FlushRow.{FlushRow}
use Rattle.diva_core.specs.Timed.{Log, Timed, rows_kept}
use Rattle.diva_core.specs.Cycle.{is_silent, kept, logged, number}
use Rattle.diva_core.specs.Headline.{HasRows, IsRowOf, is_silent_row, newest_of}

-- a cycle added a row
pub record AddsRow (m last : Timed) : Type 0 where
  pub row : FlushRow
  pub is : IsRowOf m last row

count-append : (p : FlushRow → Bool) (xs ys : List FlushRow) → count_by p (xs ++ ys) ≡ count_by p xs + count_by p ys
count-append p xs ys = sum_by-append (λ x. if p x then 1 else 0) xs ys

newest-append : (before : Option FlushRow) (xs ys : List FlushRow) → newest_of before (xs ++ ys) ≡ newest_of (newest_of before xs) ys
newest-append before [] ys = refl
newest-append before (x ∷ xs) ys = newest-append (Some x) xs ys

-- what was kept of the first is kept of both
take-twice : (n : ℕ) (xs ys : List FlushRow) → take n (take n xs ++ ys) ≡ take n (xs ++ ys)
take-twice n xs ys =
    elim (cases_lt (length xs) n) [
      | inl h ↦ ap (λ zs. take n (zs ++ ys)) (take_all n xs (omega arith))
      | inr h ↦ take-append-le n (take n xs) ys (rw length-take (omega arith)) ∙ take_all n (take n xs) (rw length-take (omega arith)) ∙ sym (take-append-le n xs ys h)
    ]

kept-take : (rows : List FlushRow) (row : FlushRow) → length rows ≤ rows_kept → kept rows row ≡ take rows_kept (rows ++ row ∷ [])
kept-take rows row few =
    cond_both (nat_lt (length rows) rows_kept) _ _ (λ z. z ≡ take rows_kept (rows ++ row ∷ []))
    (λ t. let l = ltb-true (length rows) rows_kept t in sym (take_all rows_kept (rows ++ row ∷ []) (rw length-append (omega arith))))
    (λ f. let l = ltb-false (length rows) rows_kept f in sym (take-append-le rows_kept rows (row ∷ []) (omega arith) ∙ take_all rows_kept rows few))

pub no_rows : (log : Log) → length log.rows ≤ rows_kept → HasRows log [] log
no_rows log few =
    record {
      rows = sym (ap (take rows_kept) (append-nil log.rows) ∙ take_all rows_kept log.rows few);
      newest = refl;
      flushes = omega arith;
      silent = omega arith;
    }

silent-one : (row : FlushRow) → number (is_silent row.cause) ≡ count_by is_silent_row (row ∷ [])
silent-one row = go (is_silent row.cause)
  where
    go : (b : Bool) → (if b then 1 else 0) ≡ 0 + (if b then 1 else 0)
    go b = omega arith

pub one_row : (log : Log) (row : FlushRow) → length log.rows ≤ rows_kept → HasRows log (row ∷ []) (logged log row)
one_row log row few =
    record {
      rows = kept-take log.rows row few;
      newest = refl;
      flushes = refl;
      silent = ap (λ k. log.silent + k) (silent-one row);
    }

pub rows_then : (log mid last : Log) (first more : List FlushRow) → HasRows log first mid → HasRows mid more last → HasRows log (first ++ more) last
rows_then log mid last first more a b =
    record {
      rows = b.rows ∙ ap (λ xs. take rows_kept (xs ++ more)) a.rows ∙ take-twice rows_kept (log.rows ++ first) more ∙ ap (take rows_kept) (append_assoc log.rows first more);
      newest = b.newest ∙ ap (λ o. newest_of o more) a.newest ∙ sym (newest-append log.newest first more);
      flushes = rw length-append (let e = a.flushes in let f = b.flushes in omega arith);
      silent = rw count-append (let e = a.silent in let f = b.silent in omega arith);
    }

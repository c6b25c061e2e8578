-- What is counted of runs, one for each flip.
use Rattle.std.proofs.Common.{◌≡◌, ℕ, suc, ◌+◌, ◌*◌, ◌&&◌, Bool, true, false, List, [], ◌∷◌, ◌++◌, length, map, cond, refl, ap, sym, ◌∙◌, arith}
use Rattle.std.specs.Prelude.{count_by}
use Rattle.std.specs.List.{range_with_len}
use Rattle.std.proofs.lemmas.Bool.{eq-eqb, true≢false}
use Rattle.std.proofs.lemmas.List.{length-map, map-append}
use Rattle.std.proofs.lemmas.List.FromFn.{length-range_with_len, map-range_with_len_more}
use Rattle.std.proofs.lemmas.List.Sums.{sum_by-append}
use Rattle.std.proofs.lemmas.Slice.Eq.{bytes_eq-Decides}
use Rattle.diva_isa.specs.State.{State}
use Rattle.diva_core.specs.Timed.{Timed}
use Rattle.diva_faults.specs.Flips.{flip_at, flips_to}
use Rattle.diva_faults.specs.declared.rows.Row.{Row}
use Rattle.diva_faults.proofs.Flipping.{flips_by_place}
use Rattle.diva_cli.specs.CampaignTexts.{AreAllSame, is_same, tally_of}

-- ---- one run more

-- the runs with the first flips
abbrev pub runs_to : (run : Row → Timed) → (n : ℕ) → List Timed
runs_to run n = map run (map flip_at (range_with_len 0 n))

none_add : (n : ℕ) → 0 + n ≡ n
none_add n = omega arith

-- it is counted by itself
pub count_more : (p : Timed → Bool) (runs : List Timed) (last : Timed) → count_by p (runs ++ last ∷ []) ≡ count_by p runs + cond (p last) 1 0
count_more p runs last = sum_by-append (λ (m : Timed). cond (p m) 1 0) runs (last ∷ []) ∙ ap (λ (k : ℕ). count_by p runs + k) (none_add (cond (p last) 1 0))

pub run_more : (run : Row → Timed) (n : ℕ) (last : Timed) → last ≡ run (flip_at n) → runs_to run n ++ last ∷ [] ≡ runs_to run (n + 1)
run_more run n last is =
    ap (λ (m : Timed). runs_to run n ++ m ∷ []) is
    ∙ sym (map-append run (map flip_at (range_with_len 0 n)) (flip_at n ∷ []))
    ∙ sym (ap (map run) (map-range_with_len_more flip_at 0 n n (none_add n)))

pub as_many : (run : Row → Timed) (n : ℕ) → length (runs_to run n) ≡ n
as_many run n = length-map (map flip_at (range_with_len 0 n)) run ∙ length-map (range_with_len 0 n) flip_at ∙ length-range_with_len 0 n

-- ---- runs that are all the same

one_more : (b : Bool) (n m : ℕ) → b ≡ true → n ≡ m → 0 + cond b 1 0 + n ≡ suc m
one_more true n m test same = omega arith
one_more false n m test same = absurd (true≢false (sym test))

-- where the test holds of each, all are counted
count_all : (p : Timed → Bool) (run : Row → Timed) → ((row : Row) → p (run row) ≡ true) → (rows : List Row) → count_by p (map run rows) ≡ length rows
count_all p run h [] = refl
count_all p run h (row ∷ rows) =
    sum_by-append (λ (m : Timed). cond (p m) 1 0) (run row ∷ []) (map run rows)
    ∙ one_more (p (run row)) (count_by p (map run rows)) (length rows) (h row) (count_all p run h rows)

flips_many : (last : ℕ) → length (flips_to last) ≡ 256 * last
flips_many last =
    ap (λ (rows : List Row). length rows) (sym (flips_by_place last))
    ∙ length-map (range_with_len 0 (256 * last)) flip_at ∙ length-range_with_len 0 (256 * last)

pub all_same : (first : Timed) (run : Row → Timed) (last : ℕ) → ((row : Row) → is_same first (run row) ≡ true)
    → AreAllSame last (tally_of first (map run (flips_to last)))
all_same first run last h = record {
  same = count_all (is_same first) run h (flips_to last) ∙ sym (length-map (flips_to last) run);
  runs = length-map (flips_to last) run ∙ flips_many last;
}

all_true : (a b c d e : Bool) → a ≡ true → b ≡ true → c ≡ true → d ≡ true → e ≡ true → (a && (b && (c && (d && e)))) ≡ true
all_true a b c d e p q r s t = rw (p, q, r, s, t) refl

pub same_by_state : (first last : Timed) → last.arch ≡ first.arch → last.count ≡ first.count → is_same first last ≡ true
same_by_state first last arch count =
    all_true _ _ _ _ _
    (eq-eqb last.arch.end first.arch.end (ap (λ (s : State). s.end) arch))
    (eq-eqb last.count first.count count)
    ((bytes_eq-Decides last.arch.output first.arch.output).1 (ap (λ (s : State). s.output) arch))
    ((bytes_eq-Decides last.arch.regs first.arch.regs).1 (ap (λ (s : State). s.regs) arch))
    (eq-eqb last.arch.pc first.arch.pc (ap (λ (s : State). s.pc) arch))

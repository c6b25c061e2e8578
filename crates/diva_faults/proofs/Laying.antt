-- What rows make of a list in one cycle, if they stand in the order of their cycles.
use Rattle.std.proofs.Common.{◌≡◌, ◌≢◌, ◌<◌, ◌≤◌, ℕ, ◌+◌, max, min, List, [], ◌∷◌, ◌++◌, take, drop, length, get_or, fold, Bool, true, false, cond, ◌||◌, ◌&&◌, refl, ap, sym, subst, ◌∙◌, ◌-◌, ◌^◌, arith}
use Rattle.std.specs.Prelude.{nat_le, nat_lt, filter}
use Rattle.std.specs.List.{All, list_any}
use Rattle.std.specs.List.Sorted.{IsNonDecreasingBy, IsPartitionedBy, IsPartitionPoint, IsPermutation, IsStableByKey, ties}
use Rattle.std.specs.Ordering.{nat_cmp, is_lt}
use Rattle.std.specs.Fn.{Called, ComputesKey}
use Rattle.std.proofs.lemmas.Grind.{common_steps}
use Rattle.std.proofs.lemmas.List.{take-append-drop, take_rest, get_or-take, get_or-drop, length-take, length-drop}
use Rattle.std.proofs.lemmas.List.Elements.{All-cons, All-head, All-nil, All-tail}
use Rattle.std.proofs.lemmas.List.Folds.{list_any-append, list_any_none}
use Rattle.std.proofs.lemmas.List.Sums.{fold-append}
use Rattle.std.proofs.lemmas.List.Sorted.{All-permutation, list_any-IsPermutation, IsPartitionPoint-from_clause}
use denote.Param.Members.{Mut}
use denote.Ref.{Bor}
use Rattle.diva_isa.specs.declared.record.Record.{Record}
use Rattle.diva_faults.specs.declared.rows.Row.{Row}
use Rattle.diva_faults.specs.declared.rows.Row.TheVariants.{Lane, Hush, Lasting}
use Rattle.diva_faults.specs.Lists.{laid, laid_in, scripted}
use Rattle.diva_faults.specs.Rows.{IsScriptRow, row_cycle}
use Rattle.diva_faults.specs.Schedules.{AreLike}
use Rattle.diva_faults.specs.Touched.{end_of, end_of_rows, first_touched, touches}
use Rattle.diva_faults.specs.Inner.{hush_end, latest_end}

-- ---- rows that do not touch a cycle

abbrev IsIdle : (now : ℕ) → Row → Type 0
IsIdle now row = touches row now ≡ false

idle_before : (now : ℕ) (row : Row) → now < row_cycle row → IsIdle now row
idle_before now row before = grind (arith, common_steps)

idle_after : (now : ℕ) (row : Row) → end_of row ≤ now → IsIdle now row
idle_after now row after = grind (arith, common_steps)

laid_in-idle : (now : ℕ) (list : List Record) (row : Row) → IsIdle now row → laid_in now list row ≡ list
laid_in-idle now list row idle = rw idle refl

pub laid_in-before : (now : ℕ) (list : List Record) (row : Row) → now < row_cycle row → laid_in now list row ≡ list
laid_in-before now list row before = laid_in-idle now list row (idle_before now row before)

pub laid_in-after : (now : ℕ) (list : List Record) (row : Row) → end_of row ≤ now → laid_in now list row ≡ list
laid_in-after now list row after = laid_in-idle now list row (idle_after now row after)

fold-idle : (now : ℕ) (rows : List Row) (list : List Record) → All (IsIdle now) rows → fold (laid_in now) list rows ≡ list
fold-idle now [] list idle = refl
fold-idle now (row ∷ rows) list idle =
    ap (λ l. fold (laid_in now) l rows) (laid_in-idle now list row (All-head (IsIdle now) row rows idle))
    ∙ fold-idle now rows list (All-tail (IsIdle now) row rows idle)

scripted-idle : (now : ℕ) (rows : List Row) (list : List Record) → All (IsIdle now) rows → scripted rows now list ≡ list
unfolding scripted
scripted-idle now rows list idle = fold-idle now rows list idle

-- a cycle before all that are touched
all-before : (now from : ℕ) (rows : List Row) → now < fold (λ first row. min first (row_cycle row)) from rows → (now < from) × All (IsIdle now) rows
all-before now from [] before = (before, All-nil (IsIdle now))
all-before now from (row ∷ rows) before =
    let more = all-before now (min from (row_cycle row)) rows before in
    let least : now < min from (row_cycle row) = more.0 in
    (omega arith, All-cons (IsIdle now) row rows (idle_before now row (omega arith)) more.1)

-- a cycle after them
all-after : (now from : ℕ) (rows : List Row) → fold (λ end row. max end (end_of row)) from rows ≤ now → (from ≤ now) × All (IsIdle now) rows
all-after now from [] after = (after, All-nil (IsIdle now))
all-after now from (row ∷ rows) after =
    let more = all-after now (max from (end_of row)) rows after in
    let most : max from (end_of row) ≤ now = more.0 in
    (omega arith, All-cons (IsIdle now) row rows (idle_after now row (omega arith)) more.1)

-- the rows change nothing in a cycle before the first that they touch, nor in one after the last
pub before_first : (now : ℕ) (rows : List Row) (list : List Record) → now < first_touched rows → scripted rows now list ≡ list
before_first now rows list before = scripted-idle now rows list (all-before now (2 ^ 64 - 1) rows before).1

pub behind_end : (now : ℕ) (rows : List Row) (list : List Record) → end_of_rows rows ≤ now → scripted rows now list ≡ list
behind_end now rows list after = scripted-idle now rows list (all-after now 0 rows after).1

-- ---- one row more

pub one_more : (rows : List Row) (row : Row) (now : ℕ) (list : List Record) → scripted (rows ++ row ∷ []) now list ≡ laid_in now (scripted rows now list) row
unfolding scripted
one_more rows row now list = fold-append (laid_in now) list rows (row ∷ [])

-- ---- an empty list stays empty, so a hush leaves no claim

laid_in-nothing : (now : ℕ) (row : Row) → laid_in now [] row ≡ []
laid_in-nothing now row = by (touches row now) row
  where
    by : (b : Bool) (row : Row) → cond {A = List Record} b (laid row []) [] ≡ []
    by true (Lane cycle lane change) = refl
    by true (Hush cycle cycles) = refl
    by true (Lasting cycle cycles lane change) = refl
    by false row = refl

fold-nothing : (now : ℕ) (rows : List Row) → fold (laid_in now) [] rows ≡ []
fold-nothing now [] = refl
fold-nothing now (row ∷ rows) = ap (λ l. fold (laid_in now) l rows) (laid_in-nothing now row) ∙ fold-nothing now rows

pub hush_among : (rows more : List Row) (cycle cycles now : ℕ) (list : List Record) → touches (Hush cycle cycles) now ≡ true
    → scripted (rows ++ Hush cycle cycles ∷ more) now list ≡ []
unfolding scripted
hush_among rows more cycle cycles now list hushed =
    let before : List Record = fold (laid_in now) list rows in
    let empty : laid_in now before (Hush cycle cycles) ≡ [] = rw hushed refl in
    fold-append (laid_in now) list rows (Hush cycle cycles ∷ more)
    ∙ ap (λ l. fold (laid_in now) l more) empty
    ∙ fold-nothing now more

-- ---- the hushes of a cycle

-- the row is a hush, and touches the cycle `now`
abbrev is_hush_in : (now : ℕ) → Row → Bool
is_hush_in now (Lane cycle lane change) = false
is_hush_in now (Hush cycle cycles) = touches (Hush cycle cycles) now
is_hush_in now (Lasting cycle cycles lane change) = false

or-false : (a : Bool) → a ≡ (a || false)
or-false true = refl
or-false false = refl

-- one of them leaves no claim
fold-hushed : (now : ℕ) (rows : List Row) (list : List Record) → list_any (is_hush_in now) rows ≡ true → fold (laid_in now) list rows ≡ []
fold-hushed now [] list hushed = absurd (cc)
fold-hushed now (Lane cycle lane change ∷ rows) list hushed = fold-hushed now rows (laid_in now list (Lane cycle lane change)) hushed
fold-hushed now (Lasting cycle cycles lane change ∷ rows) list hushed =
    fold-hushed now rows (laid_in now list (Lasting cycle cycles lane change)) hushed
fold-hushed now (Hush cycle cycles ∷ rows) list hushed = by (touches (Hush cycle cycles) now) hushed (λ h. fold-hushed now rows list h)
  where
    by : (b : Bool) → (b || list_any (is_hush_in now) rows) ≡ true → (list_any (is_hush_in now) rows ≡ true → fold (laid_in now) list rows ≡ [])
        → fold (laid_in now) (cond b [] list) rows ≡ []
    by true h more = fold-nothing now rows
    by false h more = more h

-- in a script without one, a row that names another cycle is idle
other_idle : (now : ℕ) (row : Row) → IsScriptRow row → is_hush_in now row ≡ false → row_cycle row ≢ now → IsIdle now row
other_idle now (Lane cycle lane change) ranges quiet other = grind (arith, common_steps)
other_idle now (Hush cycle cycles) ranges quiet other = quiet
other_idle now (Lasting cycle cycles lane change) ranges quiet other = absurd (let last = ranges.1 in cc)

hush_in-idle : (now : ℕ) (row : Row) → IsIdle now row → is_hush_in now row ≡ false
hush_in-idle now (Lane cycle lane change) idle = refl
hush_in-idle now (Hush cycle cycles) idle = idle
hush_in-idle now (Lasting cycle cycles lane change) idle = refl

quiet_head : (now : ℕ) (row : Row) (rows : List Row) → list_any (is_hush_in now) (row ∷ rows) ≡ false → is_hush_in now row ≡ false
quiet_head now row rows quiet = grind (arith, common_steps)

quiet_tail : (now : ℕ) (row : Row) (rows : List Row) → list_any (is_hush_in now) (row ∷ rows) ≡ false → list_any (is_hush_in now) rows ≡ false
quiet_tail now row rows quiet = grind (arith, common_steps)

all_quiet : (now : ℕ) (rows : List Row) → list_any (is_hush_in now) rows ≡ false → All (λ row. is_hush_in now row ≡ false) rows
all_quiet now [] quiet = All-nil (λ row. is_hush_in now row ≡ false)
all_quiet now (row ∷ rows) quiet =
    All-cons (λ row. is_hush_in now row ≡ false) row rows (quiet_head now row rows quiet) (all_quiet now rows (quiet_tail now row rows quiet))

-- ---- the hushes that have begun, of which one touches the cycle if the latest of them ends after it

lt-max : (now m n : ℕ) → nat_lt now (max m n) ≡ (nat_lt now m || nat_lt now n)
lt-max now m n = grind (arith, common_steps)

or-assoc : (a b c : Bool) → ((a || b) || c) ≡ (a || (b || c))
or-assoc true b c = refl
or-assoc false b c = refl

ends-from : (now from : ℕ) (rows : List Row) → nat_lt now (fold (λ latest row. max latest (hush_end row)) from rows) ≡ (nat_lt now from || list_any (λ row. nat_lt now (hush_end row)) rows)
ends-from now from [] = or-false (nat_lt now from)
ends-from now from (row ∷ rows) =
    ends-from now (max from (hush_end row)) rows
    ∙ ap (λ b. b || list_any (λ row. nat_lt now (hush_end row)) rows) (lt-max now from (hush_end row))
    ∙ or-assoc (nat_lt now from) (nat_lt now (hush_end row)) (list_any (λ row. nat_lt now (hush_end row)) rows)

is_hush_in-begun : (now : ℕ) (row : Row) → row_cycle row ≤ now → is_hush_in now row ≡ nat_lt now (hush_end row)
is_hush_in-begun now (Lane cycle lane change) begun = grind (arith, common_steps)
is_hush_in-begun now (Hush cycle cycles) begun = grind (arith, common_steps)
is_hush_in-begun now (Lasting cycle cycles lane change) begun = grind (arith, common_steps)

list_any-begun : (now : ℕ) (rows : List Row) → All (λ row. row_cycle row ≤ now) rows → list_any (is_hush_in now) rows ≡ list_any (λ row. nat_lt now (hush_end row)) rows
list_any-begun now [] begun = refl
list_any-begun now (row ∷ rows) begun =
    rw (is_hush_in-begun now row (All-head (λ row. row_cycle row ≤ now) row rows begun), list_any-begun now rows (All-tail (λ row. row_cycle row ≤ now) row rows begun)) refl

hushed_by_latest : (now : ℕ) (rows : List Row) → All (λ row. row_cycle row ≤ now) rows → list_any (is_hush_in now) rows ≡ nat_lt now (latest_end rows)
hushed_by_latest now rows begun = list_any-begun now rows begun ∙ sym (ends-from now 0 rows ∙ grind (arith, common_steps))

-- ---- looking up

module _ (now : ℕ) (rows : List Row) (sorted : IsNonDecreasingBy row_cycle rows) where
  le-partitioned : IsPartitionedBy (λ row. nat_le (row_cycle row) now) rows
  le-partitioned i j d ordered inside later = let e = sorted i j d ordered inside in grind arith

  lt-partitioned : IsPartitionedBy (λ row. nat_lt (row_cycle row) now) rows
  lt-partitioned i j d ordered inside later = let e = sorted i j d ordered inside in grind arith

  module _ {F : Type 0} {g : Mut F (Bor Row × Unit {0}) Bool} {f : F} (n : ℕ) (clause : (q : Row → Bool) → ComputesKey g q f → IsPartitionedBy q rows → IsPartitionPoint (λ y. q y ≡ true) (λ y. q y ≡ false) rows n) where
    pub begun_by_is : ((a : Bor Row × Unit {0}) (r : Bool) (f' : F) → Called g f a r f' → (r ≡ nat_le (row_cycle a.0.now) now) × (f' ≡ f)) → IsPartitionPoint (λ row. row_cycle row ≤ now) (λ row. now < row_cycle row) rows n
    begun_by_is answers =
        let point = IsPartitionPoint-from_clause (λ row. nat_le (row_cycle row) now) rows n clause le-partitioned answers in
        ((λ k d low high. let p = point.0 k d low high in grind arith), (λ k d low high. let p = point.1 k d low high in grind arith))

    pub begun_before_is : ((a : Bor Row × Unit {0}) (r : Bool) (f' : F) → Called g f a r f' → (r ≡ nat_lt (row_cycle a.0.now) now) × (f' ≡ f)) → IsPartitionPoint (λ row. row_cycle row < now) (λ row. now ≤ row_cycle row) rows n
    begun_before_is answers =
        let point = IsPartitionPoint-from_clause (λ row. nat_lt (row_cycle row) now) rows n clause lt-partitioned answers in
        ((λ k d low high. let p = point.0 k d low high in grind arith), (λ k d low high. let p = point.1 k d low high in grind arith))

-- the rows that have begun, and among them those that name an earlier cycle
module _ (now : ℕ) (rows : List Row) (begun : ℕ) (is_begun : IsPartitionPoint (λ row. row_cycle row ≤ now) (λ row. now < row_cycle row) rows begun) where
  begun_by_now : All (λ row. row_cycle row ≤ now) (take begun rows)
  begun_by_now k d h =
      let low : k < begun = omega (arith, length-take begun rows) in
      rw (get_or-take begun rows k d low) (is_begun.0 k d (omega arith) low)

  later_idle : All (IsIdle now) (drop begun rows)
  later_idle k d h =
      let high : begun + k < length rows = omega (arith, length-drop begun rows) in
      rw (get_or-drop begun rows k d) (idle_before now (get_or rows (begun + k) d) (is_begun.1 (begun + k) d (omega arith) high))

  -- those that have not begun do nothing
  fold-begun : (list : List Record) → fold (laid_in now) list rows ≡ fold (laid_in now) list (take begun rows)
  fold-begun list =
      ap (fold (laid_in now) list) (sym (take-append-drop begun rows))
      ∙ fold-append (laid_in now) list (take begun rows) (drop begun rows)
      ∙ fold-idle now (drop begun rows) (fold (laid_in now) list (take begun rows)) later_idle

  found_hushed : (list : List Record) → nat_lt now (latest_end (take begun rows)) ≡ true → [] ≡ scripted rows now list
  unfolding scripted
  found_hushed list hushed =
      sym (fold-begun list ∙ fold-hushed now (take begun rows) list (hushed_by_latest now (take begun rows) begun_by_now ∙ hushed))

  module _ (ranges : All IsScriptRow rows) (earlier : ℕ) (is_earlier : IsPartitionPoint (λ row. row_cycle row < now) (λ row. now ≤ row_cycle row) (take begun rows) earlier)
      (quiet : nat_lt now (latest_end (take begun rows)) ≡ false) where
    earlier_idle : All (IsIdle now) (take earlier (take begun rows))
    earlier_idle k d h =
        let low : k < earlier = omega (arith, length-take earlier (take begun rows)) in
        let inside : k < length (take begun rows) = omega (arith, length-take earlier (take begun rows)) in
        let within : k < length rows = omega (arith, length-take begun rows) in
        let first : k < begun = omega (arith, length-take begun rows) in
        let row : Row = get_or (take begun rows) k d in
        let same : row ≡ get_or rows k d = get_or-take begun rows k d first in
        let is : IsScriptRow row = subst IsScriptRow (sym same) (ranges k d within) in
        let passed : row_cycle row < now = is_earlier.0 k d (omega arith) low in
        let silent : is_hush_in now row ≡ false = all_quiet now (take begun rows) (hushed_by_latest now (take begun rows) begun_by_now ∙ quiet) k d inside in
        rw (get_or-take earlier (take begun rows) k d low) (other_idle now row is silent (λ here. absurd (omega arith)))

    -- neither do those of earlier cycles, if no hush is among them
    found_laid : (list : List Record) → fold (laid_in now) list (drop earlier (take begun rows)) ≡ scripted rows now list
    unfolding scripted
    found_laid list =
        sym (
        fold-begun list
        ∙ ap (fold (laid_in now) list) (sym (take-append-drop earlier (take begun rows)))
        ∙ fold-append (laid_in now) list (take earlier (take begun rows)) (drop earlier (take begun rows))
        ∙ ap (λ l. fold (laid_in now) l (drop earlier (take begun rows))) (fold-idle now (take earlier (take begun rows)) list earlier_idle)
        )

-- the same, if the rows were read twice
module _ (now : ℕ) (rows first second : List Row) (begun : ℕ) (same_first : first ≡ rows) (same_second : second ≡ rows)
    (is_begun : IsPartitionPoint (λ row. row_cycle row ≤ now) (λ row. now < row_cycle row) first begun) (list : List Record) where
  begun_at : IsPartitionPoint (λ row. row_cycle row ≤ now) (λ row. now < row_cycle row) rows begun
  begun_at = subst (λ xs. IsPartitionPoint (λ row. row_cycle row ≤ now) (λ row. now < row_cycle row) xs begun) same_first is_begun

  pub read_hushed : nat_lt now (latest_end (take begun rows)) ≡ true → [] ≡ scripted rows now list
  read_hushed hushed = found_hushed now rows begun begun_at list hushed

  pub read_laid : All IsScriptRow rows → (earlier : ℕ) → IsPartitionPoint (λ row. row_cycle row < now) (λ row. now ≤ row_cycle row) (take begun second) earlier
      → nat_lt now (latest_end (take begun rows)) ≡ false
      → fold (laid_in now) list (take (length (take begun second) - earlier) (drop earlier (take begun second))) ≡ scripted rows now list
  read_laid ranges earlier is_earlier quiet =
      let at : IsPartitionPoint (λ row. row_cycle row < now) (λ row. now ≤ row_cycle row) (take begun rows) earlier =
      subst (λ xs. IsPartitionPoint (λ row. row_cycle row < now) (λ row. now ≤ row_cycle row) (take begun xs) earlier) same_second is_earlier in
      ap (fold (laid_in now) list) (take_rest (take begun second) earlier ∙ ap (λ xs. drop earlier (take begun xs)) same_second)
      ∙ found_laid now rows begun begun_at ranges earlier at quiet list

-- ---- rows in another order, those of one cycle in the same one

-- the row ties with those of the cycle `now`
ties_now : ℕ → Row → Bool
ties_now now row = ties (λ x y. is_lt (nat_cmp (row_cycle x) (row_cycle y))) (Hush now 0) row

ties_now-here : (now : ℕ) (row : Row) → row_cycle row ≡ now → ties_now now row ≡ true
unfolding ties_now
ties_now-here now row here = grind (arith, common_steps)

fold-filter : (now : ℕ) (rows : List Row) (list : List Record) → All IsScriptRow rows → list_any (is_hush_in now) rows ≡ false
    → fold (laid_in now) list rows ≡ fold (laid_in now) list (filter (ties_now now) rows)
fold-filter now [] list ranges quiet = refl
fold-filter now (row ∷ rows) list ranges quiet =
    by_tie (ties_now now row) refl (λ l. fold-filter now rows l (All-tail IsScriptRow row rows ranges) (quiet_tail now row rows quiet))
  where
    by_tie : (t : Bool) → ties_now now row ≡ t → ((l : List Record) → fold (laid_in now) l rows ≡ fold (laid_in now) l (filter (ties_now now) rows))
        → fold (laid_in now) (laid_in now list row) rows ≡ fold (laid_in now) list (cond t (row ∷ filter (ties_now now) rows) (filter (ties_now now) rows))
    by_tie true is more = more (laid_in now list row)
    by_tie false is more =
        let other : row_cycle row ≢ now = λ here. let same = ties_now-here now row here in absurd (cc) in
        let idle : IsIdle now row = other_idle now row (All-head IsScriptRow row rows ranges) (quiet_head now row rows quiet) other in
        ap (λ l. fold (laid_in now) l rows) (laid_in-idle now list row idle) ∙ more list

pub like-sorted : (rows sorted : List Row) → All IsScriptRow rows → IsPermutation rows sorted → IsStableByKey row_cycle nat_cmp rows sorted → AreLike sorted rows
unfolding ties_now scripted
like-sorted rows sorted ranges permutation stable now list = by (list_any (is_hush_in now) rows) refl
  where
    same : list_any (is_hush_in now) sorted ≡ list_any (is_hush_in now) rows
    same = sym (list_any-IsPermutation (is_hush_in now) rows sorted permutation)

    by : (b : Bool) → list_any (is_hush_in now) rows ≡ b → fold (laid_in now) list sorted ≡ fold (laid_in now) list rows
    by true hushed = fold-hushed now sorted list (same ∙ hushed) ∙ sym (fold-hushed now rows list hushed)
    by false quiet =
        fold-filter now sorted list (All-permutation IsScriptRow rows sorted permutation ranges) (same ∙ quiet)
        ∙ ap (fold (laid_in now) list) (stable (Hush now 0))
        ∙ sym (fold-filter now rows list ranges quiet)

-- The cycles that rows touch: a hush those whose lists it empties, a row that lasts those in which it changes a claim, and another row the
-- one that it names.
-- Cited by `Row::end`, `Script::first_cycle` and `end_cycle`, and `a_hush_leaves_no_claim`; in `Lists.antt`, for `Row::lay_in`.
use Rattle.std.specs.Prelude.{ℕ, ◌+◌, ◌-◌, ◌^◌, ◌&&◌, nat_le, nat_lt, max, min, Bool, List, fold}
use Rattle.diva_faults.specs.declared.rows.Row.{Row}
use Rattle.diva_faults.specs.declared.rows.Row.TheVariants.{Lane, Hush, Lasting}
use Rattle.diva_faults.specs.Rows.{row_cycle}

-- the cycle after the last one that a row touches
abbrev pub end_of : Row → ℕ
end_of (Lane cycle lane change) = cycle + 1
end_of (Hush cycle cycles) = cycle + cycles
end_of (Lasting cycle cycles lane change) = cycle + cycles

-- a row touches the cycle `now`
abbrev pub touches : Row → (now : ℕ) → Bool
touches row now = nat_le (row_cycle row) now && nat_lt now (end_of row)

-- the first cycle that a row touches, and 2^64-1 if there is no row
abbrev pub first_touched : List Row → ℕ
first_touched rows = fold (λ first row. min first (row_cycle row)) (2 ^ 64 - 1) rows

-- the cycle after the last one that a row touches, and 0 if there is no row
abbrev pub end_of_rows : List Row → ℕ
end_of_rows rows = fold (λ end row. max end (end_of row)) 0 rows

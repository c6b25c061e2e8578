-- What only private contracts of this crate cite. A reader of its promises can pass over it.
use Rattle.std.specs.Prelude.{◌≡◌, ℕ, ◌+◌, ◌<◌, max, List, length, take, fold, slice_index}
use Rattle.std.specs.List.{All}
use Rattle.std.specs.List.Sorted.{IsNonDecreasingBy}
use Rattle.diva_faults.specs.declared.rows.Row.{Row}
use Rattle.diva_faults.specs.declared.rows.Row.TheVariants.{Lane, Hush, Lasting}
use Rattle.diva_faults.specs.Rows.{IsScriptRow, row_cycle}
use Rattle.diva_faults.specs.Schedules.{AreLike}
use Rattle.diva_faults.specs.Touched.{end_of_rows, first_touched}

-- the cycle after the last one of a hush, and 0 for another row
abbrev pub hush_end : Row → ℕ
hush_end (Lane cycle lane change) = 0
hush_end (Hush cycle cycles) = cycle + cycles
hush_end (Lasting cycle cycles lane change) = 0

-- the latest end of the hushes among some rows
abbrev pub latest_end : List Row → ℕ
latest_end rows = fold (λ latest row. max latest (hush_end row)) 0 rows

-- the rows stand in the order of their cycles; beside each is the latest end of the hushes up to it
pub record IsSchedule (rows : List Row) (hush_ends : List ℕ) : Type 0 where
  pub ranges : All IsScriptRow rows
  pub sorted : IsNonDecreasingBy row_cycle rows
  pub beside : length hush_ends ≡ length rows
  pub latest : (k : ℕ) → k < length rows → slice_index hush_ends k ≡ latest_end (take (k + 1) rows)

-- the schedule is of these rows, of which the first cycle that they touch is known, and the one after the last
pub record IsScript (rows schedule : List Row) (first end : ℕ) : Type 0 where
  pub ranges : All IsScriptRow rows
  pub like : AreLike schedule rows
  pub begins : first ≡ first_touched rows
  pub ends : end ≡ end_of_rows rows

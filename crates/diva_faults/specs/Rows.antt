-- The rows of a script.
-- Cited by `flip_at`, `Row::cycle`, `Row::end`, `Row::lay_in`, `Script::rows` and `of_row`.
use Rattle.std.specs.Prelude.{◌≡◌, ℕ, Bool, true, false, ⊤}
use Rattle.diva_outside.specs.NextWords.{IsInRange}
use Rattle.diva_faults.specs.declared.rows.Change.{Change}
use Rattle.diva_faults.specs.declared.rows.Change.TheVariants.{Flip, Set, Lose, Double, Force}
use Rattle.diva_faults.specs.declared.rows.Row.{Row}
use Rattle.diva_faults.specs.declared.rows.Row.TheVariants.{Lane, Hush, Lasting}

-- the cycle that a row names
abbrev pub row_cycle : Row → ℕ
row_cycle (Lane cycle lane change) = cycle
row_cycle (Hush cycle cycles) = cycle
row_cycle (Lasting cycle cycles lane change) = cycle

abbrev pub lasts : Row → Bool
lasts (Lane cycle lane change) = false
lasts (Hush cycle cycles) = false
lasts (Lasting cycle cycles lane change) = true

-- cycles, and numbers of cycles
abbrev pub IsCycle : ℕ → Type 0
IsCycle n = IsInRange 1 1000000000 n

abbrev pub IsChange : Change → Type 0
IsChange (Flip field bit) = IsInRange 0 31 bit
IsChange (Set field value) = ⊤
IsChange Lose = ⊤
IsChange Double = ⊤
IsChange (Force field bit high) = IsInRange 0 31 bit

-- the numbers of a row are in their ranges
abbrev pub IsRow : Row → Type 0
IsRow (Lane cycle lane change) = IsCycle cycle × IsInRange 0 7 lane × IsChange change
IsRow (Hush cycle cycles) = IsCycle cycle × IsCycle cycles
IsRow (Lasting cycle cycles lane change) = IsCycle cycle × IsCycle cycles × IsInRange 0 7 lane × IsChange change

-- and it may stand in a script: it is no row that lasts
abbrev pub IsScriptRow : Row → Type 0
IsScriptRow row = IsRow row × (lasts row ≡ false)

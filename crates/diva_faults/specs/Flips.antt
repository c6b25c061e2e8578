-- The flips of a campaign: rows each of which inverts one bit of a claim.
-- Cited by `flip_at`.
use Rattle.std.specs.Prelude.{ℕ, ◌+◌, ◌/◌, ◌%◌, List, map}
use Rattle.std.specs.List.{flat_map, range_with_len, slice_index_or}
use Rattle.diva_core.specs.Difference.{all_fields}
use Rattle.diva_core.specs.declared.differences.Field.TheVariants.{Pc}
use Rattle.diva_faults.specs.declared.rows.Change.TheVariants.{Flip}
use Rattle.diva_faults.specs.declared.rows.Row.{Row}
use Rattle.diva_faults.specs.declared.rows.Row.TheVariants.{Lane}

-- those of a cycle's first claim: each bit of each field
abbrev pub flips_in : (cycle : ℕ) → List Row
flips_in cycle = flat_map (λ field. map (λ bit. Lane cycle 0 (Flip field bit)) (range_with_len 0 32)) all_fields

-- those of all cycles from 1 to this one
abbrev pub flips_to : (last : ℕ) → List Row
flips_to last = flat_map flips_in (range_with_len 1 last)

-- ---- the same by place: there are 256 in each cycle

abbrev pub flip_of_cycle : (cycle place : ℕ) → Row
flip_of_cycle cycle place = Lane cycle 0 (Flip (slice_index_or all_fields (place / 32) Pc) (place % 32))

abbrev pub flip_at : (place : ℕ) → Row
flip_at place = flip_of_cycle (place / 256 + 1) (place % 256)

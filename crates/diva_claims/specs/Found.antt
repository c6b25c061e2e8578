-- What a flush tells of a line.
-- Cited by the laws of this crate, as `flushes_tell_wrong_lines`.
use Rattle.std.specs.Prelude.{ℕ, ◌≡◌, ◌⊎◌, List, [], ◌∷◌, Option, Some, None, slice_get, true, ⊤}
use Rattle.diva_isa.specs.State.{State}
use Rattle.diva_isa.specs.Step.{record_of, steps}
use Rattle.diva_isa.specs.declared.record.Record.{Record}
use Rattle.diva_core.specs.Cycle.{is_silent}
use Rattle.diva_core.specs.Difference.{first_difference}
use Rattle.diva_core.specs.declared.differences.Diff.{Diff}
use Rattle.diva_core.specs.declared.flushes.FlushRow.{FlushRow}
use Rattle.diva_core.specs.declared.flushes.Cause.{Cause}
use Rattle.diva_core.specs.declared.flushes.Cause.TheVariants.{Differs, Silent}
use Rattle.diva_claims.specs.Said.{filled, IsLineOf}
use Rattle.diva_claims.specs.declared.said.Said.{Said}

-- a line is there, and what it says differs from the due record first in d
abbrev pub IsWrongIn : Option Said → Record → Diff → Type 0
IsWrongIn None due d = ⊥
IsWrongIn (Some said) due d = first_difference (filled said due) due ≡ Some d

-- a flush for a difference tells that a line is wrong, and in which field first; the due record is that of the flush's place
abbrev pub IsTold : Option Said → Record → Cause → Type 0
IsTold line due (Differs d) = IsWrongIn line due d
IsTold line due (Silent limit) = ⊤

-- so does a row, of the line at its place; the machine began with the state s
abbrev pub TellsWrongLine : List Said → State → FlushRow → Type 0
TellsWrongLine lines s row = IsTold (slice_get lines row.at) (record_of (steps row.at s)) row.cause

-- a flush for silence tells that there is no line at its place
abbrev pub TellsMissingLine : List Said → FlushRow → Type 0
TellsMissingLine lines row = is_silent row.cause ≡ true → slice_get lines row.at ≡ None

-- ---- the rows of a run

-- one of these rows has this place
abbrev pub HasRowAt : ℕ → List FlushRow → Type 0
HasRowAt k [] = ⊥
HasRowAt k (row ∷ rows) = (row.at ≡ k) ⊎ HasRowAt k rows

-- the instruction at a place has a line, and all that it says is due; or a flush came there
abbrev pub IsRightOrFlushed : List Said → State → List FlushRow → ℕ → Type 0
IsRightOrFlushed lines s rows k = IsLineOf (slice_get lines k) (record_of (steps k s)) ⊎ HasRowAt k rows

-- The kinds of faults of a tape's line, and their numbers.
-- Cited in `Tapes.antt`, for `Tape::read`.
use Rattle.std.specs.Prelude.{ℕ}
use Rattle.diva_tape.specs.declared.fault.Kind.{Kind}
use Rattle.diva_tape.specs.declared.fault.Kind.TheVariants.{Word, NumberCount, ClaimCount}

abbrev pub tape_kind_number : Kind → ℕ
tape_kind_number Word = 1
tape_kind_number NumberCount = 2
tape_kind_number ClaimCount = 3

-- The kinds of faults of a line of injections, and their numbers.
-- Cited in `Injections.antt`, for `Injections::read`.
use Rattle.std.specs.Prelude.{ℕ}
use Rattle.diva_rate.specs.declared.fault.Kind.{Kind}
use Rattle.diva_rate.specs.declared.fault.Kind.TheVariants.{CellCount, Number, Word, LineCount}

abbrev pub rate_kind_number : Kind → ℕ
rate_kind_number CellCount = 1
rate_kind_number Number = 2
rate_kind_number Word = 3
rate_kind_number LineCount = 4

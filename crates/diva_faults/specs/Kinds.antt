-- The kinds of faults of a script's line, and their numbers.
-- Cited in `Reading.antt`, for `Script::read`.
use Rattle.std.specs.Prelude.{ℕ}
use Rattle.diva_outside.specs.declared.next_words.WordFault.{WordFault}
use Rattle.diva_outside.specs.declared.next_words.WordFault.TheVariants.{Count, Unreadable}
use Rattle.diva_faults.specs.declared.fault.Kind.{Kind}
use Rattle.diva_faults.specs.declared.fault.Kind.TheVariants.{Keyword, Number, FieldName, WordCount, RowCount}

-- the kind of what is wrong with a word
abbrev pub kind_of : WordFault → Kind
kind_of Count = WordCount
kind_of Unreadable = Number

abbrev pub script_kind_number : Kind → ℕ
script_kind_number Keyword = 1
script_kind_number Number = 2
script_kind_number FieldName = 3
script_kind_number WordCount = 4
script_kind_number RowCount = 5

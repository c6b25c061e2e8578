-- The kinds of faults of a command's line, and their numbers.
-- Cited in `Reading.antt`, for `commands`.
use Rattle.std.specs.Prelude.{ℕ}
use Rattle.diva_outside.specs.declared.next_words.WordFault.{WordFault}
use Rattle.diva_outside.specs.declared.next_words.WordFault.TheVariants.{Count, Unreadable}
use Rattle.diva_debug.specs.declared.fault.Kind.{Kind}
use Rattle.diva_debug.specs.declared.fault.Kind.TheVariants.{Unknown, Number, WordCount}

-- the kind of what is wrong with a word
abbrev pub kind_of : WordFault → Kind
kind_of Count = WordCount
kind_of Unreadable = Number

abbrev pub command_kind_number : Kind → ℕ
command_kind_number Unknown = 1
command_kind_number Number = 2
command_kind_number WordCount = 3

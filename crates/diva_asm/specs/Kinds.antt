-- The kinds of a source's faults, by number.
-- Cited in `Sources.antt`, for `assemble`.
use Rattle.std.specs.Prelude.{ℕ}
use Rattle.diva_asm.specs.declared.fault.Kind.{Kind}
use Rattle.diva_asm.specs.declared.fault.Kind.TheVariants.{UnknownMnemonic, WrongShape, NoRegister, BadNumber, UndefinedName, RepeatedLabel, BadOffset, Misaligned, BadDirective, TooManyBytes, NoImage}

abbrev pub source_kind_number : Kind → ℕ
-- an unknown mnemonic or directive
source_kind_number UnknownMnemonic = 1
-- the operands have another number or shape, or the line is none of the forms
source_kind_number WrongShape = 2
-- no register where one must stand
source_kind_number NoRegister = 3
-- a number is unreadable or out of range
source_kind_number BadNumber = 4
-- a name that no label defines
source_kind_number UndefinedName = 5
-- a label that an earlier place defines
source_kind_number RepeatedLabel = 6
-- an offset that is odd or out of range
source_kind_number BadOffset = 7
-- an instruction or .word at an address that is no multiple of 4
source_kind_number Misaligned = 8
-- a directive repeated, or .base behind a label or a byte
source_kind_number BadDirective = 9
-- more than 16,777,216 bytes
source_kind_number TooManyBytes = 10
-- base, size and entry break the rules of an image, or the bytes exceed the size
source_kind_number NoImage = 11

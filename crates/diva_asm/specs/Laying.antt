-- Pass 1: where each label and each statement stands.
-- Cited in `Sources.antt`, for `assemble`.
use Rattle.std.specs.Prelude.{ℕ, ◌+◌, ◌%◌, ◌^◌, ◌==◌, ◌&&◌, ◌||◌, not, nat_lt, Bool, true, false, List, [], ◌∷◌, length, Option, Some, None, Result, Ok, Err, neg_ℤ, pos, is_some, if◌then◌else◌}
use Rattle.std.specs.Int.{cast_signed, w32}
use Rattle.std.specs.Option.{unwrap_or}
use Rattle.diva_image.specs.Layout.{most_size}
use Rattle.diva_outside.specs.Steps.{and_then}
use Rattle.diva_outside.specs.Text.{Text}
use Rattle.diva_asm.specs.Labels.{address_of, with_address}
use Rattle.diva_asm.specs.Texts.{without_comment, labels_of}
use Rattle.diva_asm.specs.Operands.{word_from, is_within}
use Rattle.diva_asm.specs.Statements.{statement_of}
use Rattle.diva_asm.specs.declared.fault.Kind.{Kind}
use Rattle.diva_asm.specs.declared.fault.Kind.TheVariants.{RepeatedLabel, Misaligned, BadDirective, TooManyBytes}
use Rattle.diva_asm.specs.declared.mnemonic.Mnemonic.{Mnemonic}
use Rattle.diva_asm.specs.declared.mnemonic.Mnemonic.TheVariants.{Li, La, Byte, Space, Base, Size, Entry}
use Rattle.diva_asm.specs.declared.operands.Operands.{Operands}
use Rattle.diva_asm.specs.declared.statement.Statement.{Statement}
use Rattle.diva_asm.specs.declared.laying.Laid.{Laid}

-- before the first line
abbrev pub nothing_laid : Laid
nothing_laid = record { labels = []; total = 0; base = None; size = None; has_entry = false }

-- the address of the next byte
abbrev pub here : Laid → ℕ
here laid = (unwrap_or laid.base 0 + laid.total) % 2 ^ 32

-- ---- labels

unfoldable pub with_label : Laid → Text → Result Laid Kind
with_label laid name =
    if is_some (address_of laid.labels name) then Err RepeatedLabel
    else Ok (record laid { labels = with_address laid.labels name (here laid) })

unfoldable pub with_labels : Laid → List Text → Result Laid Kind
with_labels laid [] = Ok laid
with_labels laid (name ∷ names) = and_then (with_label laid name) (λ next. with_labels next names)

-- ---- statements that lay bytes

-- `li` takes one word where its number modulo 2 ^ 32, read signed, has 12 bits
abbrev pub is_short : Operands → Bool
is_short v = is_within (neg_ℤ (pos 2048)) (pos 2047) (cast_signed w32 (word_from v.number))

-- how many bytes a statement lays
unfoldable pub len_of : Mnemonic → Operands → ℕ
len_of Byte v = 1
len_of Space v = word_from v.number
len_of La v = 8
len_of Li v = if is_short v then 4 else 8
-- every other one lays a word
len_of m v = 4

-- it may stand at any address
abbrev pub is_free : Mnemonic → Bool
is_free Byte = true
is_free Space = true
is_free m = false

unfoldable pub with_bytes : Laid → Mnemonic → Operands → Result Laid Kind
with_bytes laid m v =
    let total = laid.total + len_of m v in
    if not (is_free m) && not (here laid % 4 == 0) then Err Misaligned
    else (if nat_lt most_size total then Err TooManyBytes else Ok (record laid { total = total }))

-- ---- all statements

unfoldable pub with_statement : Laid → Mnemonic → Operands → Result Laid Kind
with_statement laid Base v =
    if is_some laid.base || not (length laid.labels == 0) || nat_lt 0 laid.total then Err BadDirective
    else Ok (record laid { base = Some (word_from v.number) })
with_statement laid Size v =
    if is_some laid.size then Err BadDirective else Ok (record laid { size = Some (word_from v.number) })
with_statement laid Entry v =
    if laid.has_entry then Err BadDirective else Ok (record laid { has_entry = true })
-- every other one lays bytes
with_statement laid m v = with_bytes laid m v

-- ---- lines

-- a statement, or none
abbrev pub with_any : Laid → Option Statement → Result Laid Kind
with_any laid None = Ok laid
with_any laid (Some s) = with_statement laid s.mnemonic s.operands

abbrev pub with_statement_of : Laid → Text → Result Laid Kind
with_statement_of laid text = and_then (statement_of text) (λ s. with_any laid s)

-- labels, then a statement or none
unfoldable pub with_text : Laid → Text → Result Laid Kind
with_text laid text = and_then (with_labels laid (labels_of text).names) (λ next. with_statement_of next (labels_of text).rest)

abbrev pub with_line : Laid → Text → Result Laid Kind
with_line laid line = with_text laid (without_comment line)

-- The lists of a tape, or its first fault.
-- Cited by `Tape::read` and `tape_piece`.
use Rattle.std.specs.Prelude.{ℕ, ◌==◌, nat_le, Bool, List, [], ◌∷◌, ◌++◌, length, Option, Some, None, option_map, option_and_then, Result, Ok, Err, if◌then◌else◌}
use Rattle.std.specs.List.{before_first, slice_split}
use Rattle.std.specs.Option.{ok_or}
use Rattle.diva_isa.specs.declared.record.Record.{Record}
use Rattle.diva_outside.specs.Lines.{LineFault, fold_lines}
use Rattle.diva_outside.specs.Numbers.{hex_of}
use Rattle.diva_outside.specs.Steps.{and_then}
use Rattle.diva_outside.specs.Text.{Text}
use Rattle.diva_outside.specs.Words.{begins_comment, words_of}
use Rattle.diva_tape.specs.declared.fault.Kind.{Kind}
use Rattle.diva_tape.specs.declared.fault.Kind.TheVariants.{Word, NumberCount, ClaimCount}
use Rattle.diva_tape.specs.Kinds.{tape_kind_number}

-- what a rule makes of each, in order; `None` where it makes nothing of some
abbrev pub all_by : {A B : Type 0} → (A → Option B) → List A → Option (List B)
all_by rule [] = Some []
all_by rule (x ∷ xs) = option_and_then (λ y. option_map (λ ys. y ∷ ys) (all_by rule xs)) (rule x)

-- ---- one line

-- `;` stands between two claims
abbrev pub separates : ℕ → Bool
separates b = b == 59

-- the parts of a line, its comment left out
abbrev pub parts_of : Text → List Text
parts_of line = slice_split separates (before_first begins_comment line)

-- the record of eight numbers, in the order of its fields
abbrev pub record_from : List ℕ → Option Record
record_from (pc ∷ word ∷ src1 ∷ src2 ∷ addr ∷ value ∷ next ∷ end ∷ []) =
    Some (record { pc = pc; word = word; src1 = src1; src2 = src2; addr = addr; value = value; next = next; end = end })
record_from numbers = None

-- the claims of some parts; or the first of these: a word is no hex number, a part has other than eight numbers, there are
-- more than eight parts
unfoldable pub list_from : List Text → Result (List Record) Kind
list_from parts =
    and_then (ok_or (all_by (λ part. all_by hex_of (words_of part)) parts) Word) (λ numbers.
    and_then (ok_or (all_by record_from numbers) NumberCount) (λ list.
    if nat_le (length list) 8 then Ok list else Err ClaimCount))

-- the list of a line: nothing where it has no words
unfoldable pub list_in : Text → Result (List Record) Kind
list_in line = if length (words_of line) == 0 then Ok [] else list_from (parts_of line)

-- ---- all lines

-- the lists so far, and that of one more line
abbrev pub with_line : List (List Record) → Text → Result (List (List Record)) Kind
with_line lists line = and_then (list_in line) (λ list. Ok (lists ++ list ∷ []))

-- the lists of a tape, one for each line, or its first fault
unfoldable pub tape_of : Text → Result (List (List Record)) LineFault
tape_of text = fold_lines tape_kind_number with_line [] text

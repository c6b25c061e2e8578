-- The rows of a script, or its first fault. A line's words are read from the left, each by a rule that gives what the first word
-- says, or the kind of its fault.
-- Cited by `Script::read`.
use Rattle.std.specs.Prelude.{ℕ, nat_lt, List, [], ◌∷◌, codes, find, Option, Some, None, Result, Ok, Err, if◌then◌else◌}
use Rattle.std.specs.Option.{ok_or}
use Rattle.std.specs.Str.{bytes_eq}
use Rattle.diva_core.specs.declared.differences.Field.{Field}
use Rattle.diva_core.specs.Difference.{all_fields, field_name}
use Rattle.diva_outside.specs.Items.{items_of}
use Rattle.diva_outside.specs.Lines.{LineFault}
use Rattle.diva_outside.specs.NextWords.{and_no_more, hex_in, number_in, with_first}
use Rattle.diva_outside.specs.Steps.{and_then}
use Rattle.diva_outside.specs.Text.{Text}
use Rattle.diva_faults.specs.declared.fault.Kind.{Kind}
use Rattle.diva_faults.specs.declared.fault.Kind.TheVariants.{Keyword, FieldName, WordCount, RowCount}
use Rattle.diva_faults.specs.declared.rows.Change.{Change}
use Rattle.diva_faults.specs.declared.rows.Change.TheVariants.{Flip, Set, Lose, Double}
use Rattle.diva_faults.specs.declared.rows.Row.{Row}
use Rattle.diva_faults.specs.declared.rows.Row.TheVariants.{Lane, Hush}
use Rattle.diva_faults.specs.Kinds.{kind_of, script_kind_number}

-- the first word as the name of a field
unfoldable pub field_in : List Text → Result Field Kind
field_in [] = Err WordCount
field_in (word ∷ words) = ok_or (find (λ field. bytes_eq word (field_name field)) all_fields) FieldName

-- ---- one row

-- after flip: FIELD B
unfoldable pub flip_in : List Text → Result Change Kind
flip_in words =
    with_first field_in words (λ field words.
    with_first (number_in kind_of 0 31) words (λ bit words.
    and_no_more kind_of (Flip field bit) words))

-- after set: FIELD H
unfoldable pub set_in : List Text → Result Change Kind
set_in words =
    with_first field_in words (λ field words.
    with_first (hex_in kind_of) words (λ value words.
    and_no_more kind_of (Set field value) words))

-- flip FIELD B, set FIELD H, lose or double
unfoldable pub change_in : List Text → Result Change Kind
change_in [] = Err WordCount
change_in (word ∷ words) =
    if bytes_eq word (codes "flip") then flip_in words
    else (if bytes_eq word (codes "set") then set_in words
    else (if bytes_eq word (codes "lose") then and_no_more kind_of Lose words
    else (if bytes_eq word (codes "double") then and_no_more kind_of Double words
    else Err Keyword)))

-- after lane: L and a change
unfoldable pub lane_in : ℕ → List Text → Result Row Kind
lane_in cycle words =
    with_first (number_in kind_of 0 7) words (λ lane words.
    and_then (change_in words) (λ change. Ok (Lane cycle lane change)))

-- after hush: K
unfoldable pub hush_in : ℕ → List Text → Result Row Kind
hush_in cycle words =
    with_first (number_in kind_of 1 1000000000) words (λ cycles words.
    and_no_more kind_of (Hush cycle cycles) words)

-- after at C: lane L and a change, or hush K
unfoldable pub part_in : ℕ → List Text → Result Row Kind
part_in cycle [] = Err WordCount
part_in cycle (word ∷ words) =
    if bytes_eq word (codes "lane") then lane_in cycle words
    else (if bytes_eq word (codes "hush") then hush_in cycle words
    else Err Keyword)

-- at C, and what follows
unfoldable pub row_in : Text → List Text → Result Row Kind
row_in word words =
    if bytes_eq word (codes "at") then with_first (number_in kind_of 1 1000000000) words part_in
    else Err Keyword

-- ---- all rows

abbrev pub most_rows : ℕ
most_rows = 4096

-- the kind of the fault of a row that is one too many behind so many
abbrev pub surplus_row : ℕ → Option Kind
surplus_row count = if nat_lt count most_rows then None else Some RowCount

-- the rows of a script in their order, or its first fault
unfoldable pub script_of : Text → Result (List Row) LineFault
script_of text = items_of script_kind_number row_in surplus_row text

-- The lines of injections: what each says, and what is kept of them.
-- Cited by `Injections::new` and `Injections::read`.
use Rattle.std.specs.Prelude.{ℕ, ◌+◌, ◌-◌, ◌^◌, ◌==◌, ◌||◌, nat_lt, Bool, List, [], ◌∷◌, ◌++◌, length, codes, Result, Ok, Err, if◌then◌else◌}
use Rattle.std.specs.List.{list_any}
use Rattle.std.specs.Str.{bytes_eq}
use Rattle.diva_outside.specs.Lines.{LineFault, fold_lines}
use Rattle.diva_outside.specs.Steps.{and_then}
use Rattle.diva_outside.specs.Text.{Text}
use Rattle.diva_rate.specs.Cells.{answer_of, bit_of, cells_of, ending_of, field_of, if_filled, is_empty, model_of, number_of, with_cell}
use Rattle.diva_rate.specs.Kinds.{rate_kind_number}
use Rattle.diva_rate.specs.declared.fault.Kind.{Kind}
use Rattle.diva_rate.specs.declared.fault.Kind.TheVariants.{CellCount, LineCount}
use Rattle.diva_rate.specs.declared.injection.Effect.{Effect}
use Rattle.diva_rate.specs.declared.injection.Injection.{Injection}

-- ---- a line

-- hit, flushes, latency, cycles, same, open, open_place, and open_end, which may be any text
unfoldable pub effect_in : List Text → Result Effect Kind
effect_in cells =
    with_cell answer_of cells (λ hit cells.
    with_cell number_of cells (λ flushes cells.
    with_cell (if_filled number_of) cells (λ latency cells.
    with_cell number_of cells (λ cycles cells.
    with_cell answer_of cells (λ same cells.
    with_cell ending_of cells (λ ending cells.
    with_cell (if_filled number_of) cells (λ place cells.
    Ok (record { hit = hit; flushes = flushes; latency = latency; cycles = cycles; same = same; ending = ending }))))))))

-- fault, model, cycle, lane, field, bit, and what became of the run
unfoldable pub injection_in : List Text → Result Injection Kind
injection_in cells =
    with_cell number_of cells (λ fault cells.
    with_cell model_of cells (λ model cells.
    with_cell number_of cells (λ cycle cells.
    with_cell (if_filled number_of) cells (λ lane cells.
    with_cell (if_filled field_of) cells (λ field cells.
    with_cell (if_filled bit_of) cells (λ bit cells.
    and_then (effect_in cells) (λ effect.
    Ok (record { fault = fault; model = model; field = field; bit = bit; effect = effect }))))))))

-- what a line of 14 cells says
unfoldable pub injection_of : Text → Result Injection Kind
injection_of line = if length (cells_of line) == 14 then injection_in (cells_of line) else Err CellCount

-- ---- what is kept of lines

-- the lines that are counted, which are the first of each fault, in their order; and how many further lines there were
pub record Injections : Type 0 where
  pub lines : List Injection
  pub twice : ℕ

abbrev pub no_injections : Injections
no_injections = record { lines = []; twice = 0 }

-- a line with this fault is counted already
abbrev pub has_fault : List Injection → ℕ → Bool
has_fault lines fault = list_any (λ line. line.fault == fault) lines

-- one line more
abbrev pub with_injection : Injections → Injection → Injections
with_injection kept line =
    if has_fault kept.lines line.fault then record kept { twice = kept.twice + 1 }
    else record kept { lines = kept.lines ++ line ∷ [] }

-- there is room for one more line
abbrev pub has_room : Injections → Bool
has_room kept = nat_lt (length kept.lines + kept.twice) (2 ^ 32 - 2)

abbrev pub if_room : Injections → Injection → Result Injections Kind
if_room kept line = if has_room kept then Ok (with_injection kept line) else Err LineCount

-- the first line of a text of injections
abbrev pub head_line : Text
head_line = codes "fault,model,cycle,lane,field,bit,hit,flushes,latency,cycles,same,open,open_place,open_end"

-- a line that says nothing: it is empty, or names the columns
abbrev pub is_skipped : Text → Bool
is_skipped line = is_empty line || bytes_eq line head_line

-- one more line of a text
unfoldable pub with_line : Injections → Text → Result Injections Kind
with_line kept line = if is_skipped line then Ok kept else and_then (injection_of line) (if_room kept)

-- what the lines of one more text make of what is kept, or the first fault
unfoldable pub with_text : Injections → Text → Result Injections LineFault
with_text kept text = fold_lines rate_kind_number with_line kept text

-- The lines of the program's text, each with its line feed.
-- Cited by the calls of the same names, as `commit_line` and `flush_line`; in `Text.antt`, for `write_tally`.
use Rattle.std.specs.Prelude.{ℕ, ◌+◌, List, ◌++◌, slice_index, codes, Option, Some, None}
use Rattle.std.specs.Fmt.{decimal}
use Rattle.std.specs.List.{flat_map, range_with_len}
use Rattle.diva_memory.specs.Bytes.{Bytes, byte_at}
use Rattle.diva_isa.specs.End.{end_of}
use Rattle.diva_isa.specs.declared.end.End.{End}
use Rattle.diva_isa.specs.declared.end.End.TheVariants.{GoesOn, Halt, Trap}
use Rattle.diva_isa.specs.declared.record.Record.{Record}
use Rattle.diva_core.specs.Difference.{all_fields, field_name, field_of}
use Rattle.diva_core.specs.declared.differences.Field.{Field}
use Rattle.diva_core.specs.declared.flushes.Cause.{Cause}
use Rattle.diva_core.specs.declared.flushes.Cause.TheVariants.{Differs, Silent}
use Rattle.diva_core.specs.declared.flushes.FlushRow.{FlushRow}
use Rattle.diva_outside.specs.Text.{hex_byte, hex_word}
use Rattle.diva_trace.specs.declared.report.SoakCore.{SoakCore}
use Rattle.diva_trace.specs.declared.report.SoakCore.TheVariants.{Scalar, Own}

-- ---- what was committed, and what was flushed

-- some fields of a record, a blank before each
abbrev pub fields_text : List Field → Record → List ℕ
fields_text fields r = flat_map (λ field. codes " " ++ hex_word (field_of field r)) fields

-- an instruction by its number, and all fields of its record
unfoldable pub commit_line : ℕ → Record → List ℕ
commit_line index r = decimal index ++ fields_text all_fields r ++ codes "\n"

-- the field in which a claim differed, with what was claimed and what was due; or the watchdog's limit
abbrev pub cause_text : Cause → List ℕ
cause_text (Differs d) = field_name d.field ++ codes " claimed " ++ hex_word d.claimed ++ codes " due " ++ hex_word d.due
cause_text (Silent limit) = codes "silent " ++ decimal limit

-- a flush: its cycle, the instructions committed by then, and its cause
unfoldable pub flush_line : FlushRow → List ℕ
flush_line row = codes "flush " ++ decimal row.cycle ++ codes " at " ++ decimal row.at ++ codes " " ++ cause_text row.cause ++ codes "\n"

-- ---- how a run came out

-- a hart, by its number
unfoldable pub hart_line : ℕ → List ℕ
hart_line n = codes "hart " ++ decimal n ++ codes "\n"

-- how a state has ended: not at all, in a trap, or with a halt's status
abbrev pub end_text : End → List ℕ
end_text GoesOn = codes "none"
end_text (Trap n) = codes "trap " ++ decimal n
end_text (Halt status) = codes "halt " ++ decimal status

unfoldable pub end_line_of : End → List ℕ
end_line_of end = codes "end " ++ end_text end ++ codes "\n"

-- the same, of a state's end as a number
abbrev pub end_line : ℕ → List ℕ
end_line end = end_line_of (end_of end)

-- the instructions committed
unfoldable pub count_line : ℕ → List ℕ
count_line n = codes "count " ++ decimal n ++ codes "\n"

-- the cycles run
unfoldable pub cycles_line : ℕ → List ℕ
cycles_line n = codes "cycles " ++ decimal n ++ codes "\n"

-- the flushes, and how many of them were silent
unfoldable pub flushes_line : ℕ → ℕ → List ℕ
flushes_line n silent = codes "flushes " ++ decimal n ++ codes " silent " ++ decimal silent ++ codes "\n"

-- the name of a core under which `soak` runs its image
abbrev pub soak_core_name : SoakCore → List ℕ
soak_core_name Scalar = codes "scalar"
soak_core_name Own = codes "own"

-- a run of `soak`: its core, the instructions committed, the cycles run, and the flushes
unfoldable pub soak_line : SoakCore → (count cycles flushes : ℕ) → List ℕ
soak_line core count cycles flushes =
    soak_core_name core ++ codes " count " ++ decimal count ++ codes " cycles " ++ decimal cycles ++ codes " flushes " ++ decimal flushes ++ codes "\n"

-- of a campaign: its runs, and of these the ones that left what the first run left, those with a flush, and those with a silent one
unfoldable pub runs_line : ℕ → List ℕ
runs_line n = codes "runs " ++ decimal n ++ codes "\n"

unfoldable pub same_line : ℕ → List ℕ
same_line n = codes "same " ++ decimal n ++ codes "\n"

unfoldable pub flushed_line : ℕ → List ℕ
flushed_line n = codes "flushed " ++ decimal n ++ codes "\n"

unfoldable pub silent_line : ℕ → List ℕ
silent_line n = codes "silent " ++ decimal n ++ codes "\n"

-- how many bytes the program put out
unfoldable pub output_line : ℕ → List ℕ
output_line n = codes "output " ++ decimal n ++ codes "\n"

-- some of these bytes
unfoldable pub out_line : List ℕ → List ℕ
out_line bytes = codes "out " ++ flat_map hex_byte bytes ++ codes "\n"

-- ---- the state that was left

-- a register's name, and the word in it
abbrev pub register_text : List ℕ → ℕ → List ℕ
register_text regs n = codes "x" ++ decimal n ++ codes " " ++ hex_word (slice_index regs n)

-- four registers, from one on
unfoldable pub registers_line : List ℕ → ℕ → List ℕ
registers_line regs first =
    register_text regs first ++ codes " " ++ register_text regs (first + 1) ++ codes " "
    ++ register_text regs (first + 2) ++ codes " " ++ register_text regs (first + 3) ++ codes "\n"

-- the pc
unfoldable pub pc_line : ℕ → List ℕ
pc_line pc = codes "pc " ++ hex_word pc ++ codes "\n"

-- a byte of memory, or two dots where the address is outside
abbrev pub byte_text : Option ℕ → List ℕ
byte_text (Some byte) = hex_byte byte
byte_text None = codes ".."

-- the n bytes from an address on
unfoldable pub mem_line : Bytes → ℕ → ℕ → List ℕ
mem_line m addr n = codes "mem " ++ hex_word addr ++ codes " " ++ flat_map (λ a. byte_text (byte_at m a)) (range_with_len addr n) ++ codes "\n"

-- A run as a log in the Kanata format, version 4, which the Konata viewer reads. Fields are separated by tabs.
-- Cited by `begin_log` and `Pen::log_cycle`.
use Rattle.std.specs.Prelude.{ℕ, zero, suc, ◌+◌, ◌-◌, ◌==◌, List, [], ◌++◌, length, drop, slice_get, codes, Bool, false, is_some, Option, Some, None, if◌then◌else◌}
use Rattle.std.specs.Fmt.{decimal}
use Rattle.std.specs.List.{concat, flat_map, range_with_len}
use Rattle.std.specs.Option.{option_map_or}
use Rattle.diva_isa.specs.declared.record.Record.{Record}
use Rattle.diva_core.specs.declared.differences.Diff.{Diff}
use Rattle.diva_core.specs.declared.differences.Field.{Field}
use Rattle.diva_core.specs.declared.flushes.Cause.{Cause}
use Rattle.diva_core.specs.declared.flushes.Cause.TheVariants.{Differs}
use Rattle.diva_core.specs.declared.flushes.FlushRow.{FlushRow}
use Rattle.diva_drawing.specs.declared.snapshot.SnapshotClaim.{SnapshotClaim}
use Rattle.diva_core.specs.Difference.{all_fields, field_name, field_of}
use Rattle.diva_core.specs.Stages.{stage_at}
use Rattle.diva_core.specs.Timed.{depth}
use Rattle.diva_outside.specs.Text.{Text, hex_word}
use Rattle.diva_asm.specs.Listing.{list_line}
use Rattle.diva_trace.specs.Lines.{cause_text}
use Rattle.diva_trace.specs.Text.{numbered}
use Rattle.diva_drawing.specs.Snapshot.{Snapshot}
use Rattle.diva_drawing.specs.Rows.{accepted_claims, begun_rows, committed_rows, dropped_rows, open_rows}
use Rattle.diva_drawing.specs.declared.snapshot.SnapshotSolo.{SnapshotSolo}
use Rattle.diva_drawing.specs.declared.rows.Ending.{Ending}
use Rattle.diva_drawing.specs.declared.rows.Ending.TheVariants.{Commits, Flushes, Drops, Stays}

-- ---- lines

-- the first lines: the format, and the cycle 0
unfoldable pub log_begin : Text
log_begin = codes "Kanata\t0004\nC=\t0\n"

-- the next cycle
abbrev pub cycle_line : Text
cycle_line = codes "C\t1\n"

-- a row begins
unfoldable pub row_line : (row : ℕ) → Text
row_line row = codes "I\t" ++ decimal row ++ codes "\t" ++ decimal row ++ codes "\t0\n"

-- what stands beside it: its place, and what the listing has of the word at its pc
unfoldable pub place_lead : (row place : ℕ) → Text
place_lead row place = codes "L\t" ++ decimal row ++ codes "\t0\t" ++ decimal place ++ codes ": "

-- what else is shown of it begins so
unfoldable pub note_lead : (row : ℕ) → Text
note_lead row = codes "L\t" ++ decimal row ++ codes "\t1\t"

-- the fields of a record but pc and word, each with its name
abbrev pub other_fields : List Field
other_fields = drop 2 all_fields

abbrev pub named_fields : List Field → Record → Text
named_fields fields r = flat_map (λ field. codes " " ++ field_name field ++ codes " " ++ hex_word (field_of field r)) fields

unfoldable pub fields_line : (row : ℕ) → Record → Text
fields_line row r = note_lead row ++ codes "record" ++ named_fields other_fields r ++ codes "\n"

-- in a line of its own below: the field in which a claim differs, or the cause of a flush
unfoldable pub cause_line : (row : ℕ) → Cause → Text
cause_line row cause = note_lead row ++ codes "\\n" ++ cause_text cause ++ codes "\n"

-- the row passes through this stage from now on
unfoldable pub stage_line : (row : ℕ) → (stage : Text) → Text
stage_line row stage = codes "S\t" ++ decimal row ++ codes "\t0\t" ++ stage ++ codes "\n"

-- how a row ends: it commits, or else it is dropped
abbrev pub ending_number : Ending → ℕ
ending_number Commits = 0
ending_number Flushes = 1
ending_number Drops = 1
ending_number Stays = 1

-- a row ends
unfoldable pub end_line : Ending → (row place : ℕ) → Text
end_line ending row place =
    codes "R\t" ++ decimal row ++ codes "\t" ++ decimal place ++ codes "\t" ++ decimal (ending_number ending) ++ codes "\n"

-- ---- the parts of a cycle

-- so many rows end, one behind the other
abbrev pub end_lines : Ending → (row place count : ℕ) → List Text
end_lines ending row place count = numbered count (λ n. end_line ending (row + n) (place + n))

-- a row begins, in this stage
abbrev pub begun_text : (stage : Text) → (row place : ℕ) → Record → Text
begun_text stage row place r =
    row_line row ++ (place_lead row place ++ list_line r.pc r.word) ++ fields_line row r ++ stage_line row stage

-- it begins at age 0, in this stage, passes through the checker's stages by its age, and is ready after them
abbrev pub stage_text : (first : Text) → (row place : ℕ) → Record → (age : ℕ) → Text
stage_text first row place r zero = begun_text first row place r
stage_text first row place r (suc age) =
    option_map_or (λ stage. stage_line row stage.name) (stage_at (suc age)) (if suc age == depth then stage_line row (codes "ready") else [])

-- whether a verdict had been noted of a claim, if it was pending already
abbrev pub was_noted : Option SnapshotClaim → Bool
was_noted None = false
was_noted (Some e) = is_some e.verdict

-- the verdict of a claim where it is noted in this cycle
abbrev pub noted_text : (row : ℕ) → (before : Bool) → Option Diff → Text
noted_text row before None = []
noted_text row before (Some d) = if before then [] else cause_line row (Differs d)

-- a pending claim, if there is one
abbrev pub claim_text : (row place now : ℕ) → (noted : Bool) → Option SnapshotClaim → Text
claim_text row place now noted None = []
claim_text row place now noted (Some c) =
    stage_text (codes "accepted") row place c.claim (now - c.cycle) ++ noted_text row noted c.verdict

-- the pending claims, the oldest first; `was` are those of them that were pending before the cycle
abbrev pub claims_text : (row place now : ℕ) → (was claims : List SnapshotClaim) → Text
claims_text row place now was claims =
    flat_map (λ n. claim_text (row + n) (place + n) now (was_noted (slice_get was n)) (slice_get claims n)) (range_with_len 0 (length claims))

-- the cause of the flush that started an instruction solo, where it starts in this cycle
abbrev pub flush_text : (row age : ℕ) → Option FlushRow → Text
flush_text row zero None = []
flush_text row zero (Some flush) = cause_line row flush.cause
flush_text row (suc age) newest = []

-- the instruction that runs solo, if one does
abbrev pub solo_text : (row place now : ℕ) → Option FlushRow → Option SnapshotSolo → Text
solo_text row place now newest None = []
solo_text row place now newest (Some solo) =
    stage_text (codes "solo") row place solo.due (now - solo.since) ++ flush_text row (now - solo.since) newest

-- the claims that were handed over and not accepted, in lines of their own below the newest row
abbrev pub surplus_text : (row : ℕ) → List Record → Text
surplus_text row claims = flat_map (λ r. (note_lead row ++ codes "\\ndropped ") ++ list_line r.pc r.word) claims

-- ---- a cycle

-- what goes on behind a cycle, or begins in it: `row` is the number of the oldest such row
unfoldable pub open_text : (row : ℕ) → (before after : Snapshot) → (handed : List Record) → Text
open_text row before after handed =
    cycle_line
    ++ claims_text row after.count after.cycles (drop (committed_rows before after) before.claims) after.claims
    ++ solo_text row after.count after.cycles after.newest after.solo
    ++ surplus_text (row + open_rows after - 1) (drop (accepted_claims before after) handed)

-- the rows that end in a cycle: `row` is the number of the oldest that was open
unfoldable pub ended_text : (row : ℕ) → (before after : Snapshot) → Text
ended_text row before after =
    concat (end_lines Commits row before.count (committed_rows before after))
    ++ concat (end_lines Drops (row + committed_rows before after) after.count (dropped_rows before after))

-- the lines of a cycle; `rows` have begun before it
abbrev pub log_cycle : (rows : ℕ) → (before after : Snapshot) → (handed : List Record) → Text
log_cycle rows before after handed =
    open_text (rows + begun_rows before after - open_rows after) before after handed
    ++ ended_text (rows - open_rows before) before after

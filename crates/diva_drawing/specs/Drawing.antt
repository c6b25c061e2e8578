-- A run as a drawing in text: a row for each claim that became pending, and for each instruction that was started solo; a column of three
-- bytes for each cycle of an excerpt. A row is drawn where it ends, and those that are open at the end of the run there, if they have a
-- cell in the excerpt; the scale stands below them.
-- Cited by `Pen::draw_cycle` and `end_drawing`.
use Rattle.std.specs.Prelude.{ℕ, zero, suc, ◌+◌, ◌-◌, ◌%◌, ◌==◌, ◌&&◌, not, nat_lt, List, [], ◌∷◌, ◌++◌, length, map, take, drop, codes, Bool, true, false, Option, Some, None, if◌then◌else◌}
use Rattle.std.specs.Fmt.{decimal}
use Rattle.std.specs.List.{concat, flat_map}
use Rattle.std.specs.Option.{option_map_or}
use Rattle.diva_isa.specs.declared.record.Record.{Record}
use Rattle.diva_core.specs.declared.flushes.FlushRow.{FlushRow}
use Rattle.diva_drawing.specs.declared.snapshot.SnapshotClaim.{SnapshotClaim}
use Rattle.diva_core.specs.Cycle.{is_silent}
use Rattle.diva_core.specs.Stages.{stage_at}
use Rattle.diva_outside.specs.Text.{Text}
use Rattle.diva_asm.specs.Listing.{list_line}
use Rattle.diva_trace.specs.Text.{numbered}
use Rattle.diva_drawing.specs.Snapshot.{Snapshot}
use Rattle.diva_drawing.specs.Rows.{committed_rows, dropped_rows}
use Rattle.diva_drawing.specs.declared.snapshot.SnapshotSolo.{SnapshotSolo}
use Rattle.diva_drawing.specs.declared.rows.Ending.{Ending}
use Rattle.diva_drawing.specs.declared.rows.Ending.TheVariants.{Commits, Flushes, Drops, Stays}
use Rattle.diva_drawing.specs.declared.rows.DrawnRow.{DrawnRow}
use Rattle.diva_drawing.specs.declared.excerpt.Excerpt.{Excerpt}

-- ---- the cycles that are drawn

-- of what stands for each cycle of a run, that of the cycles of an excerpt: cycles count from 1
abbrev pub in_excerpt : Excerpt → List Text → List Text
in_excerpt excerpt columns = drop (excerpt.from - 1) (take excerpt.to columns)

-- ---- a row

-- as many blanks as the name of a row has bytes
unfoldable pub blanks : Text
blanks = codes "                          "

-- a text with blanks behind it
abbrev pub padded : Text → Text
padded text = text ++ drop (length text) blanks

-- what a line of the listing has behind the address and the digits, without its line feed
abbrev pub listed_in : Text → Text
listed_in line = drop 18 (take (length line - 1) line)

-- the name of a row
abbrev pub name_text : Record → Text
name_text r = padded (listed_in (list_line r.pc r.word))

-- the letter of a row at an age: it begins, passes through the checker's stages, and waits
abbrev pub letter : (solo : Bool) → (age : ℕ) → ℕ
letter false zero = 0x41
letter true zero = 0x53
letter solo (suc age) = option_map_or (λ stage. stage.letter) (stage_at (suc age)) 0x2e

-- its letter in its last cycle: it commits, it flushes, it is dropped, or it stays
abbrev pub last_letter : (stays : ℕ) → Ending → ℕ
last_letter stays Commits = 0x43
last_letter stays Flushes = 0x21
last_letter stays Drops = 0x2d
last_letter stays Stays = stays

-- the cell of a cycle
abbrev pub cell : DrawnRow → (cycle : ℕ) → Text
cell row cycle =
    if nat_lt cycle row.since then codes "   "
    else (0x20 ∷ 0x20 ∷ (if cycle == row.last then last_letter (letter row.solo (cycle - row.since)) row.ending
    else letter row.solo (cycle - row.since)) ∷ [])

-- the cells up to the last one, in the excerpt
abbrev pub cells : Excerpt → DrawnRow → List Text
cells excerpt row = in_excerpt excerpt (numbered row.last (λ n. cell row (n + 1)))

-- the row has begun by the end of the excerpt, and has not ended before it
abbrev pub meets : Excerpt → DrawnRow → Bool
meets excerpt row = not (nat_lt excerpt.to row.since) && not (nat_lt row.last excerpt.from)

unfoldable pub row_text : Excerpt → DrawnRow → Text
row_text excerpt row = if meets excerpt row then name_text row.claim ++ concat (cells excerpt row) ++ codes "\n" else []

-- ---- the rows of a cycle

-- the row of a claim that was pending, until a cycle
abbrev pub claim_row : (last : ℕ) → Ending → SnapshotClaim → DrawnRow
claim_row last ending e = record { claim = e.claim; since = e.cycle; solo = false; last = last; ending = ending }

-- that of an instruction that ran solo
abbrev pub solo_row : (last : ℕ) → Ending → SnapshotSolo → DrawnRow
solo_row last ending solo = record { claim = solo.due; since = solo.since; solo = true; last = last; ending = ending }

-- the machine flushed in the cycle since the claim in front differed
abbrev pub has_differed : (newest : Option FlushRow) → Bool
has_differed None = false
has_differed (Some flush) = not (is_silent flush.cause)

-- how the first of the claims that are dropped ends, and each other one
abbrev pub first_drop : (before after : Snapshot) → Ending
first_drop before after = if not (after.flushes == before.flushes) && has_differed after.newest then Flushes else Drops

-- claims that are dropped, the first of which ends so
abbrev pub dropped_claim_rows : (last : ℕ) → Ending → List SnapshotClaim → List DrawnRow
dropped_claim_rows last ending [] = []
dropped_claim_rows last ending (c ∷ claims) = claim_row last ending c ∷ map (claim_row last Drops) claims

-- the row of an instruction that ran solo, if one did
abbrev pub solo_rows : (last : ℕ) → Ending → Option SnapshotSolo → List DrawnRow
solo_rows last ending None = []
solo_rows last ending (Some solo) = solo_row last ending solo ∷ []

-- the instruction that ran solo and committed in a cycle, if one did; the claims that committed; and those that were dropped
abbrev pub ended_solo : (before after : Snapshot) → Option SnapshotSolo
ended_solo before after = if committed_rows before after == 0 then None else before.solo

abbrev pub committed_claims : (before after : Snapshot) → List SnapshotClaim
committed_claims before after = take (committed_rows before after) before.claims

abbrev pub dropped_claims : (before after : Snapshot) → List SnapshotClaim
dropped_claims before after = take (dropped_rows before after) (drop (committed_rows before after) before.claims)

-- ---- the text

abbrev pub rows_text : Excerpt → List DrawnRow → Text
rows_text excerpt rows = flat_map (row_text excerpt) rows

-- the rows that end in a cycle
unfoldable pub drawn_cycle : Excerpt → (before after : Snapshot) → Text
drawn_cycle excerpt before after =
    rows_text excerpt (solo_rows after.cycles Commits (ended_solo before after))
    ++ rows_text excerpt (map (claim_row after.cycles Commits) (committed_claims before after))
    ++ rows_text excerpt (dropped_claim_rows after.cycles (first_drop before after) (dropped_claims before after))

-- a cycle's number, its last two digits
abbrev pub number_cell : ℕ → Text
number_cell cycle = if nat_lt (cycle % 100) 10 then codes "  " ++ decimal (cycle % 100) else codes " " ++ decimal (cycle % 100)

-- the numbers of all cycles up to the last one, in the excerpt
abbrev pub scale : Excerpt → (last : ℕ) → List Text
scale excerpt last = in_excerpt excerpt (numbered last (λ n. number_cell (n + 1)))

-- the scale
unfoldable pub scale_text : Excerpt → (last : ℕ) → Text
scale_text excerpt last = padded (codes "cycle") ++ concat (scale excerpt last) ++ codes "\n"

-- the rows that are open behind the last cycle, and the scale
unfoldable pub drawn_end : Excerpt → Snapshot → Text
drawn_end excerpt last =
    rows_text excerpt (solo_rows last.cycles Stays last.solo)
    ++ rows_text excerpt (map (claim_row last.cycles Stays) last.claims)
    ++ scale_text excerpt last.cycles

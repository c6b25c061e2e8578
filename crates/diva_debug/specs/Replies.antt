-- The reply to a command, a line.
-- Cited by `Session::reply` and `reply_to`.
use Rattle.std.specs.Prelude.{ℕ, ◌==◌, ◌&&◌, not, List, ◌++◌, nat_le, codes, Option, Some, None, if◌then◌else◌}
use Rattle.std.specs.Fmt.{decimal}
use Rattle.diva_outside.specs.Text.{Text, hex_word}
use Rattle.diva_isa.specs.State.{State, goes_on, memory_of}
use Rattle.diva_isa.specs.End.{end_of}
use Rattle.diva_isa.specs.declared.end.End.{End}
use Rattle.diva_isa.specs.Step.{steps}
use Rattle.diva_core.specs.declared.flushes.FlushRow.{FlushRow}
use Rattle.diva_trace.specs.Lines.{end_text, flush_line, mem_line, register_text}
use Rattle.diva_debug.specs.Moves.{Standing, standing_after}
use Rattle.diva_debug.specs.declared.command.Command.{Command}
use Rattle.diva_debug.specs.declared.command.Command.TheVariants.{Step, Until, Back, Reg, Mem, Why}

-- ---- lines

-- a word, the place and the pc there
unfoldable pub place_line : (word : Text) → (place pc : ℕ) → Text
place_line word place pc = word ++ decimal place ++ codes " pc " ++ hex_word pc ++ codes "\n"

-- where the machine stands
unfoldable pub at_line : (place pc : ℕ) → Text
at_line place pc = place_line (codes "at ") place pc

-- where it stands after 100,000 steps that did not lead to a pc
unfoldable pub far_line : (place pc : ℕ) → Text
far_line place pc = place_line (codes "far ") place pc

-- how it ended
unfoldable pub ended_line : (place : ℕ) → End → Text
ended_line place end = codes "ended " ++ decimal place ++ codes " " ++ end_text end ++ codes "\n"

-- where it stands, or how it ended
unfoldable pub stop_line : ℕ → State → Text
stop_line place s = if goes_on s then at_line place s.pc else ended_line place (end_of s.end)

-- the same, where it was to stand at a pc
unfoldable pub until_line : (pc : ℕ) → ℕ → State → Text
until_line pc place s = if goes_on s && not (s.pc == pc) then far_line place s.pc else stop_line place s

-- how many undos are kept, which are too few
unfoldable pub kept_line : (kept : ℕ) → Text
kept_line kept = codes "kept " ++ decimal kept ++ codes "\n"

-- where it stands after k instructions were taken back; where fewer undos were kept, how many
unfoldable pub back_line : (k kept : ℕ) → (place pc : ℕ) → Text
back_line k kept place pc = if nat_le k kept then at_line place pc else kept_line kept

-- one register
unfoldable pub register_line : List ℕ → ℕ → Text
register_line regs n = register_text regs n ++ codes "\n"

abbrev pub no_flush : Text
no_flush = codes "no flush\n"

-- the newest flush, if one came
abbrev pub why_line : Option FlushRow → Text
why_line (Some row) = flush_line row
why_line None = no_flush

-- ---- the reply

-- at a place, where the state is s, and the newest flush is this one; `kept` undos were kept before the command
unfoldable pub reply_at : Command → (kept place : ℕ) → State → (newest : Option FlushRow) → Text
reply_at (Step k) kept place s newest = stop_line place s
reply_at (Until pc) kept place s newest = until_line pc place s
reply_at (Back k) kept place s newest = back_line k kept place s.pc
reply_at (Reg n) kept place s newest = register_line s.regs n
reply_at (Mem range) kept place s newest = mem_line (memory_of s) range.addr range.len
reply_at Why kept place s newest = why_line newest

-- told from the state of place 0 and from where the session stood before the command: the state at a place is the table's
abbrev pub reply_from : (start : State) → (keep : ℕ) → Command → Standing → (newest : Option FlushRow) → Text
reply_from start keep command w newest =
    let after = standing_after keep command w (steps w.place start) in
    reply_at command w.kept after.place (steps after.place start) newest

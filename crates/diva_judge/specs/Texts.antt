-- The text of a judgement.
-- Cited by `judge`, and by the calls that make its lines.
use Rattle.std.specs.Prelude.{ℕ, List, [], ◌∷◌, ◌++◌, Option, Some, None, codes, nat_lt, Bool, true, false, if◌then◌else◌}
use Rattle.std.specs.Fmt.{decimal}
use Rattle.diva_decode.specs.Table.{row_of}
use Rattle.diva_isa.specs.End.{end_of}
use Rattle.diva_isa.specs.Step.{record_of}
use Rattle.diva_isa.specs.declared.record.Record.{Record}
use Rattle.diva_core.specs.Difference.{all_fields}
use Rattle.diva_core.specs.declared.flushes.Cause.TheVariants.{Differs}
use Rattle.diva_outside.specs.Lines.{LineFault}
use Rattle.diva_outside.specs.Text.{Text, hex_word}
use Rattle.diva_asm.specs.Listing.{text_of}
use Rattle.diva_trace.specs.Lines.{cause_text, end_line_of, fields_text}
use Rattle.diva_claims.specs.Wrong.{first_wrong}
use Rattle.diva_claims.specs.declared.said.Said.{Said}
use Rattle.diva_claims.specs.declared.wrong.Wrong.{Wrong}
use Rattle.diva_claims.specs.declared.wrong.Wrong.TheVariants.{Field, NoTrap, Register, Mask}
use Rattle.diva_judge.specs.Judgement.{Judged, judges, left_over, with_said}
use Rattle.diva_judge.specs.declared.terms.Terms.{Terms}

-- ---- an instruction, and what is wrong with its line

-- the instruction's pc, its word, and what that is
unfoldable pub listed : Record → Text
listed due = hex_word due.pc ++ codes " " ++ hex_word due.word ++ codes " " ++ text_of due.pc due.word (row_of due.word)

-- the first thing that is wrong: what it is, what was claimed, and what is due
unfoldable pub wrong_text : Wrong → Text
wrong_text (Field difference) = cause_text (Differs difference)
wrong_text (NoTrap due) = codes "end claimed t due " ++ hex_word due
wrong_text (Register said due) = codes "rd claimed " ++ hex_word said ++ codes " due " ++ hex_word due
wrong_text (Mask said due) = codes "mask claimed " ++ hex_word said ++ codes " due " ++ hex_word due

-- the row of a wrong line: its place, from 0 on, its instruction, and what is wrong
unfoldable pub wrong_row : (place : ℕ) → (due : Record) → Wrong → Text
wrong_row place due wrong = codes "wrong " ++ decimal place ++ codes " at " ++ listed due ++ codes ": " ++ wrong_text wrong ++ codes "\n"

-- the row of an instruction that has no line
unfoldable pub missing_row : (place : ℕ) → (due : Record) → Text
missing_row place due = codes "missing " ++ decimal place ++ codes " at " ++ listed due ++ codes "\n"

-- ---- what is written of each line

-- nothing of a right line, and a row of a wrong one
abbrev pub row_of_line : (place : ℕ) → (due : Record) → Option Wrong → Text
row_of_line place due None = []
row_of_line place due (Some wrong) = wrong_row place due wrong

-- the answer to a line: that it is right, or the record that the checker commits in its place
unfoldable pub due_line : Record → Text
due_line due = codes "due" ++ fields_text all_fields due ++ codes "\n"

abbrev pub answer_of_line : (due : Record) → Option Wrong → Text
answer_of_line due None = codes "ok\n"
answer_of_line due (Some wrong) = due_line due

-- one or the other, by what is asked for
abbrev pub text_of_line : (answers : Bool) → (place : ℕ) → (due : Record) → Option Wrong → Text
text_of_line false place due wrong = row_of_line place due wrong
text_of_line true place due wrong = answer_of_line due wrong

abbrev pub line_text : (answers : Bool) → Said → Judged → Text
line_text answers said j = text_of_line answers j.lines (record_of j.state) (first_wrong said (record_of j.state))

-- of a line that is not judged: nothing, or the answer that it comes too late
abbrev pub late_text : (answers : Bool) → Text
late_text false = []
late_text true = codes "over\n"

-- of a line
abbrev pub said_text : Terms → Said → Judged → Text
said_text terms said j = if judges terms.stop j then line_text terms.answers said j else late_text terms.answers

-- of some lines
abbrev pub lines_text : Terms → List Said → Judged → Text
lines_text terms [] j = []
lines_text terms (said ∷ later) j = said_text terms said j ++ lines_text terms later (with_said terms.stop said j)

-- ---- what is written last

unfoldable pub left_line : ℕ → Text
left_line n = codes "left over " ++ decimal n ++ codes "\n"

unfoldable pub judged_line : (judged lines wrong : ℕ) → Text
judged_line judged lines wrong = codes "judged " ++ decimal judged ++ codes " of " ++ decimal lines ++ codes " wrong " ++ decimal wrong ++ codes "\n"

-- the first instruction that has no line, if the log ends before the program does
abbrev pub missing_text : Terms → Judged → Text
missing_text terms j = if judges terms.stop j then missing_row j.lines (record_of j.state) else []

-- how many lines are left over, if there are any
abbrev pub text_of_left : ℕ → Text
text_of_left n = if nat_lt 0 n then left_line n else []

-- after the last of so many lines
abbrev pub last_text : Terms → (lines : ℕ) → Judged → Text
last_text terms lines j = missing_text terms j ++ text_of_left (left_over lines j) ++ end_line_of (end_of j.state.end) ++ judged_line j.lines lines j.wrong

-- after the lines before the first one that has a fault
unfoldable pub refused_text : LineFault → Text
refused_text fault = codes "refused log " ++ decimal fault.kind ++ codes " at " ++ decimal fault.line ++ codes "\n"

-- after the lines that could be read
abbrev pub unreadable_text : Text
unreadable_text = codes "unreadable log\n"

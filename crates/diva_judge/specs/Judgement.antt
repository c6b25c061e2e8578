-- What the lines of a log come to, line by line, from the state on in which a program starts.
-- Cited by `judge`.
use Rattle.std.specs.Prelude.{◌+◌, ◌-◌, ◌^◌, ◌&&◌, ◌||◌, not, ℕ, nat_lt, Bool, false, List, [], ◌∷◌, Option, Some, None, is_some, if◌then◌else◌}
use Rattle.diva_isa.specs.End.{end_of}
use Rattle.diva_isa.specs.State.{State, goes_on}
use Rattle.diva_isa.specs.Step.{record_of, step}
use Rattle.diva_isa.specs.declared.end.End.{End}
use Rattle.diva_isa.specs.declared.end.End.TheVariants.{GoesOn, Halt, Trap}
use Rattle.diva_claims.specs.Wrong.{first_wrong}
use Rattle.diva_claims.specs.declared.said.Said.{Said}
use Rattle.diva_judge.specs.declared.verdict.Verdict.{Verdict}
use Rattle.diva_judge.specs.declared.verdict.Verdict.TheVariants as verdict

-- how far the judging has come: so many lines were judged, so many of them were wrong, and the program is at this state
pub record Judged : Type 0 where
  pub lines : ℕ
  pub wrong : ℕ
  pub state : State

abbrev pub none_judged : State → Judged
none_judged s = record { lines = 0; wrong = 0; state = s }

-- no more lines than these are judged
abbrev pub most_lines : ℕ
most_lines = 2 ^ 48

-- so many lines are wrong that no further one is to be judged
abbrev pub is_enough : Option ℕ → ℕ → Bool
is_enough None wrong = false
is_enough (Some stop) wrong = not (nat_lt wrong stop)

-- one more line is judged while the program goes on
abbrev pub judges : (stop : Option ℕ) → Judged → Bool
judges stop j = goes_on j.state && (not (is_enough stop j.wrong) && nat_lt j.lines most_lines)

-- a line says something wrong of the next instruction
abbrev pub is_wrong : Said → State → Bool
is_wrong said s = is_some (first_wrong said (record_of s))

-- one more line, of the next instruction
abbrev pub with_line : Said → Judged → Judged
with_line said j = record { lines = j.lines + 1; wrong = j.wrong + (if is_wrong said j.state then 1 else 0); state = step j.state }

-- one more line, which changes nothing if it is not judged
abbrev pub with_said : (stop : Option ℕ) → Said → Judged → Judged
with_said stop said j = if judges stop j then with_line said j else j

-- and some lines
abbrev pub with_lines : (stop : Option ℕ) → List Said → Judged → Judged
with_lines stop [] j = j
with_lines stop (said ∷ later) j = with_lines stop later (with_said stop said j)

-- ---- the verdict, once the log has ended

-- the program has ended, and so many of the log's lines, of which there are so many, are left over
abbrev pub left_over : (lines : ℕ) → Judged → ℕ
left_over lines j = if goes_on j.state then 0 else lines - j.lines

-- something is wrong: a line, or that there are more lines than instructions
abbrev pub has_wrong : (lines : ℕ) → Judged → Bool
has_wrong lines j = nat_lt 0 j.wrong || nat_lt 0 (left_over lines j)

abbrev pub verdict_by : End → Verdict
verdict_by GoesOn = verdict.Short
verdict_by (Halt status) = verdict.Halted
verdict_by (Trap number) = verdict.Trapped

abbrev pub verdict_of : (lines : ℕ) → Judged → Verdict
verdict_of lines j = if has_wrong lines j then verdict.Wrong else verdict_by (end_of j.state.end)

-- What lanes are asked, and which answer is right.
-- Cited by `Lane::judge`, `judge_by_vote`, and what `Honest` says.
use Rattle.std.specs.Prelude.{ℕ, List, Option}
use Rattle.diva_isa.specs.State.{State}
use Rattle.diva_isa.specs.declared.record.Record.{Record}
use Rattle.diva_core.specs.declared.pending.Entry.{Entry}
use Rattle.diva_core.specs.declared.differences.Diff.{Diff}
use Rattle.diva_core.specs.Older.{before_entry}
use Rattle.diva_core.specs.Stages.{Answers, StageRow, execute, fetch, memory, operands}
use Rattle.diva_vote.specs.declared.stage.Stage.{Stage}
use Rattle.diva_vote.specs.declared.stage.Stage.TheVariants.{Fetch, Operands, Execute, Memory}

-- what a lane is asked: what the check of a stage finds in a claim that stands in a state, the committed one after the older claims
pub record Question : Type 0 where
  pub stage : Stage
  pub claim : Record
  pub state : State

-- what is asked at a stage of the entry at a place, behind a committed state
abbrev pub question_at : Stage → State → List Entry → (at : ℕ) → Entry → Question
question_at stage s entries at e = record { stage = stage; claim = e.claim; state = before_entry s entries at }

-- the row of a stage
abbrev pub stage_row : Stage → StageRow
stage_row Fetch = fetch
stage_row Operands = operands
stage_row Execute = execute
stage_row Memory = memory

-- the answer is that of the check
abbrev pub IsAnswer : Question → Option Diff → Type 0
IsAnswer q answer = Answers (stage_row q.stage) q.state q.claim answer

-- the meaning of what a lane says: the lane before a question, the question, its answer, and the lane after
abbrev pub Saying : Type 0 → Type 1
Saying L = L → Question → Option Diff → L → Type 0

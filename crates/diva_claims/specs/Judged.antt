-- A machine that is judging a log line by line: what one line comes to.
-- Cited by what `LineCore` gives, and by the laws of this crate, as `a_line_is_judged`; by `judge_line` of diva_judge.
use Rattle.std.specs.Prelude.{◌≡◌, ◌≤◌, ◌<◌, ◌+◌, ◌&&◌, ◌==◌, ℕ, nat_lt, List, [], ◌∷◌, Option, Some, None, if◌then◌else◌}
use Rattle.diva_isa.specs.State.{State}
use Rattle.diva_isa.specs.Step.{record_of, step}
use Rattle.diva_isa.specs.declared.record.Record.{Record}
use Rattle.diva_core.specs.Cycle.{cycle_of}
use Rattle.diva_core.specs.Machine.{IsMachine}
use Rattle.diva_core.specs.Timed.{Timed, depth}
use Rattle.diva_core.specs.Told.{Told}
use Rattle.diva_core.specs.declared.differences.Diff.{Diff}
use Rattle.diva_core.specs.declared.flushes.Cause.TheVariants.{Differs}
use Rattle.diva_core.specs.declared.flushes.FlushRow.{FlushRow}
use Rattle.diva_claims.specs.Said.{filled}
use Rattle.diva_claims.specs.Wrong.{ShowsAs, first_wrong}
use Rattle.diva_claims.specs.declared.said.Said.{Said}
use Rattle.diva_claims.specs.declared.wrong.Wrong.{Wrong}

-- ---- a core with the line of the next instruction

-- one call: if nothing is pending and there is room, the line's claim
abbrev pub line_call : Said → Told → State → List Record
line_call said told s = if (told.pending == 0) && nat_lt 0 told.room then filled said (record_of s) ∷ [] else []

-- the meaning of the core: in each call that list, and the line stays
pub record IsLineCall (before : Said) (told : Told) (s : State) (list : List Record) (after : Said) : Type 0 where
  pub lists : list ≡ line_call before told s
  pub keeps : after ≡ before

-- ---- between two lines

-- nothing is under way: no claim is pending, no instruction runs solo, and the last cycle counted one, if any has run
pub record Rests (m : Timed) : Type 0 where
  pub machine : IsMachine m
  pub empty : m.under.pending ≡ []
  pub alone : m.under.solo ≡ None
  pub fresh : m.under.idle ≡ 0

-- ---- one line

-- in the last of these cycles the count rises, and in no earlier one
abbrev pub CountsInTheLast : Timed → List (List Record) → Type 0
CountsInTheLast m [] = ⊥
CountsInTheLast m (list ∷ []) = m.count < (cycle_of m list).count
CountsInTheLast m (list ∷ next ∷ rest) = ((cycle_of m list).count ≡ m.count) × CountsInTheLast (cycle_of m list) (next ∷ rest)

-- the newest row of the log is that of this flush: at this place, for a difference that shows what is wrong
pub record IsFlushedFor (at : ℕ) (wrong : Wrong) (newest : Option FlushRow) : Type 0 where
  pub row : FlushRow
  pub new : newest ≡ Some row
  pub place : row.at ≡ at
  pub difference : Diff
  pub caused : row.cause ≡ Differs difference
  pub shows : ShowsAs wrong difference

-- what a line makes of the log: nothing if it is right, and one flush for a difference if it is wrong
abbrev pub IsLogged : Option Wrong → (m last : Timed) → Type 0
IsLogged None m last = last.under.log ≡ m.under.log
IsLogged (Some wrong) m last =
    (last.under.log.flushes ≡ m.under.log.flushes + 1) × (last.under.log.silent ≡ m.under.log.silent)
    × IsFlushedFor m.count wrong last.under.log.newest

-- a machine that rests has judged this line: its next instruction was counted, and it rests again
pub record HasJudged (m last : Timed) (said : Said) : Type 0 where
  pub counted : last.count ≡ m.count + 1
  pub stepped : last.arch ≡ step m.arch
  pub config : last.config ≡ m.config
  pub rests : Rests last
  pub logged : IsLogged (first_wrong said (record_of m.arch)) m last
  -- in W + 6 cycles at most, W being the watchdog's limit
  pub soon : last.cycles ≤ m.cycles + (m.config.limit + depth)

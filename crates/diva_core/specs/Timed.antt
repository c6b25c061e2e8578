-- The timed machine: the committed state, and what is under way.
-- Cited by `Machine::new`, `cycle` and `drive_to` of diva_machine; by `UnderWay::room` of diva_hart; by the laws of diva_tape.
use Rattle.std.specs.Prelude.{ℕ, ◌+◌, ◌-◌, ◌==◌, List, [], length, min, Bool, ◌&&◌, Option, None, is_none, nat_le, nat_lt, if◌then◌else◌}
use Rattle.diva_isa.specs.State.{State, goes_on}
use Rattle.diva_isa.specs.declared.record.Record.{Record}
use Rattle.diva_core.specs.declared.flushes.FlushRow.{FlushRow}

-- the checker's depth: a claim that is accepted in cycle c is ready from cycle c + 6, and a solo instruction that starts in
-- cycle c commits in cycle c + 6
abbrev pub depth : ℕ
depth = 6

-- how many rows of flushes are kept
abbrev pub rows_kept : ℕ
rows_kept = 1024

-- the claims that are accepted and judged in a cycle at most, those that are pending at most, the stores that are owed at
-- most, the watchdog's limit in cycles, and how many cycles there are from one store that memory's port takes to the next
pub record Config : Type 0 where
  pub width : ℕ
  pub window : ℕ
  pub stores : ℕ
  pub limit : ℕ
  pub port : ℕ

-- the numbers of a machine for which no others are asked
abbrev pub default_config : Config
default_config = record { width = 2; window = 16; stores = 4; limit = 64; port = 1 }

-- a pending claim, and the cycle in which it was accepted
pub record PendingClaim : Type 0 where
  pub claim : Record
  pub cycle : ℕ

-- the flushes that came: the rows that are kept, the newest row, and the number of all flushes and of the silent ones
pub record Log : Type 0 where
  pub rows : List FlushRow
  pub newest : Option FlushRow
  pub flushes : ℕ
  pub silent : ℕ

-- what is under way beside the committed state
pub record UnderWay : Type 0 where
  -- oldest first
  pub pending : List PendingClaim
  -- the cycle in which an instruction was started solo
  pub solo : Option ℕ
  -- the cycles since the last commit
  pub idle : ℕ
  pub log : Log
  -- how often the last instruction was taken back
  pub undos : ℕ

pub record Timed : Type 0 where
  pub config : Config
  -- the cycles run
  pub cycles : ℕ
  -- the committed state, and the instructions committed
  pub arch : State
  pub count : ℕ
  -- the committed stores that are not in memory yet
  pub owed : ℕ
  pub under : UnderWay

-- the number of flushes and undos so far
abbrev pub epoch_of : Timed → ℕ
epoch_of m = m.under.log.flushes + m.under.undos

-- how many claims the coming cycle accepts at most
abbrev pub room_of : Timed → ℕ
room_of m = if is_none m.under.solo && goes_on m.arch then min m.config.width (m.config.window - length m.under.pending) else 0

abbrev pub is_empty : {A : Type 0} → List A → Bool
is_empty xs = length xs == 0

-- a claim has to be handed over in the coming cycle, or the watchdog may bark before it can commit
abbrev pub is_due : Timed → Bool
is_due m = is_empty m.under.pending && nat_lt 0 (room_of m) && nat_le m.config.limit (m.under.idle + (depth + m.config.port))

-- no flush came
abbrev pub new_log : Log
new_log = record { rows = []; newest = None; flushes = 0; silent = 0 }

-- nothing is under way
abbrev pub nothing_under_way : UnderWay
nothing_under_way = record { pending = []; solo = None; idle = 0; log = new_log; undos = 0 }

-- the machine that begins with a state
abbrev pub new_timed : Config → State → Timed
new_timed config s = record { config = config; cycles = 0; arch = s; count = 0; owed = 0; under = nothing_under_way }

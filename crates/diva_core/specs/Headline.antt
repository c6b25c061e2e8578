-- What a cycle, a turn and a run promise, whatever is handed over.
-- Cited by `Machine::new`; in `HartCycle.antt` and `Cycles.antt`, for `Machine::cycle`; in `Drives.antt`, for `drive`.
use Rattle.std.specs.Prelude.{ℕ, zero, suc, ◌≡◌, ◌≢◌, ◌≤◌, ◌<◌, ◌+◌, ◌-◌, ◌*◌, ◌/◌, ◌%◌, List, [], ◌∷◌, ◌++◌, ◌⊎◌, length, take, slice_get, count_by, Option, Some, None, Bool, true, false}
use Rattle.std.specs.List.{All}
use Rattle.diva_isa.specs.State.{State, goes_on}
use Rattle.diva_isa.specs.declared.record.Record.{Record}
use Rattle.diva_isa.specs.Step.{record_of, step, steps}
use Rattle.diva_core.specs.declared.flushes.FlushRow.{FlushRow}
use Rattle.diva_core.specs.declared.flushes.Cause.{Cause}
use Rattle.diva_core.specs.declared.flushes.Cause.TheVariants.{Differs, Silent}
use Rattle.diva_core.specs.declared.differences.Diff.{Diff}
use Rattle.diva_core.specs.Difference.{field_of, first_difference}
use Rattle.diva_core.specs.Timed.{Timed, Log, PendingClaim, depth, rows_kept}
use Rattle.diva_core.specs.Cycle.{begun, cycle_of, is_silent, logged, port_opens, puts_store, run_of}

-- ---- counted: the count rises, and the state has moved by as many steps
pub record Rises (m last : Timed) : Type 0 where
  pub counted : m.count ≤ last.count
  pub stepped : last.arch ≡ steps (last.count - m.count) m.arch

-- the table ends after exactly n instructions
pub record EndsAfter (n : ℕ) (s : State) : Type 0 where
  pub ended : goes_on (steps n s) ≡ false
  pub before : (k : ℕ) → k < n → goes_on (steps k s) ≡ true

-- ---- committed by: each committed record is a claim that was ready, or the one instruction that ran solo

-- the due records of k instructions, from a state on
abbrev pub dues : ℕ → State → List Record
dues zero s = []
dues (suc k) s = record_of s ∷ dues k (step s)

-- the records are the claims at the front of those that waited, each accepted six or more cycles before this one; the rest
-- waits on
abbrev pub AreClaims : List Record → ℕ → List PendingClaim → List PendingClaim → Type 0
AreClaims [] cycle waiting rest = rest ≡ waiting
AreClaims (r ∷ records) cycle [] rest = ⊥
AreClaims (r ∷ records) cycle (p ∷ waiting) rest =
    (p.claim ≡ r) × (p.cycle + depth ≤ cycle) × AreClaims records cycle waiting rest

-- what a cycle committed are claims that waited
pub record ByClaims (m : Timed) (records : List Record) : Type 0 where
  pub rest : List PendingClaim
  pub claims : AreClaims records (m.cycles + 1) m.under.pending rest

-- what a cycle committed is the one instruction that ran solo for six cycles
pub record BySolo (m : Timed) (records : List Record) : Type 0 where
  pub start : ℕ
  pub since : m.under.solo ≡ Some start
  pub passed : m.cycles + 1 ≡ start + depth
  pub one : length records ≡ 1

-- the records that a cycle commits
abbrev pub committed_in : Timed → (list : List Record) → List Record
committed_in m list = dues ((cycle_of m list).count - m.count) m.arch

-- so it is in each cycle of a run
abbrev pub AreCommitted : Timed → List (List Record) → Type 0
AreCommitted m [] = Unit {0}
AreCommitted m (list ∷ rest) =
    (ByClaims m (committed_in m list) ⊎ BySolo m (committed_in m list)) × AreCommitted (cycle_of m list) rest

-- the records that the last cycle of a run commits; where there is none, those before it
abbrev pub last_committed : (before : List Record) → Timed → List (List Record) → List Record
last_committed before m [] = before
last_committed before m (list ∷ rest) = last_committed (committed_in m list) (cycle_of m list) rest

-- the front claim is held up in a cycle, where it equals the due record: that is a store, all stores are owed, and the port
-- does not open in this cycle
pub record IsHeld (m : Timed) : Type 0 where
  pub store : puts_store (record_of m.arch) ≡ true
  pub full : m.owed ≡ m.config.stores
  pub closed : port_opens (begun m) ≡ false

-- the front claim p is judged: an equal one commits, unless it is held up; another flushes
pub record IsJudged (m last : Timed) (p : PendingClaim) : Type 0 where
  pub equal : p.claim ≡ record_of m.arch → (m.count < last.count) ⊎ IsHeld m
  pub unequal : p.claim ≢ record_of m.arch
      → (last.count ≡ m.count) × (last.under.log.flushes ≡ m.under.log.flushes + 1) × (last.under.log.silent ≡ m.under.log.silent)

-- it is held up no longer than until the port opens, whatever is handed over: in the first cycle in which the claim is ready
-- and the port opens, or before, a claim commits or the machine flushes
abbrev pub WillJudge : Timed → Type 0
WillJudge m =
    goes_on m.arch ≡ true → m.under.solo ≡ None → (p : PendingClaim) (rest : List PendingClaim) → m.under.pending ≡ p ∷ rest
    → (list : List Record) (lists : List (List Record))
    → p.cycle + depth ≤ m.cycles + length (list ∷ lists) → (m.cycles + length (list ∷ lists)) % m.config.port ≡ 0
    → (m.count < (run_of m (list ∷ lists)).count) ⊎ (m.under.log.flushes < (run_of m (list ∷ lists)).under.log.flushes)

-- ---- flushes come only where a claim differs or the watchdog barks

-- the log is as it was
abbrev pub SameLog : (m last : Timed) → Type 0
SameLog m last = last.under.log ≡ m.under.log

-- the log has one row more
abbrev pub HasRow : (m last : Timed) → FlushRow → Type 0
HasRow m last row = last.under.log ≡ logged m.under.log row

-- of the claims that waited, the first that a cycle did not commit was ready, and d is the first field in which it differs
-- from the record that was then due
pub record IsRefuted (m last : Timed) (d : Diff) : Type 0 where
  pub p : PendingClaim
  pub waited : slice_get m.under.pending (last.count - m.count) ≡ Some p
  pub ready : p.cycle + depth ≤ m.cycles + 1
  pub differs : first_difference p.claim (record_of (steps (last.count - m.count) m.arch)) ≡ Some d

-- why a cycle flushed: a claim differed from the record that was due, or idle stood at the limit
abbrev pub IsCause : Timed → Timed → Cause → Type 0
IsCause m last (Differs d) = IsRefuted m last d
IsCause m last (Silent limit) = (limit ≡ m.config.limit) × (last.under.idle ≡ limit)

-- the row is the one that the cycle from m to `last` added to the log
pub record IsRowOf (m last : Timed) (row : FlushRow) : Type 0 where
  pub has : HasRow m last row
  pub cycle : row.cycle ≡ m.cycles + 1
  pub at : row.at ≡ last.count
  pub caused : IsCause m last row.cause

-- the rows are those that the cycles of a run added, in order: each cycle added its row, or left the log as it was
abbrev pub AreRowsOf : Timed → List (List Record) → List FlushRow → Type 0
AreRowsOf m [] rows = rows ≡ []
AreRowsOf m (list ∷ rest) [] = SameLog m (cycle_of m list) × AreRowsOf (cycle_of m list) rest []
AreRowsOf m (list ∷ rest) (row ∷ rows) =
    (SameLog m (cycle_of m list) × AreRowsOf (cycle_of m list) rest (row ∷ rows))
    ⊎ (IsRowOf m (cycle_of m list) row × AreRowsOf (cycle_of m list) rest rows)

-- a row is true, `at` instructions after the state `start`: the due value is the table's and another was claimed, or the
-- limit was reached
abbrev pub HasCause : State → ℕ → ℕ → Cause → Type 0
HasCause start limit at (Differs d) = (d.claimed ≢ d.due) × (d.due ≡ field_of d.field (record_of (steps at start)))
HasCause start limit at (Silent idle) = idle ≡ limit

-- a row that came after the machine m is true, told from m on
pub record IsRowSince (m : Timed) (row : FlushRow) : Type 0 where
  pub later : m.count ≤ row.at
  pub caused : HasCause m.arch m.config.limit (row.at - m.count) row.cause

-- the last of some rows, or the one before them
abbrev pub newest_of : Option FlushRow → List FlushRow → Option FlushRow
newest_of before [] = before
newest_of before (row ∷ rows) = newest_of (Some row) rows

abbrev pub is_silent_row : FlushRow → Bool
is_silent_row row = is_silent row.cause

-- `last` is a log with these rows added: the first that there was room for are kept, the newest stands beside them, and all are
-- counted
pub record HasRows (log : Log) (added : List FlushRow) (last : Log) : Type 0 where
  pub rows : last.rows ≡ take rows_kept (log.rows ++ added)
  pub newest : last.newest ≡ newest_of log.newest added
  pub flushes : last.flushes ≡ log.flushes + length added
  pub silent : last.silent ≡ log.silent + count_by is_silent_row added

-- the run of these lists from m to `last` added rows to the log: those of its cycles, each with the cause that it had there
pub record AddsRows (m : Timed) (lists : List (List Record)) (last : Timed) : Type 0 where
  pub added : List FlushRow
  pub each : AreRowsOf m lists added
  pub since : All (IsRowSince m) added
  pub has : HasRows m.under.log added last.under.log

-- ---- until the end, every W + depth cycles count at least one instruction more, W being the watchdog's limit

-- from this machine on, whatever is handed over
abbrev pub WillCount : Timed → Type 0
WillCount m =
    goes_on m.arch ≡ true → (lists : List (List Record)) → m.config.limit + depth ≤ length lists
    → m.count < (run_of m lists).count

-- from one machine to another: in d times as many cycles d instructions at least
abbrev pub KeepsPace : Timed → Timed → Type 0
KeepsPace m last = (d : ℕ) → m.cycles + d * (m.config.limit + depth) ≤ last.cycles → m.count + d ≤ last.count

-- since a machine was new, where no instruction was taken back
abbrev pub HasPace : Timed → Type 0
HasPace m = m.under.undos ≡ 0 → m.cycles / (m.config.limit + depth) ≤ m.count

-- Rows: each claim that became pending has one, and each instruction that was started solo, in the order in which they began. What
-- becomes of them in a cycle is told from what was seen of the machine before it and behind it.
-- Cited by `Pen::draw_cycle`, `log_cycle` and the type `Pen`.
use Rattle.std.specs.Prelude.{ℕ, ◌+◌, ◌-◌, ◌==◌, not, ◌||◌, length, Bool, is_some, if◌then◌else◌}
use Rattle.diva_core.specs.Cycle.{number}
use Rattle.diva_drawing.specs.Snapshot.{Snapshot}

-- the rows that are open: those of the pending claims, the oldest first, or that of the instruction that runs solo
abbrev pub open_rows : Snapshot → ℕ
open_rows s = length s.claims + number (is_some s.solo)

-- how many of them ended in the cycle since they committed
abbrev pub committed_rows : (before after : Snapshot) → ℕ
committed_rows before after = after.count - before.count

-- the machine flushed in the cycle, or ended: what was pending is dropped, and nothing is accepted
abbrev pub is_cut : (before after : Snapshot) → Bool
is_cut before after = not (after.flushes == before.flushes) || not after.goes_on

-- how many rows were open still, and were dropped
abbrev pub dropped_rows : (before after : Snapshot) → ℕ
dropped_rows before after = if is_cut before after then open_rows before - committed_rows before after else 0

-- how many of the rows that were open are open behind the cycle too
abbrev pub still_open_rows : (before after : Snapshot) → ℕ
still_open_rows before after = open_rows before - (committed_rows before after + dropped_rows before after)

-- how many began in it
abbrev pub begun_rows : (before after : Snapshot) → ℕ
begun_rows before after = open_rows after - still_open_rows before after

-- how many claims were accepted: none is where the machine was cut short
abbrev pub accepted_claims : (before after : Snapshot) → ℕ
accepted_claims before after = if is_cut before after then 0 else begun_rows before after

-- what goes from cycle to cycle: how many rows have begun, and what was seen of the machine last
pub record Pen : Type 0 where
  pub rows : ℕ
  pub seen : Snapshot

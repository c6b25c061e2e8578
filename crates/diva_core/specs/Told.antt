-- What a core is told before a cycle.
-- Cited by `Machine::told` and `turn` of diva_machine; by `UnderWay::told` of diva_hart; by `Duo::told` of diva_duo.
use Rattle.std.specs.Prelude.{ℕ, ◌+◌, ◌≤◌, length, Bool, not}
use Rattle.diva_isa.specs.State.{goes_on}
use Rattle.diva_core.specs.Timed.{Timed, epoch_of, room_of, is_due}

pub record Told : Type 0 where
  -- the number of the coming cycle
  pub cycle : ℕ
  -- the instructions committed, and the committed pc
  pub count : ℕ
  pub pc : ℕ
  -- the flushes and undos so far
  pub epoch : ℕ
  -- the claims pending, and how many more are accepted
  pub pending : ℕ
  pub room : ℕ
  -- the cycles since the last commit
  pub idle : ℕ
  -- a claim has to be handed over now, or the watchdog may bark before it can commit
  pub due : Bool
  pub ended : Bool

-- at most four claims are accepted in a cycle, and never more than 64 are pending
pub record IsRoom (pending room : ℕ) : Type 0 where
  pub width : room ≤ 4
  pub total : pending + room ≤ 64

abbrev pub told_of : Timed → Told
told_of m =
    record {
      cycle = m.cycles + 1;
      count = m.count;
      pc = m.arch.pc;
      epoch = epoch_of m;
      pending = length m.under.pending;
      room = room_of m;
      idle = m.under.idle;
      due = is_due m;
      ended = not (goes_on m.arch);
    }

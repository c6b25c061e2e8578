-- What a core that runs ahead of the machine keeps: where it stands, and what it has handed over.
-- Cited by `Ahead::advance`, `hand_over`, `sync`, `trim` and the type `Ahead`; by what `Scalar` of diva_tape gives.
use Rattle.std.specs.Prelude.{ℕ, ◌-◌, ◌%◌, ◌^◌, ◌==◌, List, [], ◌∷◌, ◌++◌, length, drop, min, replicate, Bool, false, not, Option, Some, None, if◌then◌else◌}
use Rattle.diva_isa.specs.State.{State}
use Rattle.diva_isa.specs.Step.{apply}
use Rattle.diva_isa.specs.declared.record.Record.{Record}
use Rattle.diva_isa.specs.declared.effect.Effect.{Effect}
use Rattle.diva_core.specs.Told.{Told}
use Rattle.diva_core.specs.Effects.{with_effects}
use Rattle.diva_ahead.specs.Effects.{done_by}

pub record Ahead : Type 0 where
  -- the machine's epoch when the core last took its state, none before the first time
  pub epoch : Option ℕ
  pub regs : List ℕ
  pub pc : ℕ
  -- how many bytes were put
  pub out_len : ℕ
  -- how many instructions led to where it stands
  pub instret : ℕ
  -- what the records did that it handed over and that may be pending, the oldest first
  pub ring : List Effect
  -- it has handed over a record that ends
  pub stopped : Bool

-- nothing is kept yet
abbrev pub new_ahead : Ahead
new_ahead = record { epoch = None; regs = replicate 32 0; pc = 0; out_len = 0; instret = 0; ring = []; stopped = false }

-- ---- the core's own state

-- its registers, pc, number of instructions, and output, of which only the length counts, over the memory of a state
abbrev pub own_state : Ahead → State → State
own_state ahead s =
    record { regs = ahead.regs; pc = ahead.pc; base = s.base; bytes = s.bytes; output = replicate ahead.out_len 0; instret = ahead.instret; end = 0 }

-- what it sees: a byte of memory is that of the youngest store of the ring that covers it, else that of the state s
abbrev pub seen : Ahead → State → State
seen ahead s = own_state ahead (with_effects s ahead.ring)

-- ---- what it does with what it is told

abbrev pub is_epoch : Option ℕ → ℕ → Bool
is_epoch None n = false
is_epoch (Some e) n = e == n

-- it takes the machine's state, and for its number of instructions the count that it is told
unfoldable pub taken_over : Told → State → Ahead
taken_over told s =
    record { epoch = Some told.epoch; regs = s.regs; pc = s.pc; out_len = length s.output; instret = told.count; ring = []; stopped = false }

-- it takes that state where the epoch that it is told differs from its own
abbrev pub synced : Ahead → Told → State → Ahead
synced ahead told s = if is_epoch ahead.epoch told.epoch then ahead else taken_over told s

-- while the ring is longer than what is pending, the oldest is dropped
unfoldable pub trimmed : Ahead → Told → Ahead
trimmed ahead told = record ahead { ring = drop (length ahead.ring - told.pending) ahead.ring }

-- ---- what it does with a record that it hands over

-- the record is applied to registers, pc, output length and number of instructions, and appended to the ring; one that ends
-- stops the core. The length stands still at the last value of its type, and the number goes on from 0 behind that of its
unfoldable pub with_record : Ahead → State → Record → Ahead
with_record ahead s r =
    let after = apply (seen ahead s) r in
    record ahead {
      regs = after.regs;
      pc = after.pc;
      out_len = min (length after.output) (2 ^ 32 - 1);
      instret = after.instret % 2 ^ 64;
      ring = ahead.ring ++ done_by r ∷ [];
      stopped = not (r.end == 0);
    }

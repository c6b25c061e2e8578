-- What a hart has for itself of the committed state: all of it but memory.
-- Cited by `HartArch::new`, `drain`, `commit`, `restore` and `view`.
use Rattle.std.specs.Prelude.{ℕ, List, [], ◌++◌, replicate}
use Rattle.diva_memory.specs.Bytes.{Bytes}
use Rattle.diva_storeq.specs.declared.masked.Masked.{Masked}
use Rattle.diva_storeq.specs.Stores.{laid}
use Rattle.diva_isa.specs.State.{State}
use Rattle.diva_isa.specs.Step.{apply}
use Rattle.diva_isa.specs.declared.record.Record.{Record}
use Rattle.diva_commit.specs.Committing.{buffered, state_of}

-- the buffer has the stores that are not in memory yet, the oldest first
pub record HartState : Type 0 where
  pub regs : List ℕ
  pub pc : ℕ
  pub output : List ℕ
  -- how many instructions led to it
  pub instret : ℕ
  -- 0 where it goes on, else how it ended
  pub end : ℕ
  pub buffer : List Masked

-- the state that a hart sees: memory with its own buffer laid over it
abbrev pub seen : Bytes → HartState → State
seen memory h = state_of h.regs h.pc (laid memory h.buffer) h.output h.instret h.end

-- what a state has of a hart, with this buffer
abbrev pub hart_in : State → List Masked → HartState
hart_in s buffer = record { regs = s.regs; pc = s.pc; output = s.output; instret = s.instret; end = s.end; buffer = buffer }

-- a hart that sees the state s has gone on by the record r: a store goes to its buffer
abbrev pub went : State → Record → List Masked → HartState
went s r buffer = hart_in (apply s r) (buffer ++ buffered r)

-- a hart, and how many stores its buffer has room for
pub record HartArch : Type 0 where
  pub state : HartState
  pub stores : ℕ

-- a hart that begins at this pc: all registers are 0, and nothing was put or stored
abbrev pub new_state : (pc : ℕ) → HartState
new_state pc = record { regs = replicate 32 0; pc = pc; output = []; instret = 0; end = 0; buffer = [] }

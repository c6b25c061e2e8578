-- Two harts over one memory, each with a buffer of the stores that are not there yet: the store-buffer machine, action by action. It is
-- the abstract machine of total store order (Owens, Sarkar, Sewell, "A better x86 memory model: x86-TSO", TPHOLs 2009; RISC-V's Ztso), for
-- two harts, without atomic instructions, and with a FENCE that waits for an empty buffer whatever its fields are.
-- Cited by `Duo::cycle`.
use Rattle.std.specs.Prelude.{ℕ, ◌==◌, List, [], ◌∷◌, take, drop, length, Bool, not, ◌&&◌, Option, Some, None, option_and_then, if◌then◌else◌}
use Rattle.diva_memory.specs.Bytes.{Bytes}
use Rattle.diva_storeq.specs.Stores.{laid}
use Rattle.diva_isa.specs.Regs.{with_reg}
use Rattle.diva_isa.specs.State.{State, goes_on}
use Rattle.diva_isa.specs.Step.{record_of}
use Rattle.diva_core.specs.Timed.{is_empty}
use Rattle.diva_hart.specs.HartArch.{HartState, hart_in, seen, went}
use Rattle.diva_duo.specs.Rules.{fence_waits}
use Rattle.diva_duo.specs.declared.action.Action.{Action}
use Rattle.diva_duo.specs.declared.action.Action.TheVariants.{Go, Drain}

pub record Harts : Type 0 where
  pub memory : Bytes
  pub first : HartState
  pub second : HartState

-- ---- actions

-- a hart goes on by the record that is due in the state that it sees: a store goes to its buffer
abbrev pub gone : Bytes → HartState → HartState
gone memory h = went (seen memory h) (record_of (seen memory h)) h.buffer

-- it may: it has not ended, and a FENCE needs an empty buffer
abbrev pub may_go : Bytes → HartState → Bool
may_go memory h = goes_on (seen memory h) && not (fence_waits (length h.buffer) (record_of (seen memory h)))

-- the oldest store of a hart goes to memory
abbrev pub memory_drained : Bytes → HartState → Bytes
memory_drained memory h = laid memory (take 1 h.buffer)

abbrev pub state_drained : HartState → HartState
state_drained h = record h { buffer = drop 1 h.buffer }

-- it may: there is one
abbrev pub may_drain : HartState → Bool
may_drain h = not (is_empty h.buffer)

abbrev pub where_possible : Bool → Harts → Option Harts
where_possible may s = if may then Some s else None

-- the harts after an action, `None` where it is not possible
abbrev pub acted : Action → Harts → Option Harts
acted (Go h) s =
    if h == 0 then where_possible (may_go s.memory s.first) (record s { first = gone s.memory s.first })
    else (if h == 1 then where_possible (may_go s.memory s.second) (record s { second = gone s.memory s.second }) else None)
acted (Drain h) s =
    if h == 0 then where_possible (may_drain s.first) (record s { memory = memory_drained s.memory s.first; first = state_drained s.first })
    else (if h == 1 then where_possible (may_drain s.second) (record s { memory = memory_drained s.memory s.second; second = state_drained s.second }) else None)

-- the harts after some actions, `None` where one of them is not possible
abbrev pub replay : List Action → Harts → Option Harts
replay [] s = Some s
replay (a ∷ actions) s = option_and_then (replay actions) (acted a s)

-- ---- the beginning

-- a hart begins with a state, with its number in x10, and with an empty buffer
abbrev pub first_state : State → (number : ℕ) → HartState
first_state s number = hart_in (record s { regs = with_reg s.regs 10 number }) []

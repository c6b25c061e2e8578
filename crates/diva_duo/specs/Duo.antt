-- The timed machine of two harts: what is under way for each, and a cycle.
-- Cited by `Duo::new`, `cycle`, `ended` and `drive2`.
use Rattle.std.specs.Prelude.{ℕ, ◌+◌, ◌-◌, ◌==◌, List, [], ◌∷◌, ◌++◌, length, flat_map, replicate, Bool, not, ◌&&◌, if◌then◌else◌}
use Rattle.diva_memory.specs.Bytes.{Bytes}
use Rattle.diva_storeq.specs.declared.masked.Masked.{Masked}
use Rattle.diva_isa.specs.State.{State, memory_of}
use Rattle.diva_isa.specs.declared.record.Record.{Record}
use Rattle.diva_core.specs.Timed.{Config, Timed, UnderWay, is_empty, nothing_under_way}
use Rattle.diva_core.specs.Cycle.{phases_under}
use Rattle.diva_core.specs.Headline.{dues}
use Rattle.diva_commit.specs.Committing.{buffered}
use Rattle.diva_hart.specs.HartArch.{HartState, hart_in, seen}
use Rattle.diva_duo.specs.Rules.{fences_wait}
use Rattle.diva_duo.specs.Harts.{Harts, first_state, may_drain, memory_drained, state_drained}
use Rattle.diva_duo.specs.declared.action.Action.{Action}
use Rattle.diva_duo.specs.declared.action.Action.TheVariants.{Go, Drain}

-- what a timed machine has, but for memory, and for the number of cycles
pub record Hart : Type 0 where
  pub config : Config
  pub state : HartState
  pub under : UnderWay

-- `first` is hart 0, `second` is hart 1
pub record Duo : Type 0 where
  pub memory : Bytes
  pub cycles : ℕ
  pub first : Hart
  pub second : Hart

-- a hart as a timed machine: its state is what it sees, it has counted the instructions that led there, and it owes its buffer
abbrev pub timed : (cycles : ℕ) → Bytes → Hart → Timed
timed cycles memory h =
    record {
      config = h.config;
      cycles = cycles;
      arch = seen memory h.state;
      count = h.state.instret;
      owed = length h.state.buffer;
      under = h.under;
    }

-- the other way round, with this buffer
abbrev pub hart_of : Timed → List Masked → Hart
hart_of m buffer = record { config = m.config; state = hart_in m.arch buffer; under = m.under }

-- ---- a cycle

-- the stores that went to the buffer between two machines of a hart
abbrev pub added : (m n : Timed) → List Masked
added m n = flat_map buffered (dues (n.count - m.count) m.arch)

-- phase 1 of a hart: its oldest store goes to memory
abbrev pub drained_hart : Hart → Hart
drained_hart h = record h { state = state_drained h.state }

-- phases 2 to 5 of a hart, which are those of the timed machine that it is: an equal FENCE waits there for an empty buffer, and what
-- it stores goes to the buffer
abbrev pub moved : Timed → Timed → List Masked → Hart
moved m n buffer = hart_of n (buffer ++ added m n)

unfoldable pub hart_cycle : (cycles : ℕ) → Bytes → List Record → Hart → Hart
hart_cycle cycles memory list h =
    if h.state.end == 0
    then (let m : Timed = timed cycles memory h in moved m (phases_under fences_wait m m list) h.state.buffer) else h

-- a hart has ended, and its buffer is empty
abbrev pub is_hart_over : Hart → Bool
is_hart_over h = not (h.state.end == 0) && is_empty h.state.buffer

-- both harts have ended, and both buffers are empty
abbrev pub is_over : Duo → Bool
is_over d = is_hart_over d.first && is_hart_over d.second

-- phase 1 of hart 0 and then of hart 1, of an ended one too
abbrev pub drained_first : Duo → Duo
drained_first d = record d { memory = memory_drained d.memory d.first.state; first = drained_hart d.first }

abbrev pub drained_second : Duo → Duo
drained_second d = record d { memory = memory_drained d.memory d.second.state; second = drained_hart d.second }

unfoldable pub duo_drained : Duo → Duo
duo_drained d = drained_second (drained_first (record d { cycles = d.cycles + 1 }))

-- phases 2 to 5. None of them changes memory or looks at the other hart. So it is the same whether a hart goes through all of them
-- before the other does, or each phase is hart 0's and then hart 1's
abbrev pub phased : Duo → (a b : List Record) → Duo
phased d a b = record d { first = hart_cycle d.cycles d.memory a d.first; second = hart_cycle d.cycles d.memory b d.second }

-- the whole cycle, each hart on its list; where it is over, nothing changes
unfoldable pub duo_cycle_of : Duo → (a b : List Record) → Duo
duo_cycle_of d a b = if is_over d then d else phased (duo_drained d) a b

-- ---- what it is to the store-buffer machine

abbrev pub harts_of : Duo → Harts
harts_of d = record { memory = d.memory; first = d.first.state; second = d.second.state }

abbrev pub drains : (number : ℕ) → HartState → List Action
drains number h = if may_drain h then Drain number ∷ [] else []

abbrev pub goes : (number : ℕ) → (h g : HartState) → List Action
goes number h g = replicate (g.instret - h.instret) (Go number)

-- the actions of a cycle from d to e: the drains, and then what each hart counted
unfoldable pub actions : (d e : Duo) → List Action
actions d e =
    if is_over d then []
    else drains 0 d.first.state ++ (drains 1 d.second.state ++ (goes 0 d.first.state e.first.state ++ goes 1 d.second.state e.second.state))

-- ---- the beginning

abbrev pub new_hart : Config → State → (number : ℕ) → Hart
new_hart config s number = record { config = config; state = first_state s number; under = nothing_under_way }

abbrev pub new_duo : Config → State → Duo
new_duo config s = record { memory = memory_of s; cycles = 0; first = new_hart config s 0; second = new_hart config s 1 }

-- Right lists, and calm machines: those in which no right list leads to a flush.
-- Cited by `Machine::new` and `undo`; in `Cycles.antt`, for `Machine::cycle` and `turn`; by `lockstep_is_right` and `scalar_is_right` of diva_tape.
use Rattle.std.specs.Prelude.{ℕ, ◌≡◌, ◌≢◌, ◌<◌, ◌≤◌, ◌+◌, ◌-◌, List, [], ◌∷◌, length, take, map, true, Some, None, max, slice_get}
use Rattle.std.specs.Int.{next_multiple_of}
use Rattle.diva_isa.specs.State.{State, goes_on}
use Rattle.diva_isa.specs.declared.record.Record.{Record}
use Rattle.diva_isa.specs.Step.{record_of, steps}
use Rattle.diva_core.specs.Timed.{Timed, PendingClaim, depth, room_of, is_due}
use Rattle.diva_core.specs.Cycle.{cycle_of}
use Rattle.diva_core.specs.Headline.{SameLog}

-- claim by claim, a list is what the table gives from a state on: the claim at place j is the record that is due after j
-- steps. Where the machine ends before, any claim is right
abbrev pub AreDue : State → List Record → Type 0
AreDue s claims =
    (j : ℕ) → j < length claims → goes_on (steps j s) ≡ true → slice_get claims j ≡ Some (record_of (steps j s))

-- a list is right for a machine: the claims that there is room for are due behind those that are pending, and it is not
-- empty where a claim has to be handed over
pub record IsRight (m : Timed) (list : List Record) : Type 0 where
  pub claims : AreDue (steps (length m.under.pending) m.arch) (take (room_of m) list)
  pub prompt : is_due m ≡ true → list ≢ []

-- each list of a run is right for the machine that it is handed to
abbrev pub AreRight : Timed → List (List Record) → Type 0
AreRight m [] = Unit {0}
AreRight m (list ∷ rest) = IsRight m list × AreRight (cycle_of m list) rest

-- how many cycles it takes at most until a claim can commit, also a store while all stores are owed: those until the port
-- opens, from the cycle on in which the oldest pending claim is ready, which is the coming one at the earliest; where nothing
-- is pending a claim is accepted in the coming cycle, is ready six cycles later, and the port opens within the cycles from one
-- store that it takes to the next
abbrev pub wait_by : Timed → List PendingClaim → ℕ
wait_by m [] = depth + m.config.port
wait_by m (p ∷ rest) = next_multiple_of (max (m.cycles + 1) (p.cycle + depth)) m.config.port - m.cycles

abbrev pub wait_of : Timed → ℕ
wait_of m = wait_by m m.under.pending

abbrev pub claim_of : PendingClaim → Record
claim_of p = p.claim

-- no instruction runs solo, what is pending is due, and a commit can come before the watchdog barks
pub record IsCalmRunning (m : Timed) : Type 0 where
  pub running : m.under.solo ≡ None
  pub claims : AreDue m.arch (map claim_of m.under.pending)
  pub waits : m.under.idle + wait_of m ≤ m.config.limit

-- a machine is calm: it has ended, or it runs as above
abbrev pub IsCalm : Timed → Type 0
IsCalm m = goes_on m.arch ≡ true → IsCalmRunning m

-- no flush came between two machines, and the later one is calm
pub record StaysCalm (m last : Timed) : Type 0 where
  pub calm : IsCalm last
  pub log : SameLog m last

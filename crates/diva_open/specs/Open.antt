-- The open machine: the timed machine without its checker. A claim that is ready commits as it stands, whatever is due; nothing
-- flushes, no instruction runs solo, and the watchdog sleeps. A record that cannot be applied ends it.
-- Cited by `OpenMachine::new` and `cycle`; in `Turns.antt`, for `drive_open`; by `right_lists_lead_to_the_same` and
-- `without_a_place_the_state_is_due`.
use Rattle.std.specs.Prelude.{ℕ, zero, suc, ◌+◌, ◌==◌, min, List, [], ◌∷◌, length, Bool, true, false, ◌&&◌, ◌||◌, not, Option, Some, None, nat_le, nat_lt, if◌then◌else◌}
use Rattle.std.specs.Option.{is_some}
use Rattle.diva_decode.specs.Table.{row_of}
use Rattle.diva_memory.specs.Bytes.{is_inside}
use Rattle.diva_isa.specs.State.{State, goes_on, memory_of, output_limit}
use Rattle.diva_isa.specs.Kind.{size}
use Rattle.diva_isa.specs.Step.{effect_of, record_of}
use Rattle.diva_isa.specs.declared.effect.Effect.{Effect}
use Rattle.diva_isa.specs.declared.effect.Effect.TheVariants.{Nothing, Writes, Stores, Puts}
use Rattle.diva_isa.specs.declared.record.Record.{Record}
use Rattle.diva_core.specs.declared.differences.Diff.{Diff}
use Rattle.diva_core.specs.Difference.{first_difference}
use Rattle.diva_core.specs.Timed.{Config, PendingClaim, Timed, depth, new_timed}
use Rattle.diva_core.specs.Cycle.{accepts, begun, committed, drained, stores_wait, with_pending}

pub record Open : Type 0 where
  pub timed : Timed
  -- for which instruction, from 0, the first record left that was not due
  pub place : Option ℕ

-- the open machine that begins with a state
abbrev pub new_open : Config → State → Open
new_open config s = record { timed = new_timed config s; place = None }

-- ---- which records can be applied

-- there is a place for an effect: what is stored lies inside memory, at a multiple of its width or not, and a byte that is put
-- finds room in the output
abbrev pub finds_place : State → Effect → Bool
finds_place s Nothing = true
finds_place s (Writes rd value) = true
finds_place s (Stores width addr value) = is_inside (memory_of s) addr (size width)
finds_place s (Puts byte) = nat_lt (length s.output) output_limit

-- a record that goes on has to have a word of the table, and a place for what it does
abbrev pub can_go_on : State → Record → Bool
can_go_on s r = is_some (row_of r.word) && finds_place s (effect_of r)

-- a number other than 0 that a record may have for its end: a trap's or a halt's
abbrev pub is_end : ℕ → Bool
is_end end = nat_lt end 512 && (nat_le end 10 || nat_le 256 end)

-- a record can be applied: it goes on, and can; or it ends in a way that there is
unfoldable pub can_apply : State → Record → Bool
can_apply s r = if r.end == 0 then can_go_on s r else is_end r.end

-- ---- how a claim leaves

-- how a state has ended that was handed a record which cannot be applied: no record may have this number
abbrev pub stray : ℕ
stray = 512

abbrev pub strayed : Timed → Timed
strayed m = record m { arch = record m.arch { end = stray } }

-- a record commits as it stands; one that cannot be applied ends the machine, and is not counted
unfoldable pub obeyed : Timed → Record → Timed
obeyed m r = if can_apply m.arch r then committed m r else strayed m

-- the place, where a record leaves that differs so from what is due, and so many instructions have committed before: the first one stays
abbrev pub place_behind : Option ℕ → (count : ℕ) → Option Diff → Option ℕ
place_behind (Some place) count difference = Some place
place_behind None count None = None
place_behind None count (Some d) = Some count

-- the front claim leaves in this cycle: it is ready, and does not wait as a store that finds all stores owed
abbrev pub leaves : Timed → List PendingClaim → Bool
leaves m [] = false
leaves m (p ∷ rest) = nat_le (p.cycle + depth) m.cycles && not (stores_wait m.config.stores m.owed p.claim)

-- the front claim has left; an end drops the others too
abbrev pub left : Open → List PendingClaim → Open
left o [] = o
left o (p ∷ rest) =
    let after = obeyed o.timed p.claim in
    record {
      timed = with_pending after (if goes_on after.arch then rest else []);
      place = place_behind o.place o.timed.count (first_difference p.claim (record_of o.timed.arch));
    }

-- at most n claims leave, oldest first
abbrev pub leave : ℕ → Open → Open
leave zero o = o
leave (suc n) o = if leaves o.timed o.timed.under.pending then leave n (left o o.timed.under.pending) else o

-- ---- a cycle

-- the cycles since the last commit, counted as far as the watchdog's limit
abbrev pub idled : Timed → Timed → Timed
idled before m =
    record m { under = record m.under { idle = if m.count == before.count then min m.config.limit (m.under.idle + 1) else 0 } }

-- claims leave once the port has taken its store, and then others are accepted
abbrev pub phases_of : Open → List Record → Open
phases_of o list =
    let after = leave o.timed.config.width (record o { timed = drained (begun o.timed) }) in
    record after { timed = idled o.timed (accepts o.timed list after.timed) }

-- the whole cycle; an ended machine stays
unfoldable pub open_cycle_of : Open → List Record → Open
open_cycle_of o list = if goes_on o.timed.arch then phases_of o list else o

-- the machine after these lists
abbrev pub open_run_of : Open → List (List Record) → Open
open_run_of o [] = o
open_run_of o (list ∷ rest) = open_run_of (open_cycle_of o list) rest

-- One cycle of the timed machine, a definition for each phase. The cycle's number is raised first, so that each phase
-- knows it.
-- Cited in `Cycles.antt`, for `Machine::cycle` and `turn`; in `Duo.antt`, for `Duo::cycle`; by `HartArch::commit` and `Log::add` of diva_hart.
use Rattle.std.specs.Prelude.{ℕ, zero, suc, ◌+◌, ◌-◌, ◌%◌, ◌==◌, List, [], ◌∷◌, ◌++◌, length, take, drop, map, Bool, true, false, ◌&&◌, Option, Some, None, is_none, nat_le, nat_lt, if◌then◌else◌}
use Rattle.diva_isa.specs.declared.effect.Effect.{Effect}
use Rattle.diva_isa.specs.declared.effect.Effect.TheVariants.{Nothing, Writes, Stores, Puts}
use Rattle.diva_isa.specs.declared.record.Record.{Record}
use Rattle.diva_isa.specs.State.{goes_on}
use Rattle.diva_isa.specs.Step.{record_of, apply, effect_of}
use Rattle.diva_core.specs.declared.differences.Diff.{Diff}
use Rattle.diva_core.specs.declared.flushes.FlushRow.{FlushRow}
use Rattle.diva_core.specs.declared.flushes.Cause.{Cause}
use Rattle.diva_core.specs.declared.flushes.Cause.TheVariants.{Differs, Silent}
use Rattle.diva_core.specs.Difference.{first_difference}
use Rattle.diva_core.specs.Timed.{Timed, Log, PendingClaim, room_of, depth, rows_kept}

-- ---- what the phases are made of

abbrev pub is_store : Effect → Bool
is_store Nothing = false
is_store (Writes rd value) = false
is_store (Stores width addr value) = true
is_store (Puts byte) = false

-- r is a store that does not trap, so it goes to the store queue
unfoldable pub puts_store : Record → Bool
puts_store r = (r.end == 0) && is_store (effect_of r)

abbrev pub is_silent : Cause → Bool
is_silent (Differs d) = false
is_silent (Silent limit) = true

abbrev pub number : Bool → ℕ
number b = if b then 1 else 0

-- the rows with one more, where there is room to keep it
abbrev pub kept : List FlushRow → FlushRow → List FlushRow
kept rows row = if nat_lt (length rows) rows_kept then rows ++ row ∷ [] else rows

-- the log with one row more
abbrev pub logged : Log → FlushRow → Log
logged log row =
    record {
      rows = kept log.rows row;
      newest = Some row;
      flushes = log.flushes + 1;
      silent = log.silent + number (is_silent row.cause);
    }

-- the row of a flush in the cycle that runs
abbrev pub flush_row : Timed → Cause → FlushRow
flush_row m cause = record { cycle = m.cycles; at = m.count; cause = cause }

-- the machine flushes: nothing is pending, and the next instruction starts solo
unfoldable pub flushed : Timed → Cause → Timed
flushed m cause =
    record m { under = record m.under { pending = []; solo = Some m.cycles; log = logged m.under.log (flush_row m cause) } }

-- a record commits
unfoldable pub committed : Timed → Record → Timed
committed m r = record m { arch = apply m.arch r; count = m.count + 1; owed = m.owed + number (puts_store r) }

-- ---- the phases

abbrev pub begun : Timed → Timed
begun m = record m { cycles = m.cycles + 1 }

-- memory's port takes a store in each cycle whose number the port divides
abbrev pub port_opens : Timed → Bool
port_opens m = m.cycles % m.config.port == 0

-- phase 1, drain: where the port opens, the oldest store that is not in memory yet goes there
unfoldable pub drained : Timed → Timed
drained m = record m { owed = if port_opens m then m.owed - 1 else m.owed }

-- phase 2, commit. A rule says for what an equal claim waits: by the stores that may be owed, by those that are, and by its
-- record
abbrev pub Rule : Type 0
Rule = (stores owed : ℕ) → Record → Bool

-- the machine's rule: a store waits where all are owed
abbrev pub stores_wait : Rule
stores_wait stores owed r = puts_store r && (owed == stores)

-- what becomes of the front claim: it commits, or it flushes by its difference, or it waits
pub data Judgement : Type 0 where
  Commit : Judgement
  Flush : Diff → Judgement
  Wait : Judgement

-- a claim that differs flushes; an equal one commits, unless it waits by the rule
abbrev pub by_difference : Rule → Timed → Option Diff → Judgement
by_difference rule m (Some d) = Flush d
by_difference rule m None = if rule m.config.stores m.owed (record_of m.arch) then Wait else Commit

-- the front claim is judged once it has passed through the checker's stages
abbrev pub by_front : Rule → Timed → List PendingClaim → Judgement
by_front rule m [] = Wait
by_front rule m (p ∷ rest) = if nat_le (p.cycle + depth) m.cycles then by_difference rule m (first_difference p.claim (record_of m.arch)) else Wait

abbrev pub judgement_under : Rule → Timed → Judgement
judgement_under rule m = by_front rule m m.under.pending

-- the machine with these claims pending
abbrev pub with_pending : Timed → List PendingClaim → Timed
with_pending m claims = record m { under = record m.under { pending = claims } }

-- the front claim has committed; an end drops the others too
abbrev pub past_front : Timed → Timed
past_front m =
    let after = committed m (record_of m.arch) in
    with_pending after (if goes_on after.arch then drop 1 m.under.pending else [])

-- the machine by what becomes of its front claim; `further` is what it comes to behind one that commits
abbrev pub by_judgement : Timed → (further : Timed) → Judgement → Timed
by_judgement m further Commit = further
by_judgement m further (Flush d) = flushed m (Differs d)
by_judgement m further Wait = m

-- at most n ready claims are judged, oldest first
abbrev pub judged_under : Rule → ℕ → Timed → Timed
judged_under rule zero m = m
judged_under rule (suc n) m = by_judgement m (judged_under rule n (past_front m)) (judgement_under rule m)

-- no instruction runs solo
abbrev pub without_solo : Timed → Timed
without_solo m = record m { under = record m.under { solo = None } }

-- an instruction that runs solo commits once it has passed through the stages; else the claims are judged
abbrev pub by_solo : Rule → Timed → Option ℕ → Timed
by_solo rule m None = judged_under rule m.config.width m
by_solo rule m (Some start) = if m.cycles == start + depth then committed (without_solo m) (record_of m.arch) else m

unfoldable pub commits_under : Rule → Timed → Timed
commits_under rule m = by_solo rule m m.under.solo

-- phase 3, advance, changes nothing that is seen here

-- phase 4, accept: the first claims of the list become pending, where phase 2 neither flushed nor ended
abbrev pub accepted_in : ℕ → Record → PendingClaim
accepted_in cycle claim = record { claim = claim; cycle = cycle }

abbrev pub accepted : Timed → List Record → Timed → List PendingClaim
accepted before list m =
    if goes_on m.arch && (m.under.log.flushes == before.under.log.flushes)
    then m.under.pending ++ map (accepted_in m.cycles) (take (room_of before) list) else m.under.pending

unfoldable pub accepts : Timed → List Record → Timed → Timed
accepts before list m = with_pending m (accepted before list m)

-- phase 5, watchdog: too many cycles without a commit flush
abbrev pub counted : Timed → Timed → Timed
counted before m = record m { under = record m.under { idle = if m.count == before.count then m.under.idle + 1 else 0 } }

abbrev pub barked : Timed → Timed
barked m = if nat_le m.config.limit m.under.idle && is_none m.under.solo && goes_on m.arch then flushed m (Silent m.config.limit) else m

unfoldable pub watched : Timed → Timed → Timed
watched before m = barked (counted before m)

-- phases 2 to 5 under a rule, from a machine on whose phase 1 is over; `before` is the machine before the cycle
abbrev pub phases_under : Rule → (before m : Timed) → List Record → Timed
phases_under rule before m list = watched before (accepts before list (commits_under rule m))

-- the whole cycle under a rule; an ended machine stays
unfoldable pub cycle_under : Rule → Timed → List Record → Timed
cycle_under rule m list = if goes_on m.arch then phases_under rule m (drained (begun m)) list else m

-- the machine's cycle
abbrev pub cycle_of : Timed → List Record → Timed
cycle_of = cycle_under stores_wait

-- the machine after these lists
abbrev pub run_of : Timed → List (List Record) → Timed
run_of m [] = m
run_of m (list ∷ rest) = run_of (cycle_of m list) rest

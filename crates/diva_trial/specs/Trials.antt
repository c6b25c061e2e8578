-- What becomes of the runs under a fault, with the checker and without it, beside the run that has none.
-- Cited by `Trials::run`; in `Begun.antt`, for `Trials::new`.
use Rattle.std.specs.Prelude.{ℕ, ◌≡◌, ◌↔◌, ◌≤◌, ◌-◌, ◌==◌, ◌&&◌, not, List, [], ◌∷◌, ◌++◌, min, Bool, true, Option, Some, None, nat_le, find, option_map, if◌then◌else◌}
use Rattle.std.specs.List.{list_any}
use Rattle.std.specs.Str.{bytes_eq}
use Rattle.diva_isa.specs.State.{State, goes_on}
use Rattle.diva_isa.specs.End.{end_of}
use Rattle.diva_isa.specs.declared.end.End.{End}
use Rattle.diva_core.specs.declared.flushes.FlushRow.{FlushRow}
use Rattle.diva_core.specs.Timed.{Config, Timed}
use Rattle.diva_core.specs.History.{Meaning}
use Rattle.diva_faults.specs.declared.rows.Row.{Row}
use Rattle.diva_faults.specs.Rows.{row_cycle}
use Rattle.diva_open.specs.Laws.{opened}
use Rattle.diva_open.specs.Open.{Open, new_open, open_cycle_of, stray}
use Rattle.diva_inject.specs.declared.outcome.OpenOutcome.{OpenOutcome}
use Rattle.diva_inject.specs.declared.outcome.OpenOutcome.TheVariants.{Masked, Silent, Trap, Hang, Stray}
use Rattle.diva_inject.specs.declared.outcome.Outcome.{Outcome}
use Rattle.diva_trial.specs.Paths.{Cycling, HasHit, Leads, checked_cycle, lists_on}

-- ---- runs

-- a machine has run until so many cycles had run since it was new, or to its end
pub record RunsTo {C : Type 0} (step : Cycling) (gives : Meaning C) (rows : List Row) (until : ℕ) (o : Open) (core : C) (last : Open) (final : C) : Type 0 where
  pub leads : Leads step gives rows o core last final
  pub within : last.timed.cycles ≤ until
  pub whole : goes_on last.timed.arch ≡ true → last.timed.cycles ≡ until

-- ---- what is told of them

-- a number as far as 32 bits go, which no run of the program comes to
abbrev pub capped : ℕ → ℕ
capped n = min n 4294967295

-- two states have the same memory
abbrev pub has_bytes_of : State → State → Bool
has_bytes_of a b = (a.base == b.base) && bytes_eq a.bytes b.bytes

-- a run came to what another one came to: its end, its count, its output, its registers, its pc and its memory
abbrev pub is_same : Timed → Timed → Bool
is_same a b =
    (a.arch.end == b.arch.end)
    && ((a.count == b.count)
    && (bytes_eq a.arch.output b.arch.output
    && (bytes_eq a.arch.regs b.arch.regs
    && ((a.arch.pc == b.arch.pc)
    && has_bytes_of a.arch b.arch))))

-- a run flushed in a cycle from that of its fault on, in which the run without a fault did not
abbrev pub is_caused : (fault : Row) → (known : List FlushRow) → FlushRow → Bool
is_caused fault known row = nat_le (row_cycle fault) row.cycle && not (list_any (λ k. k.cycle == row.cycle) known)

-- how many cycles came from a fault's first to the first such flush, of those flushes that are kept
abbrev pub latency_of : (fault : Row) → (known rows : List FlushRow) → Option ℕ
latency_of fault known rows = option_map (λ (row : FlushRow). row.cycle - row_cycle fault) (find (is_caused fault known) rows)

-- the number of a trap
abbrev pub is_trap : ℕ → Bool
is_trap end = nat_le 1 end && nat_le end 255

-- what became of the run without the checker, beside the run without a fault. It is silent if something differs, and it halted, or it traps by
-- the same number, or both go on
abbrev pub open_outcome : (free o : Timed) → OpenOutcome
open_outcome free o =
    if o.arch.end == stray then Stray
    else if is_same o free then Masked
    else if goes_on o.arch && not (goes_on free.arch) then Hang
    else if is_trap o.arch.end && not (o.arch.end == free.arch.end) then Trap
    else Silent

-- how it ended, if it met no record that cannot be applied
abbrev pub open_end : ℕ → Option End
open_end end = if end == stray then None else Some (end_of end)

-- what became of the runs under the fault of a number: `free` is the run without a fault, `last` the one with the checker, `o` the one without it
abbrev pub outcome_of : (number : ℕ) → (fault : Row) → (hit : Bool) → (free last : Timed) → (o : Open) → Outcome
outcome_of number fault hit free last o = record {
  number = number;
  fault = fault;
  hit = hit;
  flushes = capped last.under.log.flushes;
  latency = option_map capped (latency_of fault free.under.log.rows last.under.log.rows);
  cycles = capped last.cycles;
  same = is_same last free;
  open_run = open_outcome free o.timed;
  open_place = option_map capped o.place;
  open_end = open_end o.timed.arch.end;
}

-- ---- a trial

-- the run without a fault
pub record IsFree {C : Type 0} (gives : Meaning C) (config : Config) (start : State) (core : C) (script : List Row) (until : ℕ) (free : Timed) : Type 0 where
  pub final : C
  pub runs : RunsTo checked_cycle gives script until (new_open config start) core (opened free) final

-- the runs under a fault led to these machines, with the checker and without it, and this is what became of them
pub record IsTrial {C : Type 0} (gives : Meaning C) (config : Config) (start : State) (core : C) (script : List Row) (until : ℕ) (free : Timed)
    (number : ℕ) (fault : Row) (last : Timed) (o : Open) (outcome : Outcome) : Type 0 where
  pub final : C
  pub runs : RunsTo checked_cycle gives (script ++ fault ∷ []) until (new_open config start) core (opened last) final
  pub hit : (outcome.hit ≡ true) ↔ HasHit checked_cycle script fault (new_open config start) (lists_on runs.leads.path)
  pub open_final : C
  pub open_runs : RunsTo open_cycle_of gives (script ++ fault ∷ []) until (new_open config start) core o open_final
  pub says : outcome ≡ outcome_of number fault outcome.hit free last o

-- so it is of some machines
pub record HasTrial {C : Type 0} (gives : Meaning C) (config : Config) (start : State) (core : C) (script : List Row) (until : ℕ) (free : Timed)
    (number : ℕ) (fault : Row) (outcome : Outcome) : Type 0 where
  pub last : Timed
  pub o : Open
  pub trial : IsTrial gives config start core script until free number fault last o outcome

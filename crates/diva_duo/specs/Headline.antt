-- What a cycle and a run of two harts promise of each hart, whatever is handed over.
-- Cited by `Duo::cycle`.
use Rattle.std.specs.Prelude.{◌≡◌, ◌-◌, List, [], ◌∷◌, ◌⊎◌}
use Rattle.diva_isa.specs.declared.record.Record.{Record}
use Rattle.diva_core.specs.declared.flushes.FlushRow.{FlushRow}
use Rattle.diva_core.specs.Timed.{Timed}
use Rattle.diva_core.specs.Headline.{HasRows, dues}
use Rattle.diva_core.specs.HartCycle.{IsHartCycle, WithFlush, WithoutFlush}
use Rattle.diva_duo.specs.Duo.{Duo, duo_cycle_of, duo_drained}
use Rattle.diva_duo.specs.Which.{Which, machine_at}

-- a hart as its claims are judged in the coming cycle: both harts have drained, and the cycle is not counted yet
abbrev pub judged_at : Which → Duo → Timed
judged_at w d = record (machine_at w (duo_drained d)) { cycles = d.cycles }

-- the cycle from d to e of one hart of two, which committed the records that were due from the state that it saw
abbrev pub CyclesAt : Which → (d e : Duo) → Type 0
CyclesAt w d e =
    let m = judged_at w d in
    let last = machine_at w e in
    IsHartCycle m last (dues (last.count - m.count) m.arch)

-- so each cycle of these pairs of lists is that of a hart
abbrev pub AreCyclesAt : Which → Duo → List (List Record × List Record) → Type 0
AreCyclesAt w d [] = Unit {0}
AreCyclesAt w d (lists ∷ rest) =
    let e = duo_cycle_of d lists.0 lists.1 in
    CyclesAt w d e × AreCyclesAt w e rest

-- the rows are those of a hart's flushes in these cycles, in order: each cycle flushed it with its row, or did not flush it
abbrev pub AreRowsAt : Which → Duo → List (List Record × List Record) → List FlushRow → Type 0
AreRowsAt w d [] rows = rows ≡ []
AreRowsAt w d (lists ∷ rest) [] =
    let e = duo_cycle_of d lists.0 lists.1 in
    WithoutFlush (judged_at w d) (machine_at w e) × AreRowsAt w e rest []
AreRowsAt w d (lists ∷ rest) (row ∷ rows) =
    let e = duo_cycle_of d lists.0 lists.1 in
    (WithoutFlush (judged_at w d) (machine_at w e) × AreRowsAt w e rest (row ∷ rows))
    ⊎ (WithFlush (judged_at w d) (machine_at w e) row × AreRowsAt w e rest rows)

-- the run of these pairs from d to `last` added rows to a hart's log: those of its flushes, of which the log keeps and counts as many
-- as it does of a machine
pub record AddsRowsAt (w : Which) (d : Duo) (lists : List (List Record × List Record)) (last : Duo) : Type 0 where
  pub added : List FlushRow
  pub each : AreRowsAt w d lists added
  pub has : HasRows (machine_at w d).under.log added (machine_at w last).under.log

-- What each cycle of a run promises of each hart, and the rows that these add to its log.
use Rattle.std.proofs.Common.{◌≡◌, ◌≤◌, List, [], ◌∷◌, ◌++◌, length, refl, sym, subst, ◌⊎◌, inl, inr}
use Rattle.diva_isa.specs.declared.record.Record.{Record}
use Rattle.diva_core.specs.declared.flushes.FlushRow.{FlushRow}
use Rattle.diva_core.specs.Timed.{Timed, UnderWay, rows_kept}
use Rattle.diva_core.specs.Headline.{HasRows}
use Rattle.diva_core.specs.HartCycle.{FlushesOnce, WithoutFlush}
use Rattle.diva_core.proofs.Rows.{no_rows, one_row, rows_then}
use Rattle.diva_duo.specs.Duo.{Duo, duo_cycle_of, duo_drained}
use Rattle.diva_duo.specs.Which.{Which, First, Second, hart_at, machine_at}
use Rattle.diva_duo.specs.Between.{IsDuo, duo_run}
use Rattle.diva_duo.specs.Headline.{AddsRowsAt, AreCyclesAt, AreRowsAt, judged_at}
use Rattle.diva_duo.proofs.Readying.{hart_holds}
use Rattle.diva_duo.proofs.Cycles.{cycles_at, stays}

-- ---- a run

abbrev Pair : Type 0
Pair = List Record × List Record

pub are_cycles : (w : Which) (lists : List Pair) (d : Duo) → IsDuo d → AreCyclesAt w d lists
are_cycles w [] d inv = tt
are_cycles w (l ∷ rest) d inv =
    (cycles_at d inv l.0 l.1 w, are_cycles w rest (duo_cycle_of d l.0 l.1) (stays d inv l.0 l.1))

rows-same : (w : Which) (d : Duo) (l : Pair) (rest : List Pair) (rows : List FlushRow)
    → WithoutFlush (judged_at w d) (machine_at w (duo_cycle_of d l.0 l.1)) → AreRowsAt w (duo_cycle_of d l.0 l.1) rest rows → AreRowsAt w d (l ∷ rest) rows
rows-same w d l rest [] s a = (s, a)
rows-same w d l rest (row ∷ rows) s a = inl (s, a)

-- it is judged with the log that it has
log_judged : (w : Which) (d : Duo) → (judged_at w d).under ≡ (hart_at w d).under
unfolding duo_drained
log_judged First d = refl
log_judged Second d = refl

-- the rows that a cycle adds, and those after it
rows_after : (w : Which) (d : Duo) (added more : List FlushRow) (next last : Timed) → HasRows (judged_at w d).under.log added next.under.log → HasRows next.under.log more last.under.log
    → HasRows (machine_at w d).under.log (added ++ more) last.under.log
rows_after w d added more next last a b =
    subst (λ (u : UnderWay). HasRows u.log (added ++ more) last.under.log) (log_judged w d) (rows_then (judged_at w d).under.log next.under.log last.under.log added more a b)

rows_judged : (w : Which) (d : Duo) → IsDuo d → length (judged_at w d).under.log.rows ≤ rows_kept
rows_judged w d inv = subst (λ (u : UnderWay). length u.log.rows ≤ rows_kept) (sym (log_judged w d)) (hart_holds w d inv).machine.rows

-- a cycle, and the run behind it
rows-more :
    (w : Which) (d : Duo) (l : Pair) (rest : List Pair) (last : Duo)
    → IsDuo d
    → WithoutFlush (judged_at w d) (machine_at w (duo_cycle_of d l.0 l.1)) ⊎ FlushesOnce (judged_at w d) (machine_at w (duo_cycle_of d l.0 l.1))
    → AddsRowsAt w (duo_cycle_of d l.0 l.1) rest last
    → AddsRowsAt w d (l ∷ rest) last
rows-more w d l rest last inv (inl s) later =
    let e = duo_cycle_of d l.0 l.1 in
    record {
      added = later.added;
      each = rows-same w d l rest later.added s later.each;
      has = rows_after w d [] later.added (machine_at w e) (machine_at w last)
          (subst (HasRows (judged_at w d).under.log []) (sym s.log) (no_rows (judged_at w d).under.log (rows_judged w d inv))) later.has;
    }
rows-more w d l rest last inv (inr f) later =
    let e = duo_cycle_of d l.0 l.1 in
    record {
      added = f.row ∷ later.added;
      each = inr (f.is, later.each);
      has = rows_after w d (f.row ∷ []) later.added (machine_at w e) (machine_at w last)
          (subst (HasRows (judged_at w d).under.log (f.row ∷ [])) (sym f.is.added.has) (one_row (judged_at w d).under.log f.row (rows_judged w d inv))) later.has;
    }

pub adds_rows : (w : Which) (lists : List Pair) (d : Duo) → IsDuo d → AddsRowsAt w d lists (duo_run d lists)
adds_rows w [] d inv =
    record {
      added = [];
      each = refl;
      has = no_rows (machine_at w d).under.log (hart_holds w d inv).machine.rows;
    }
adds_rows w (l ∷ rest) d inv =
    rows-more w d l rest _ inv (cycles_at d inv l.0 l.1 w).logs (adds_rows w rest (duo_cycle_of d l.0 l.1) (stays d inv l.0 l.1))

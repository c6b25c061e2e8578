-- The rows that many cycles add to the log.
use Rattle.std.specs.List.{All}
use Rattle.std.proofs.Common.{◌≡◌, ℕ, zero, suc, ◌-◌, ◌<◌, ◌≤◌, List, [], ◌∷◌, get_or, refl, ap, sym, subst, ◌∙◌, arith, ◌⊎◌, inl, inr}
use Rattle.std.proofs.lemmas.List.Elements.{All-append}
use Rattle.diva_isa.specs.declared.record.Record.{Record}
use Rattle.diva_isa.specs.Step.{record_of, steps}
use Rattle.diva_core.specs.declared.flushes.FlushRow.{FlushRow}
use Rattle.diva_core.specs.declared.flushes.Cause.{Cause}
use Rattle.diva_core.specs.declared.flushes.Cause.TheVariants.{Differs, Silent}
use Rattle.diva_core.specs.Difference.{field_of}
use Rattle.diva_core.proofs.Differing.{difference-some}
use Rattle.diva_core.specs.Timed.{Timed}
use Rattle.diva_core.specs.Cycle.{cycle_of, run_of}
use Rattle.diva_core.specs.Machine.{IsMachine}
use Rattle.diva_core.specs.Headline.{Rises, SameLog, AddsRows, HasRows, AreRowsOf, IsRowOf, IsRowSince, IsCause, HasCause}
use Rattle.diva_core.proofs.Steps.{steps-add}
use Rattle.diva_core.proofs.Outcomes.{logs, rises}
use Rattle.diva_core.proofs.Keeping.{stays}
use Rattle.diva_core.proofs.Progressing.{same-config}
use Rattle.diva_core.proofs.Rows.{AddsRow, no_rows, one_row, rows_then}

all-one : (P : FlushRow → Type 0) (row : FlushRow) → P row → (k : ℕ) (d : FlushRow) → k < 1 → P (get_or (row ∷ []) k d)
all-one P row p zero d h = p
all-one P row p (suc k) d h = absurd (omega arith)

cause-since : (m last : Timed) (at : ℕ) (cause : Cause) → at ≡ last.count → IsCause m last cause → HasCause m.arch m.config.limit (at - m.count) cause
cause-since m last at (Differs d) e c =
    let s = difference-some c.p.claim (record_of (steps (last.count - m.count) m.arch)) d c.differs in
    (s.differ, s.dues ∙ ap (λ k. field_of d.field (record_of (steps (k - m.count) m.arch))) (sym e))
cause-since m last at (Silent limit) e c = c.0

row-since : (m last : Timed) (row : FlushRow) → Rises m last → IsRowOf m last row → IsRowSince m row
row-since m last row r a =
    record { later = (let e = a.at in let c = r.counted in omega arith); caused = cause-since m last row.at row.cause a.at a.caused }

-- ---- told from an earlier machine

cause-before : (m mid : Timed) (at : ℕ) (cause : Cause) → Rises m mid → mid.config.limit ≡ m.config.limit → mid.count ≤ at → HasCause mid.arch mid.config.limit (at - mid.count) cause → HasCause m.arch m.config.limit (at - m.count) cause
cause-before m mid at (Differs d) r l h c =
    let far : steps (at - mid.count) mid.arch ≡ steps (at - m.count) m.arch =
    ap (steps (at - mid.count)) r.stepped ∙ sym (steps-add (mid.count - m.count) (at - mid.count) m.arch) ∙ ap (λ k. steps k m.arch) (let e = r.counted in omega arith) in
    (c.0, c.1 ∙ ap (λ s. field_of d.field (record_of s)) far)
cause-before m mid at (Silent idle) r l h c = c ∙ l

row-before : (m mid : Timed) (row : FlushRow) → Rises m mid → mid.config.limit ≡ m.config.limit → IsRowSince mid row → IsRowSince m row
row-before m mid row r l s =
    record { later = (let a = s.later in let b = r.counted in omega arith); caused = cause-before m mid row.at row.cause r l s.later s.caused }

all-before : (m mid : Timed) (rows : List FlushRow) → Rises m mid → mid.config.limit ≡ m.config.limit → All (IsRowSince mid) rows → All (IsRowSince m) rows
all-before m mid rows r l a = λ k d h. row-before m mid (get_or rows k d) r l (a k d h)

-- ---- the rows of a run

rows-same : (m : Timed) (list : List Record) (rest : List (List Record)) (rows : List FlushRow) → SameLog m (cycle_of m list) → AreRowsOf (cycle_of m list) rest rows → AreRowsOf m (list ∷ rest) rows
rows-same m list rest [] s a = (s, a)
rows-same m list rest (row ∷ rows) s a = inl (s, a)

-- a cycle, and the run behind it
run-more :
    (m : Timed) (list : List Record) (rest : List (List Record)) (last : Timed)
    → IsMachine m
    → SameLog m (cycle_of m list) ⊎ AddsRow m (cycle_of m list)
    → AddsRows (cycle_of m list) rest last
    → AddsRows m (list ∷ rest) last
run-more m list rest last inv (inl s) later =
    record {
      added = later.added;
      each = rows-same m list rest later.added s later.each;
      since = all-before m (cycle_of m list) later.added (rises m list inv) (ap (λ z. z.limit) (same-config m list inv)) later.since;
      has = rows_then m.under.log (cycle_of m list).under.log last.under.log [] later.added (subst (HasRows m.under.log []) (sym s) (no_rows m.under.log inv.rows)) later.has;
    }
run-more m list rest last inv (inr a) later =
    record {
      added = a.row ∷ later.added;
      each = inr (a.is, later.each);
      since = All-append (IsRowSince m) (a.row ∷ []) later.added
          (all-one (IsRowSince m) a.row (row-since m (cycle_of m list) a.row (rises m list inv) a.is))
          (all-before m (cycle_of m list) later.added (rises m list inv) (ap (λ z. z.limit) (same-config m list inv)) later.since);
      has = rows_then m.under.log (cycle_of m list).under.log last.under.log (a.row ∷ []) later.added (subst (HasRows m.under.log (a.row ∷ [])) (sym a.is.has) (one_row m.under.log a.row inv.rows)) later.has;
    }

pub run-adds : (lists : List (List Record)) (m : Timed) → IsMachine m → AddsRows m lists (run_of m lists)
run-adds [] m inv =
    record { added = []; each = refl; since = λ k d h. absurd (omega arith); has = no_rows m.under.log inv.rows }
run-adds (list ∷ rest) m inv = run-more m list rest _ inv (logs m list inv) (run-adds rest (cycle_of m list) (stays m list inv))

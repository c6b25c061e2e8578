-- Each line that is wrong or missing is flushed.
use Rattle.std.proofs.Common.{◌≡◌, ℕ, ◌+◌, ◌<◌, List, [], ◌∷◌, ◌++◌, length, true, Some, None, ap, sym, ◌∙◌, refl, arith, subst, ◌⊎◌, inl, inr, append_assoc}
use Rattle.std.specs.Prelude.{slice_get}
use Rattle.std.proofs.lemmas.Bool.{cases_lt}
use Rattle.std.proofs.lemmas.List.{append-nil}
use Rattle.std.proofs.lemmas.Option.{none-some}
use Rattle.diva_isa.specs.State.{State, goes_on}
use Rattle.diva_isa.specs.declared.record.Record.{Record}
use Rattle.diva_isa.specs.Step.{record_of}
use Rattle.diva_core.specs.declared.flushes.FlushRow.{FlushRow}
use Rattle.diva_core.specs.Timed.{Timed, Config, PendingClaim, new_timed}
use Rattle.diva_core.specs.Cycle.{cycle_of, stores_wait}
use Rattle.diva_core.specs.Headline.{AreRowsOf, IsRowOf, SameLog}
use Rattle.diva_core.specs.History.{IsHistory, lists_of}
use Rattle.diva_core.specs.Machine.{IsConfig}
use Rattle.diva_core.specs.Told.{told_of}
use Rattle.diva_core.proofs.Cycling.{Cycled, cycled, idled, ran, barks, differed, ended, finished, waited}
use Rattle.diva_core.proofs.Keeping.{stays}
use Rattle.diva_claims.specs.Calls.{claims_call, IsClaimsCall}
use Rattle.diva_claims.specs.Found.{HasRowAt, IsRightOrFlushed}
use Rattle.diva_claims.specs.Said.{IsLineOf}
use Rattle.diva_claims.specs.declared.said.Said.{Said}
use Rattle.diva_claims.proofs.Finding.{flushes-of, Goes, after, new-goes}
use Rattle.diva_claims.proofs.Handing.{One, one-commits, Refused, one-differs}
use Rattle.diva_claims.proofs.Righting.{moved}

-- ---- rows so far, and one more

later-row : (k : ℕ) (rows more : List FlushRow) → HasRowAt k rows → HasRowAt k (rows ++ more)
later-row k [] more h = absurd h
later-row k (row ∷ rows) more (inl here) = inl here
later-row k (row ∷ rows) more (inr h) = inr (later-row k rows more h)

last-row : (k : ℕ) (rows : List FlushRow) (row : FlushRow) → row.at ≡ k → HasRowAt k (rows ++ row ∷ [])
last-row k [] row e = inl e
last-row k (first ∷ rows) row e = inr (last-row k rows row e)

module _ (lines : List Said) (s : State) where
  -- each instruction that was counted is right or was flushed, and one that runs solo was flushed
  record Placed (rows : List FlushRow) (m : Timed) : Type 0 where
    pub each : (k : ℕ) → k < m.count → IsRightOrFlushed lines s rows k
    pub solo : (start : ℕ) → m.under.solo ≡ Some start → HasRowAt m.count rows

  further : (rows more : List FlushRow) (k : ℕ) → IsRightOrFlushed lines s rows k → IsRightOrFlushed lines s (rows ++ more) k
  further rows more k (inl right) = inl right
  further rows more k (inr has) = inr (later-row k rows more has)

  -- one instruction more
  each-more : (rows : List FlushRow) (m : Timed) → Placed rows m → IsRightOrFlushed lines s rows m.count → (k : ℕ) → k < m.count + 1 → IsRightOrFlushed lines s rows k
  each-more rows m p now k h =
      elim (cases_lt k m.count) [
        | inl before ↦ p.each k before
        | inr last ↦ (let e : m.count ≡ k = omega arith in subst (IsRightOrFlushed lines s rows) e now)
      ]

  -- a flush, and nothing commits
  record Flushes (m n : Timed) : Type 0 where
    rose : n.under.log.flushes ≡ m.under.log.flushes + 1
    same : n.count ≡ m.count

  module _ (rows : List FlushRow) (m n : Timed) (list : List Record) (g : Goes lines s m) (p : Placed rows m) where
    -- neither a flush nor a solo instruction
    calmly : n.under.solo ≡ None → ((k : ℕ) → k < n.count → IsRightOrFlushed lines s rows k) → Placed rows n
    calmly none each = record { each = each; solo = λ start e. absurd (none-some _ (sym none ∙ e)) }

    line-now : (k : ℕ) (rest : List PendingClaim) → One (slice_get lines m.count) (record_of m.arch) k rest (length m.under.pending) → IsRightOrFlushed lines s rows m.count
    line-now k rest o = inl (subst (λ t. IsLineOf (slice_get lines m.count) (record_of t)) g.at o.line)

    placed : Cycled stores_wait m list n → Placed rows n ⊎ Flushes m n
    placed (idled r) = inl (calmly r.solo (λ k h. p.each k (let b = r.base.counted in omega arith)))
    placed (ran r) =
        let o : One (slice_get lines m.count) (record_of m.arch) r.k r.rest (length m.under.pending) = one-commits (slice_get lines m.count) m.arch r.k (m.cycles + 1) m.under.pending r.rest g.pending r.claims in
        inl (calmly r.solo (λ k h. each-more rows m p (line-now r.k r.rest o) k (let b = r.base.counted in let e = o.only in omega arith)))
    placed (barks r) = inr (record { rose = flushes-of r.log; same = r.base.counted ∙ omega arith })
    placed (differed r) =
        let o : Refused (slice_get lines m.count) (record_of m.arch) r.k r.p = one-differs (slice_get lines m.count) m.arch r.k (m.cycles + 1) m.under.pending r.p r.rest g.pending r.claims in
        inr (record { rose = flushes-of r.log; same = (let b = r.base.counted in let e = o.none in omega arith) })
    placed (ended r) =
        let o : One (slice_get lines m.count) (record_of m.arch) r.k r.rest (length m.under.pending) = one-commits (slice_get lines m.count) m.arch r.k (m.cycles + 1) m.under.pending r.rest g.pending r.claims in
        inl (calmly r.solo (λ k h. each-more rows m p (line-now r.k r.rest o) k (let b = r.base.counted in let e = o.only in omega arith)))
    placed (finished r) = inl (calmly r.solo (λ k h. each-more rows m p (inr (p.solo r.start r.since)) k (let b = r.base.counted in omega arith)))
    placed (waited r) =
        let c : n.count ≡ m.count = r.base.counted ∙ omega arith in
        inl (record { each = λ k h. p.each k (omega arith); solo = λ start e. subst (λ x. HasRowAt x rows) (sym c) (p.solo r.start r.since) })

    -- a cycle that leaves the log as it was
    placed-same : SameLog m n → Placed rows n ⊎ Flushes m n → Placed rows n
    placed-same e (inl q) = q
    placed-same e (inr f) = absurd (let l = flushes-of e in let r = f.rose in omega arith)

    -- a cycle that adds a row
    placed-row : (row : FlushRow) → IsRowOf m n row → Placed rows n ⊎ Flushes m n → Placed (rows ++ row ∷ []) n
    placed-row row is (inl q) = record { each = λ k h. further rows (row ∷ []) k (q.each k h); solo = λ start e. later-row n.count rows (row ∷ []) (q.solo start e) }
    placed-row row is (inr f) =
        record {
          each = λ k h. further rows (row ∷ []) k (p.each k (let c = f.same in omega arith));
          solo = λ start e. last-row n.count rows row is.at;
        }

  -- a turn of the core
  record Turned (rows : List FlushRow) (m : Timed) (list : List Record) : Type 0 where
    goes : Goes lines s (cycle_of m list)
    placed : Placed rows (cycle_of m list) ⊎ Flushes m (cycle_of m list)

  turned : (rows : List FlushRow) (m : Timed) (list : List Record) (before final : List Said) → Goes lines s m → Placed rows m → before ≡ lines → goes_on m.arch ≡ true
      → IsClaimsCall before (told_of m) m.arch list final → Turned rows m list
  turned rows m list before final g p same on call =
      let given : list ≡ claims_call lines (told_of m) m.arch = call.lists ∙ ap (λ xs. claims_call xs (told_of m) m.arch) same in
      let n : Timed = cycle_of m list in
      let way : Cycled stores_wait m list n = cycled m list g.machine on in
      record { goes = after lines s m n list g given (stays m list g.machine) (moved s m list g.machine g.at) way; placed = placed rows m n list g p way }

  history-placed : (earlier rows : List FlushRow) (m last : Timed) (before final : List Said) (history : List (List Record × List Said))
      → Goes lines s m → Placed earlier m → before ≡ lines → IsHistory IsClaimsCall m before history last final → AreRowsOf m (lists_of history) rows
      → Placed (earlier ++ rows) last
  history-placed earlier rows m last before final [] g p same h a =
      let none : earlier ++ rows ≡ earlier = ap (λ xs. earlier ++ xs) a ∙ append-nil earlier in
      subst (λ (n : Timed). Placed (earlier ++ rows) n) (sym h.0) (subst (λ xs. Placed xs m) (sym none) p)
  history-placed earlier [] m last before final (turn ∷ rest) g p same h a =
      let one : Turned earlier m turn.0 = turned earlier m turn.0 before turn.1 g p same h.0 h.1.0 in
      history-placed earlier [] (cycle_of m turn.0) last turn.1 final rest one.goes (placed-same earlier m (cycle_of m turn.0) turn.0 g p a.0 one.placed) (h.1.0.keeps ∙ same) h.1.1 a.1
  history-placed earlier (row ∷ rows) m last before final (turn ∷ rest) g p same h (inl none) =
      let one : Turned earlier m turn.0 = turned earlier m turn.0 before turn.1 g p same h.0 h.1.0 in
      history-placed earlier (row ∷ rows) (cycle_of m turn.0) last turn.1 final rest one.goes (placed-same earlier m (cycle_of m turn.0) turn.0 g p none.0 one.placed) (h.1.0.keeps ∙ same) h.1.1 none.1
  history-placed earlier (row ∷ rows) m last before final (turn ∷ rest) g p same h (inr some) =
      let one : Turned earlier m turn.0 = turned earlier m turn.0 before turn.1 g p same h.0 h.1.0 in
      subst (λ xs. Placed xs last) (append_assoc earlier (row ∷ []) rows)
      (history-placed (earlier ++ row ∷ []) rows (cycle_of m turn.0) last turn.1 final rest one.goes (placed-row earlier m (cycle_of m turn.0) turn.0 g p row some.0 one.placed) (h.1.0.keeps ∙ same) h.1.1 some.1)

pub right_or_flushed :
    (config : Config) (s : State) (lines : List Said) → IsConfig config → s.instret ≡ 0
    → (last : Timed) (after : List Said) (history : List (List Record × List Said))
    → IsHistory IsClaimsCall (new_timed config s) lines history last after
    → (rows : List FlushRow) → AreRowsOf (new_timed config s) (lists_of history) rows
    → (k : ℕ) → k < last.count → IsRightOrFlushed lines s rows k
right_or_flushed config s lines ok none last final history h rows a =
    let p : Placed lines s rows last =
    history-placed lines s [] rows (new_timed config s) last lines final history (new-goes lines s config ok none)
    (record { each = λ k f. absurd (omega arith); solo = λ start e. absurd (none-some _ e) }) refl h a in
    p.each

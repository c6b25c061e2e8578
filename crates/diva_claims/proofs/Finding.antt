-- What a run tells of its lines.
use Rattle.std.proofs.Common.{◌≡◌, ℕ, ◌+◌, ◌<◌, List, [], ◌∷◌, length, Option, Some, None, ap, sym, ◌∙◌, refl, arith, subst, inl, inr}
use Rattle.std.specs.Prelude.{slice_get, IfSome}
use Rattle.std.proofs.lemmas.Bool.{cases_lt}
use Rattle.std.proofs.lemmas.Option.{none-some}
use Rattle.diva_isa.specs.State.{State}
use Rattle.diva_isa.specs.declared.record.Record.{Record}
use Rattle.diva_isa.specs.Step.{record_of, steps}
use Rattle.diva_core.specs.Difference.{first_difference}
use Rattle.diva_core.specs.Timed.{Timed, Log, Config, new_timed, room_of}
use Rattle.diva_core.specs.Cycle.{cycle_of, stores_wait}
use Rattle.diva_core.specs.History.{IsHistory}
use Rattle.diva_core.specs.Machine.{IsMachine, IsConfig}
use Rattle.diva_core.specs.Told.{told_of}
use Rattle.diva_core.specs.declared.differences.Diff.{Diff}
use Rattle.diva_core.proofs.Cycling.{Cycled, cycled, idled, ran, barks, differed, ended, finished, waited}
use Rattle.diva_core.proofs.Keeping.{stays}
use Rattle.diva_core.proofs.Starting.{new-machine}
use Rattle.diva_claims.specs.Calls.{claims_call, IsClaimsCall}
use Rattle.diva_claims.specs.Found.{IsWrongIn, TellsWrongLine}
use Rattle.diva_claims.specs.Said.{IsLineOf}
use Rattle.diva_claims.specs.declared.said.Said.{Said}
use Rattle.diva_claims.proofs.Handing.{AreHanded, IsHanded, One, Refused, handed-more, one-commits, one-differs, ran-empty}
use Rattle.diva_claims.proofs.Righting.{moved}

pub flushes-of : {a b : Log} → a ≡ b → a.flushes ≡ b.flushes
flushes-of e = ap (λ (l : Log). l.flushes) e

pub newest-of : {a b : Log} → a ≡ b → a.newest ≡ b.newest
newest-of e = ap (λ (l : Log). l.newest) e

wrong-in : (o : Option Said) (due claim : Record) (d : Diff) → IsHanded o due claim → first_difference claim due ≡ Some d → IsWrongIn o due d
wrong-in None due claim d h e = h
wrong-in (Some said) due claim d h e = subst (λ c. first_difference c due ≡ Some d) h e

-- ---- each machine of a history

module _ (lines : List Said) (s : State) where
  pub record Goes (m : Timed) : Type 0 where
    pub machine : IsMachine m
    pub at : m.arch ≡ steps m.count s
    pub pending : AreHanded (slice_get lines m.count) (record_of m.arch) m.under.pending
    pub solo : m.under.log.flushes ≡ 0 → m.under.solo ≡ None
    pub right : m.under.log.flushes ≡ 0 → (k : ℕ) → k < m.count → IsLineOf (slice_get lines k) (record_of (steps k s))
    pub newest : IfSome m.under.log.newest (TellsWrongLine lines s)

  -- one line more is right
  right-more : (m : Timed) → Goes m → IsLineOf (slice_get lines m.count) (record_of m.arch) → m.under.log.flushes ≡ 0
      → (k : ℕ) → k < m.count + 1 → IsLineOf (slice_get lines k) (record_of (steps k s))
  right-more m g line none k h =
      elim (cases_lt k m.count) [
        | inl before ↦ g.right none k before
        | inr behind ↦
            let e : m.count ≡ k = omega arith in
            subst (λ j. IsLineOf (slice_get lines j) (record_of (steps j s))) e (subst (λ t. IsLineOf (slice_get lines m.count) (record_of t)) g.at line)
      ]

  module _ (m n : Timed) (list : List Record) (g : Goes m) (given : list ≡ claims_call lines (told_of m) m.arch) (inv : IsMachine n) (at : n.arch ≡ steps n.count s) where
    -- nothing is pending behind it
    handed-nothing : n.under.pending ≡ [] → AreHanded (slice_get lines n.count) (record_of n.arch) n.under.pending
    handed-nothing e = rw e tt

    pub after : Cycled stores_wait m list n → Goes n
    after (idled r) =
        let c : n.count ≡ m.count = r.base.counted ∙ omega arith in
        record {
          machine = inv;
          at = at;
          pending = rw (c, r.base.stepped, r.pending, given) (handed-more (slice_get lines m.count) m.arch m.under.pending (m.cycles + 1) (room_of m) g.pending);
          solo = λ f. r.solo;
          right = λ f k h. g.right (sym (flushes-of r.log) ∙ f) k (omega arith);
          newest = rw (newest-of r.log) g.newest;
        }
    after (ran r) =
        let o : One (slice_get lines m.count) (record_of m.arch) r.k r.rest (length m.under.pending) = one-commits (slice_get lines m.count) m.arch r.k (m.cycles + 1) m.under.pending r.rest g.pending r.claims in
        let c : n.count ≡ m.count + 1 = (let b = r.base.counted in let e = o.only in omega arith) in
        record {
          machine = inv;
          at = at;
          pending = handed-nothing (ran-empty (slice_get lines m.count) m n list g.pending given r);
          solo = λ f. r.solo;
          right = λ f k h. right-more m g o.line (sym (flushes-of r.log) ∙ f) k (omega arith);
          newest = rw (newest-of r.log) g.newest;
        }
    after (barks r) =
        record {
          machine = inv;
          at = at;
          pending = handed-nothing r.pending;
          solo = λ f. absurd (let e = (flushes-of r.log) in omega arith);
          right = λ f k h. absurd (let e = (flushes-of r.log) in omega arith);
          newest = rw (newest-of r.log) tt;
        }
    after (differed r) =
        let o : Refused (slice_get lines m.count) (record_of m.arch) r.k r.p = one-differs (slice_get lines m.count) m.arch r.k (m.cycles + 1) m.under.pending r.p r.rest g.pending r.claims in
        let c : n.count ≡ m.count = (let b = r.base.counted in let e = o.none in omega arith) in
        let same : n.arch ≡ m.arch = r.base.stepped ∙ ap (λ k. steps k m.arch) o.none in
        let handed : IsHanded (slice_get lines n.count) (record_of n.arch) r.p.claim = rw (c, same) o.handed in
        record {
          machine = inv;
          at = at;
          pending = handed-nothing r.pending;
          solo = λ f. absurd (let e = (flushes-of r.log) in omega arith);
          right = λ f k h. absurd (let e = (flushes-of r.log) in omega arith);
          newest = rw ((newest-of r.log), ← at) (wrong-in (slice_get lines n.count) (record_of n.arch) r.p.claim r.d handed r.first);
        }
    after (ended r) =
        let o : One (slice_get lines m.count) (record_of m.arch) r.k r.rest (length m.under.pending) = one-commits (slice_get lines m.count) m.arch r.k (m.cycles + 1) m.under.pending r.rest g.pending r.claims in
        let c : n.count ≡ m.count + 1 = (let b = r.base.counted in let e = o.only in omega arith) in
        record {
          machine = inv;
          at = at;
          pending = handed-nothing r.pending;
          solo = λ f. r.solo;
          right = λ f k h. right-more m g o.line (sym (flushes-of r.log) ∙ f) k (omega arith);
          newest = rw (newest-of r.log) g.newest;
        }
    after (finished r) =
        record {
          machine = inv;
          at = at;
          pending = handed-nothing r.pending;
          solo = λ f. r.solo;
          right = λ f k h. absurd (none-some _ (sym (g.solo (sym (flushes-of r.log) ∙ f)) ∙ r.since));
          newest = rw (newest-of r.log) g.newest;
        }
    after (waited r) =
        let c : n.count ≡ m.count = r.base.counted ∙ omega arith in
        record {
          machine = inv;
          at = at;
          pending = handed-nothing r.pending;
          solo = λ f. absurd (none-some _ (sym (g.solo (sym (flushes-of r.log) ∙ f)) ∙ r.since));
          right = λ f k h. g.right (sym (flushes-of r.log) ∙ f) k (omega arith);
          newest = rw (newest-of r.log) g.newest;
        }

  history-goes : (m last : Timed) (before after : List Said) (history : List (List Record × List Said))
      → Goes m → before ≡ lines → IsHistory IsClaimsCall m before history last after → Goes last
  history-goes m last before final [] g same h = subst Goes (sym h.0) g
  history-goes m last before final (turn ∷ rest) g same h =
      let given : turn.0 ≡ claims_call lines (told_of m) m.arch = h.1.0.lists ∙ ap (λ xs. claims_call xs (told_of m) m.arch) same in
      let n : Timed = cycle_of m turn.0 in
      history-goes n last turn.1 final rest
      (after m n turn.0 g given (stays m turn.0 g.machine) (moved s m turn.0 g.machine g.at) (cycled m turn.0 g.machine h.0))
      (h.1.0.keeps ∙ same) h.1.1

  pub new-goes : (config : Config) → IsConfig config → s.instret ≡ 0 → Goes (new_timed config s)
  new-goes config ok none =
      record { machine = new-machine config s ok none; at = refl; pending = tt; solo = λ f. refl; right = λ f k h. absurd (omega arith); newest = tt }

pub unflushed_right :
    (config : Config) (s : State) (lines : List Said) → IsConfig config → s.instret ≡ 0
    → (last : Timed) (after : List Said) (history : List (List Record × List Said))
    → IsHistory IsClaimsCall (new_timed config s) lines history last after
    → last.under.log.flushes ≡ 0 → (k : ℕ) → k < last.count → IsLineOf (slice_get lines k) (record_of (steps k s))
unflushed_right config s lines ok none last final history h =
    let g : Goes lines s last = history-goes lines s (new_timed config s) last lines final history (new-goes lines s config ok none) refl h in
    g.right

pub newest_tells :
    (config : Config) (s : State) (lines : List Said) → IsConfig config → s.instret ≡ 0
    → (last : Timed) (after : List Said) (history : List (List Record × List Said))
    → IsHistory IsClaimsCall (new_timed config s) lines history last after
    → IfSome last.under.log.newest (TellsWrongLine lines s)
newest_tells config s lines ok none last final history h =
    let g : Goes lines s last = history-goes lines s (new_timed config s) last lines final history (new-goes lines s config ok none) refl h in
    g.newest

-- The watchdog barks only if there is no line.
use Rattle.std.proofs.Common.{◌≡◌, true, List, [], ◌∷◌, Option, Some, None, ap, sym, ◌∙◌, refl, arith, subst}
use Rattle.std.specs.Prelude.{slice_get, IfSome}
use Rattle.std.proofs.lemmas.Option.{none-some}
use Rattle.diva_isa.specs.State.{State, goes_on}
use Rattle.diva_isa.specs.declared.record.Record.{Record}
use Rattle.diva_core.specs.Timed.{Timed, Config, new_timed}
use Rattle.diva_core.specs.Cycle.{cycle_of, stores_wait}
use Rattle.diva_core.specs.History.{IsHistory}
use Rattle.diva_core.specs.Machine.{IsConfig}
use Rattle.diva_core.specs.Told.{told_of}
use Rattle.diva_core.proofs.Cycling.{Barked, Cycled, cycled, idled, ran, barks, differed, ended, finished, waited}
use Rattle.diva_core.proofs.Keeping.{stays}
use Rattle.diva_claims.specs.Calls.{claims_call, IsClaimsCall}
use Rattle.diva_claims.specs.Found.{TellsMissingLine}
use Rattle.diva_claims.specs.declared.said.Said.{Said}
use Rattle.diva_claims.proofs.Finding.{Goes, after, newest-of, new-goes}
use Rattle.diva_claims.proofs.Handing.{ran-empty}
use Rattle.diva_claims.proofs.Waiting.{WaitsBy, no_bark, waits-on}
use Rattle.diva_claims.proofs.Righting.{moved}

module _ (lines : List Said) (s : State) where
  pub record Prompt (m : Timed) : Type 0 where
    pub waits : (said : Said) → slice_get lines m.count ≡ Some said → m.under.solo ≡ None → WaitsBy m m.under.pending
    pub newest : IfSome m.under.log.newest (TellsMissingLine lines)

  module _ (m n : Timed) (list : List Record) (g : Goes lines s m) (p : Prompt m) (on : goes_on m.arch ≡ true) (given : list ≡ claims_call lines (told_of m) m.arch) where
    -- nothing is pending behind it
    emptied : n.under.pending ≡ [] → n.under.idle ≡ 0 → WaitsBy n n.under.pending
    emptied e i = subst (WaitsBy n) (sym e) i

    no-line : (r : Barked stores_wait m n) (o : Option Said) → slice_get lines m.count ≡ o → o ≡ None
    no-line r None e = refl
    no-line r (Some said) e = absurd (no_bark m n r m.under.pending g.machine.config (p.waits said e r.was))

    pub prompt-after : Cycled stores_wait m list n → Prompt n
    prompt-after (idled r) =
        let c : n.count ≡ m.count = r.base.counted ∙ omega arith in
        record {
          waits = λ said line none.
              let here : slice_get lines m.count ≡ Some said = ap (slice_get lines) (sym c) ∙ line in
              waits-on (slice_get lines m.count) m n list g.machine on given r said m.under.pending refl here (p.waits said here r.was);
          newest = rw (newest-of r.log) p.newest;
        }
    prompt-after (ran r) = record { waits = λ said line none. emptied (ran-empty (slice_get lines m.count) m n list g.pending given r) r.idle; newest = rw (newest-of r.log) p.newest }
    prompt-after (barks r) =
        let c : n.count ≡ m.count = r.base.counted ∙ omega arith in
        record {
          waits = λ said line none. absurd (none-some _ (sym none ∙ r.solo));
          newest = rw (newest-of r.log) (λ silent. ap (slice_get lines) c ∙ no-line r (slice_get lines m.count) refl);
        }
    prompt-after (differed r) =
        record { waits = λ said line none. absurd (none-some _ (sym none ∙ r.solo)); newest = rw (newest-of r.log) (λ silent. absurd (cc)) }
    prompt-after (ended r) = record { waits = λ said line none. emptied r.pending r.idle; newest = rw (newest-of r.log) p.newest }
    prompt-after (finished r) = record { waits = λ said line none. emptied r.pending r.idle; newest = rw (newest-of r.log) p.newest }
    prompt-after (waited r) =
        record { waits = λ said line none. absurd (none-some _ (sym none ∙ r.solo)); newest = rw (newest-of r.log) p.newest }

  pub new-prompt : (config : Config) → Prompt (new_timed config s)
  new-prompt config = record { waits = λ said line none. refl; newest = tt }

  history-prompt : (m last : Timed) (before final : List Said) (history : List (List Record × List Said))
      → Goes lines s m → Prompt m → before ≡ lines → IsHistory IsClaimsCall m before history last final → Prompt last
  history-prompt m last before final [] g p same h = subst Prompt (sym h.0) p
  history-prompt m last before final (turn ∷ rest) g p same h =
      let given : turn.0 ≡ claims_call lines (told_of m) m.arch = h.1.0.lists ∙ ap (λ xs. claims_call xs (told_of m) m.arch) same in
      let n : Timed = cycle_of m turn.0 in
      let way : Cycled stores_wait m turn.0 n = cycled m turn.0 g.machine h.0 in
      history-prompt n last turn.1 final rest
      (after lines s m n turn.0 g given (stays m turn.0 g.machine) (moved s m turn.0 g.machine g.at) way)
      (prompt-after m n turn.0 g p h.0 given way)
      (h.1.0.keeps ∙ same) h.1.1

pub silent_tells :
    (config : Config) (s : State) (lines : List Said) → IsConfig config → s.instret ≡ 0
    → (last : Timed) (after : List Said) (history : List (List Record × List Said))
    → IsHistory IsClaimsCall (new_timed config s) lines history last after
    → IfSome last.under.log.newest (TellsMissingLine lines)
silent_tells config s lines ok none last final history h =
    let p : Prompt lines s last =
    history-prompt lines s (new_timed config s) last lines final history (new-goes lines s config ok none) (new-prompt lines s config) refl h in
    p.newest

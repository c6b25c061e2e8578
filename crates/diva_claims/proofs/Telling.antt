-- What each row of a run tells of its line.
use Rattle.std.proofs.Common.{◌≡◌, zero, suc, List, [], ◌∷◌, ap, ◌∙◌, refl, arith, subst, inl, inr}
use Rattle.std.specs.Prelude.{IfSome}
use Rattle.std.specs.List.{All}
use Rattle.diva_isa.specs.State.{State}
use Rattle.diva_isa.specs.declared.record.Record.{Record}
use Rattle.diva_core.specs.declared.flushes.FlushRow.{FlushRow}
use Rattle.diva_core.specs.Timed.{Timed, Config, new_timed}
use Rattle.diva_core.specs.Cycle.{cycle_of, stores_wait}
use Rattle.diva_core.specs.Headline.{AreRowsOf, IsRowOf}
use Rattle.diva_core.specs.History.{IsHistory, lists_of}
use Rattle.diva_core.specs.Machine.{IsConfig}
use Rattle.diva_core.specs.Told.{told_of}
use Rattle.diva_core.proofs.Cycling.{Cycled, cycled}
use Rattle.diva_core.proofs.Keeping.{stays}
use Rattle.diva_claims.specs.Calls.{claims_call, IsClaimsCall}
use Rattle.diva_claims.specs.Found.{TellsMissingLine, TellsWrongLine}
use Rattle.diva_claims.specs.declared.said.Said.{Said}
use Rattle.diva_claims.proofs.Barking.{Prompt, new-prompt, prompt-after}
use Rattle.diva_claims.proofs.Finding.{Goes, after, new-goes, newest-of}
use Rattle.diva_claims.proofs.Righting.{moved}

All-more : {X : Type 0} (P : X → Type 0) (x : X) (xs : List X) → P x → All P xs → All P (x ∷ xs)
All-more P x xs p h zero d lt = p
All-more P x xs p h (suc k) d lt = h k d (omega arith)

module _ (lines : List Said) (s : State) where
  -- what both kinds of rows tell
  record Tells (row : FlushRow) : Type 0 where
    pub wrong : TellsWrongLine lines s row
    pub missing : TellsMissingLine lines row

  -- the row that a cycle has added is the newest
  row-tells : (m n : Timed) (row : FlushRow) → Goes lines s n → Prompt lines s n → IsRowOf m n row → Tells row
  row-tells m n row g p is =
      record { wrong = subst (λ o. IfSome o (TellsWrongLine lines s)) (newest-of is.has) g.newest; missing = subst (λ o. IfSome o (TellsMissingLine lines)) (newest-of is.has) p.newest }

  rows-tell : (m last : Timed) (before final : List Said) (history : List (List Record × List Said)) (rows : List FlushRow)
      → Goes lines s m → Prompt lines s m → before ≡ lines → IsHistory IsClaimsCall m before history last final
      → AreRowsOf m (lists_of history) rows → All Tells rows
  rows-tell m last before final history [] g p same h a = λ k d lt. absurd (omega arith)
  rows-tell m last before final [] (row ∷ rows) g p same h a = absurd (grind (arith, a))
  rows-tell m last before final (turn ∷ rest) (row ∷ rows) g p same h a =
      let given : turn.0 ≡ claims_call lines (told_of m) m.arch = h.1.0.lists ∙ ap (λ xs. claims_call xs (told_of m) m.arch) same in
      let n : Timed = cycle_of m turn.0 in
      let way : Cycled stores_wait m turn.0 n = cycled m turn.0 g.machine h.0 in
      let goes : Goes lines s n = after lines s m n turn.0 g given (stays m turn.0 g.machine) (moved s m turn.0 g.machine g.at) way in
      let prompt : Prompt lines s n = prompt-after lines s m n turn.0 g p h.0 given way in
      elim a [
        | inl none ↦ rows-tell n last turn.1 final rest (row ∷ rows) goes prompt (h.1.0.keeps ∙ same) h.1.1 none.1
        | inr one ↦ All-more Tells row rows (row-tells m n row goes prompt one.0) (rows-tell n last turn.1 final rest rows goes prompt (h.1.0.keeps ∙ same) h.1.1 one.1)
      ]

-- each row of a run from a new machine on
run-tells :
    (config : Config) (s : State) (lines : List Said) → IsConfig config → s.instret ≡ 0
    → (last : Timed) (after : List Said) (history : List (List Record × List Said))
    → IsHistory IsClaimsCall (new_timed config s) lines history last after
    → (rows : List FlushRow) → AreRowsOf (new_timed config s) (lists_of history) rows → All (Tells lines s) rows
run-tells config s lines ok none last final history h rows a =
    rows-tell lines s (new_timed config s) last lines final history rows (new-goes lines s config ok none) (new-prompt lines s config) refl h a

pub rows_tell_wrong :
    (config : Config) (s : State) (lines : List Said) → IsConfig config → s.instret ≡ 0
    → (last : Timed) (after : List Said) (history : List (List Record × List Said))
    → IsHistory IsClaimsCall (new_timed config s) lines history last after
    → (rows : List FlushRow) → AreRowsOf (new_timed config s) (lists_of history) rows → All (TellsWrongLine lines s) rows
rows_tell_wrong config s lines ok none last final history h rows a = λ k d lt. (run-tells config s lines ok none last final history h rows a k d lt).wrong

pub rows_tell_missing :
    (config : Config) (s : State) (lines : List Said) → IsConfig config → s.instret ≡ 0
    → (last : Timed) (after : List Said) (history : List (List Record × List Said))
    → IsHistory IsClaimsCall (new_timed config s) lines history last after
    → (rows : List FlushRow) → AreRowsOf (new_timed config s) (lists_of history) rows → All (TellsMissingLine lines) rows
rows_tell_missing config s lines ok none last final history h rows a = λ k d lt. (run-tells config s lines ok none last final history h rows a k d lt).missing

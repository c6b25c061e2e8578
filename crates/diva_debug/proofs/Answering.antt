-- What a reply tells.
use Rattle.std.proofs.Common.{◌≡◌, ◌≢◌, ℕ, ◌+◌, ◌<◌, ◌==◌, true, false, [], ◌∷◌, Option, Some, None, refl, ap, sym, ◌∙◌, subst, inl, inr, IsNone}
use Rattle.std.specs.Prelude.{◌↔◌}
use Rattle.std.proofs.lemmas.Bool.{cases_Bool, cases_lt, eqb-true, eq-eqb, false_from_ne_true, le-leb, lt-leb, true≢false}
use Rattle.diva_isa.specs.State.{State, goes_on}
use Rattle.diva_isa.specs.declared.end.End.{End}
use Rattle.diva_core.specs.Timed.{Timed}
use Rattle.diva_core.specs.declared.flushes.FlushRow.{FlushRow}
use Rattle.diva_outside.specs.Text.{Text}
use Rattle.diva_trace.specs.Lines.{flush_line}
use Rattle.diva_debug.specs.declared.command.Command.{Command}
use Rattle.diva_debug.specs.declared.command.Command.TheVariants.{Back, Until}
use Rattle.diva_debug.specs.Moves.{IsFar, Moves, steps_by}
use Rattle.diva_debug.specs.Replies.{at_line, back_line, ended_line, far_line, kept_line, no_flush, place_line, reply_at, stop_line, until_line, why_line}
use Rattle.diva_debug.proofs.Stepping.{far-exactly}

abbrev first_byte : Text → ℕ
first_byte [] = 0
first_byte (b ∷ text) = b

-- ---- far

far-not-at : (place pc : ℕ) → at_line place pc ≡ far_line place pc → ⊥
unfolding at_line far_line place_line
far-not-at place pc e = true≢false (ap (λ (t : Text). first_byte t == 97) e)

far-not-ended : (place pc : ℕ) (end : End) → ended_line place end ≡ far_line place pc → ⊥
unfolding ended_line far_line place_line
far-not-ended place pc end e = true≢false (ap (λ (t : Text). first_byte t == 101) e)

line-far-on : (pc place : ℕ) (s : State) → until_line pc place s ≡ far_line place s.pc → goes_on s ≡ true
unfolding until_line stop_line
line-far-on pc place s e =
    elim (cases_Bool (goes_on s)) [
      | inl on ↦ on
      | inr off ↦ absurd (far-not-ended place s.pc _ (rw off at e))
    ]

line-far-elsewhere : (pc place : ℕ) (s : State) → goes_on s ≡ true → until_line pc place s ≡ far_line place s.pc → s.pc ≢ pc
unfolding until_line stop_line
line-far-elsewhere pc place s on e there =
    let t : (s.pc == pc) ≡ true = eq-eqb s.pc pc there in
    far-not-at place s.pc (rw (on, t) at e)

far-line : (pc place : ℕ) (s : State) → goes_on s ≡ true → s.pc ≢ pc → until_line pc place s ≡ far_line place s.pc
unfolding until_line
far-line pc place s on other =
    let f : (s.pc == pc) ≡ false = false_from_ne_true _ (λ t. other (eqb-true s.pc pc t)) in
    rw (on, f) refl

module _ (pc kept : ℕ) (m last : Timed) (newest : Option FlushRow) where
  by-until : Moves (steps_by (Until pc) m.arch) m last → (reply_at (Until pc) kept last.count last.arch newest ≡ far_line last.count last.arch.pc) ↔ IsFar pc m last
  unfolding reply_at steps_by
  by-until moved =
      let stepped = moved.count in (
        λ e.
            let on : goes_on last.arch ≡ true = line-far-on pc last.count last.arch e in
            let other : last.arch.pc ≢ pc = line-far-elsewhere pc last.count last.arch on e in
            record {
              stepped = moved.count ∙ ap (λ k. m.count + k) (far-exactly 100000 pc m.arch (ap goes_on (sym moved.arch) ∙ on) (λ e. other (ap (λ (s : State). s.pc) moved.arch ∙ e)));
              on = on;
              elsewhere = other;
            },
        λ far. far-line pc last.count last.arch far.on far.elsewhere,
      )

  pub tells_far : (command : Command) (line : Text)
      → line ≡ reply_at command kept last.count last.arch newest
      → Moves (steps_by command m.arch) m last
      → command ≡ Until pc
      → (line ≡ far_line last.count last.arch.pc) ↔ IsFar pc m last
  tells_far command line is moved until =
      let b = by-until (subst (λ (c : Command). Moves (steps_by c m.arch) m last) until moved) in
      let same : line ≡ reply_at (Until pc) kept last.count last.arch newest = is ∙ ap (λ (c : Command). reply_at c kept last.count last.arch newest) until in
      (λ e. b.0 (sym same ∙ e), λ far. same ∙ b.1 far)

-- ---- kept

kept-not-at : (kept place pc : ℕ) → at_line place pc ≡ kept_line kept → ⊥
unfolding at_line kept_line place_line
kept-not-at kept place pc e = true≢false (ap (λ (t : Text). first_byte t == 97) e)

back-kept : (k kept place pc : ℕ) → back_line k kept place pc ≡ kept_line kept → kept < k
unfolding back_line
back-kept k kept place pc e =
    elim (cases_lt kept k) [
      | inl few ↦ few
      | inr enough ↦ absurd (kept-not-at kept place pc (rw (le-leb k kept enough) at e))
    ]

kept-back : (k kept place pc : ℕ) → kept < k → back_line k kept place pc ≡ kept_line kept
unfolding back_line
kept-back k kept place pc few = rw (lt-leb k kept few) refl

pub tells_kept : (k kept place : ℕ) (s : State) (newest : Option FlushRow) (command : Command) (line : Text)
    → line ≡ reply_at command kept place s newest → command ≡ Back k → (line ≡ kept_line kept) ↔ (kept < k)
unfolding reply_at
tells_kept k kept place s newest command line is back =
    let same : line ≡ back_line k kept place s.pc = is ∙ ap (λ (c : Command). reply_at c kept place s newest) back in
    (λ e. back-kept k kept place s.pc (sym same ∙ e), λ few. same ∙ kept-back k kept place s.pc few)

-- ---- no flush

flush-not-none : (row : FlushRow) → flush_line row ≡ no_flush → ⊥
unfolding flush_line
flush-not-none row e = true≢false (ap (λ (t : Text). first_byte t == 102) e)

is-none : (newest : Option FlushRow) → why_line newest ≡ no_flush → IsNone newest
is-none None e = refl
is-none (Some row) e = absurd (flush-not-none row e)

none-is : (newest : Option FlushRow) → IsNone newest → why_line newest ≡ no_flush
none-is None h = refl
none-is (Some row) h = absurd (true≢false h)

pub tells_none : (newest : Option FlushRow) (flushes : ℕ) → IsNone newest ↔ (flushes ≡ 0) → (why_line newest ≡ no_flush) ↔ (flushes ≡ 0)
tells_none newest flushes none = (λ e. none.0 (is-none newest e), λ zero. none-is newest (none.1 zero))

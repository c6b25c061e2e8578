-- What a verdict says of the lines of a log.
use Rattle.std.proofs.Common.{◌≡◌, ◌≢◌, inl, inr, ◌∙◌, ◌+◌, ◌-◌, ◌≤◌, ◌<◌, ℕ, zero, suc, Bool, true, false, List, [], ◌∷◌, length, Option, Some, None, ap, sym, refl, subst, arith, nat_lt, slice_get, if◌then◌else◌, ◌==◌}
use Rattle.std.proofs.lemmas.Bool.{and_parts, ltb-true, ltb-false, or_cases, or_parts}
use Rattle.std.proofs.lemmas.Option.{none-some}
use Rattle.diva_isa.specs.End.{end_of}
use Rattle.diva_isa.specs.State.{State, goes_on}
use Rattle.diva_isa.specs.Step.{record_of, step, steps}
use Rattle.diva_isa.specs.declared.end.End.{End}
use Rattle.diva_isa.specs.declared.end.End.TheVariants.{GoesOn, Halt, Trap}
use Rattle.diva_core.proofs.Steps.{steps-shift}
use Rattle.diva_outside.specs.Text.{Text}
use Rattle.diva_claims.specs.Said.{IsLineOf}
use Rattle.diva_claims.specs.Wrong.{first_wrong}
use Rattle.diva_claims.specs.declared.said.Said.{Said}
use Rattle.diva_claims.specs.declared.wrong.Wrong.{Wrong}
use Rattle.diva_claims.proofs.Wronging.{none_right, right_none}
use Rattle.diva_judge.specs.Judgement.{Judged, has_wrong, is_wrong, judges, left_over, none_judged, verdict_by, verdict_of, with_line, with_lines, with_said}
use Rattle.diva_judge.specs.Judging.{HasWrongLine, IsWholeRight, judged_of}
use Rattle.diva_judge.specs.Logs.{log_of}
use Rattle.diva_judge.specs.declared.terms.Terms.{Terms}
use Rattle.diva_judge.specs.declared.verdict.Verdict.{Verdict}
use Rattle.diva_judge.specs.declared.verdict.Verdict.TheVariants as verdict

-- ---- one line

said_off : (stop : Option ℕ) (said : Said) (j : Judged) → judges stop j ≡ false → with_said stop said j ≡ j
said_off stop said j off = rw off refl

said_on : (stop : Option ℕ) (said : Said) (j : Judged) → judges stop j ≡ true → with_said stop said j ≡ with_line said j
said_on stop said j on = rw on refl

goes : (stop : Option ℕ) (j : Judged) → judges stop j ≡ true → goes_on j.state ≡ true
goes stop j on = (and_parts (goes_on j.state) _ on).0

stays : (stop : Option ℕ) (lines : List Said) (j : Judged) → judges stop j ≡ false → with_lines stop lines j ≡ j
stays stop [] j off = refl
stays stop (said ∷ lines) j off = ap (with_lines stop lines) (said_off stop said j off) ∙ stays stop lines j off

-- how a line counts
one_wrong : (said : Said) (s : State) (w : Wrong) → first_wrong said (record_of s) ≡ Some w → ◌≡◌ {A = ℕ} (if is_wrong said s then 1 else 0) 1
one_wrong said s w e = rw e refl

none_wrong : (said : Said) (s : State) → first_wrong said (record_of s) ≡ None → ◌≡◌ {A = ℕ} (if is_wrong said s then 1 else 0) 0
none_wrong said s e = rw e refl

-- ---- some lines: how many of them were judged at most, and that the count of wrong lines rises

record Bounds (lines : ℕ) (j last : Judged) : Type 0 where
  least : j.lines ≤ last.lines
  most : last.lines ≤ j.lines + lines
  wrong : j.wrong ≤ last.wrong

bounds : (stop : Option ℕ) (lines : List Said) (j : Judged) → Bounds (length lines) j (with_lines stop lines j)
bounds stop [] j = record { least = omega arith; most = omega arith; wrong = omega arith }
bounds stop (said ∷ lines) j = by_test (bounds stop lines (with_line said j)) (bounds stop lines j) (judges stop j) refl
  where
    by_test : Bounds (length lines) (with_line said j) (with_lines stop lines (with_line said j)) → Bounds (length lines) j (with_lines stop lines j)
        → (t : Bool) → judges stop j ≡ t → Bounds (length (said ∷ lines)) j (with_lines stop (said ∷ lines) j)
    by_test b c true on =
        rw (said_on stop said j on) (record { least = omega (arith, b.least); most = omega (arith, b.most); wrong = omega (arith, b.wrong) })
    by_test b c false off =
        rw (said_off stop said j off) (record { least = c.least; most = omega (arith, c.most); wrong = c.wrong })

-- the state is that of as many steps, before each of which the program went on
record Steps (j last : Judged) : Type 0 where
  state : (n : ℕ) → last.lines ≡ j.lines + n → last.state ≡ steps n j.state
  before : (k : ℕ) → j.lines + k < last.lines → goes_on (steps k j.state) ≡ true

-- of a line that is judged, and of others
steps_more : (said : Said) (j last : Judged) → goes_on j.state ≡ true → (with_line said j).lines ≤ last.lines → Steps (with_line said j) last → Steps j last
steps_more said j last on least later = record { state = state; before = before }
  where
    state : (n : ℕ) → last.lines ≡ j.lines + n → last.state ≡ steps n j.state
    state zero is = absurd (omega (arith, least, is))
    state (suc n) is = later.state n (omega (arith, is)) ∙ steps-shift n j.state

    before : (k : ℕ) → j.lines + k < last.lines → goes_on (steps k j.state) ≡ true
    before zero less = on
    before (suc k) less = ap goes_on (sym (steps-shift k j.state)) ∙ later.before k (omega (arith, less))

steps_of : (stop : Option ℕ) (lines : List Said) (j : Judged) → Steps j (with_lines stop lines j)
steps_of stop [] j = record {
  state = λ n is. let none : 0 ≡ n = omega (arith, is) in ap (λ (n : ℕ). steps n j.state) none;
  before = λ k less. absurd (omega (arith, less));
}
steps_of stop (said ∷ lines) j = by_test (steps_of stop lines (with_line said j)) (steps_of stop lines j) (judges stop j) refl
  where
    by_test : Steps (with_line said j) (with_lines stop lines (with_line said j)) → Steps j (with_lines stop lines j)
        → (t : Bool) → judges stop j ≡ t → Steps j (with_lines stop (said ∷ lines) j)
    by_test later same true on =
        rw (said_on stop said j on)
        (steps_more said j (with_lines stop lines (with_line said j)) (goes stop j on) (bounds stop lines (with_line said j)).least later)
    by_test later same false off = rw (said_off stop said j off) same

-- ---- a line that is right, and one that is wrong

right_line : (said : Said) (j : Judged) (last : ℕ) → (with_line said j).wrong ≤ last → last ≡ j.wrong → IsLineOf (Some said) (record_of j.state)
right_line said j last most is = none_right said j.state (by_wrong (first_wrong said (record_of j.state)) refl)
  where
    by_wrong : (w : Option Wrong) → first_wrong said (record_of j.state) ≡ w → first_wrong said (record_of j.state) ≡ None
    by_wrong None e = e
    by_wrong (Some w) e = absurd (omega (arith, most, is, one_wrong said j.state w e))

-- all lines were judged, and none was wrong
AllRight : List Said → State → Type 0
AllRight lines s = (k : ℕ) → k < length lines → IsLineOf (slice_get lines k) (record_of (steps k s))

right_more : (said : Said) (lines : List Said) (s : State) → IsLineOf (Some said) (record_of s) → AllRight lines (step s) → AllRight (said ∷ lines) s
unfolding AllRight
right_more said lines s first later zero less = first
right_more said lines s first later (suc k) less =
    subst (λ (s : State). IsLineOf (slice_get lines k) (record_of s)) (steps-shift k s) (later k (omega (arith, less)))

all_right : (stop : Option ℕ) (lines : List Said) (j : Judged)
    → (with_lines stop lines j).lines ≡ j.lines + length lines → (with_lines stop lines j).wrong ≡ j.wrong → AllRight lines j.state
unfolding AllRight
all_right stop [] j all none = λ k less. absurd (omega (arith, less))
all_right stop (said ∷ lines) j all none = by_test (all_right stop lines (with_line said j)) (judges stop j) refl
  where
    by_test : ((with_lines stop lines (with_line said j)).lines ≡ (with_line said j).lines + length lines
        → (with_lines stop lines (with_line said j)).wrong ≡ (with_line said j).wrong → AllRight lines (step j.state))
        → (t : Bool) → judges stop j ≡ t → AllRight (said ∷ lines) j.state
    by_test later false off = absurd (omega (arith, ap (λ (j : Judged). j.lines) (stays stop (said ∷ lines) j off), all))
    by_test later true on =
        let is : with_lines stop (said ∷ lines) j ≡ with_lines stop lines (with_line said j) = ap (with_lines stop lines) (said_on stop said j on) in
        let b = bounds stop lines (with_line said j) in
        let none : (with_lines stop lines (with_line said j)).wrong ≡ j.wrong = ap (λ (j : Judged). j.wrong) (sym is) ∙ none in
        let all : (with_lines stop lines (with_line said j)).lines ≡ j.lines + length (said ∷ lines) = ap (λ (j : Judged). j.lines) (sym is) ∙ all in
        right_more said lines j.state (right_line said j (with_lines stop lines (with_line said j)).wrong b.wrong none)
        (later (omega (arith, all)) (omega (arith, none, b.wrong)))

-- a line that says something that is not due, of an instruction of the program
record Finds (lines : List Said) (s : State) : Type 0 where
  place : ℕ
  there : place < length lines
  before : (k : ℕ) → k < place → goes_on (steps k s) ≡ true
  on : goes_on (steps place s) ≡ true
  wrong : IsLineOf (slice_get lines place) (record_of (steps place s)) → ⊥

finds_first : (said : Said) (lines : List Said) (s : State) → goes_on s ≡ true → (w : Wrong) → first_wrong said (record_of s) ≡ Some w → Finds (said ∷ lines) s
finds_first said lines s on w e = record {
  place = zero;
  there = omega arith;
  before = λ k less. absurd (omega (arith, less));
  on = on;
  wrong = λ is. none-some w (sym (right_none said s is) ∙ e);
}

finds_later : (said : Said) (lines : List Said) (s : State) → goes_on s ≡ true → Finds lines (step s) → Finds (said ∷ lines) s
finds_later said lines s on f = record {
  place = suc f.place;
  there = omega (arith, f.there);
  before = before;
  on = ap goes_on (sym (steps-shift f.place s)) ∙ f.on;
  wrong = λ is. f.wrong (subst (λ (s : State). IsLineOf (slice_get lines f.place) (record_of s)) (sym (steps-shift f.place s)) is);
}
  where
    before : (k : ℕ) → k < suc f.place → goes_on (steps k s) ≡ true
    before zero less = on
    before (suc k) less = ap goes_on (sym (steps-shift k s)) ∙ f.before k (omega (arith, less))

-- the count of wrong lines rose
finds : (stop : Option ℕ) (lines : List Said) (j : Judged) → j.wrong < (with_lines stop lines j).wrong → Finds lines j.state
finds stop [] j rose = absurd (omega (arith, rose))
finds stop (said ∷ lines) j rose = by_test (finds stop lines (with_line said j)) (judges stop j) refl
  where
    by_wrong : ((with_line said j).wrong < (with_lines stop lines (with_line said j)).wrong → Finds lines (step j.state))
        → (w : Option Wrong) → first_wrong said (record_of j.state) ≡ w → goes_on j.state ≡ true
        → j.wrong < (with_lines stop lines (with_line said j)).wrong → Finds (said ∷ lines) j.state
    by_wrong later (Some w) e on rose = finds_first said lines j.state on w e
    by_wrong later None e on rose = finds_later said lines j.state on (later (omega (arith, rose, none_wrong said j.state e)))

    by_test : ((with_line said j).wrong < (with_lines stop lines (with_line said j)).wrong → Finds lines (step j.state))
        → (t : Bool) → judges stop j ≡ t → Finds (said ∷ lines) j.state
    by_test later false off = absurd (omega (arith, ap (λ (j : Judged). j.wrong) (stays stop (said ∷ lines) j off), rose))
    by_test later true on =
        by_wrong later (first_wrong said (record_of j.state)) refl (goes stop j on)
        (omega (arith, rose, ap (λ (j : Judged). j.wrong) (ap (with_lines stop lines) (said_on stop said j on))))

-- ---- the verdicts

-- nothing is wrong, and the program has ended
record Ended (n : ℕ) (j : Judged) : Type 0 where
  none : j.wrong ≡ 0
  over : goes_on j.state ≡ false
  all : n ≤ j.lines

ended_by : (n : ℕ) (j : Judged) → has_wrong n j ≡ false → goes_on j.state ≡ false → Ended n j
ended_by n j right over =
    let parts = or_parts (nat_lt 0 j.wrong) (nat_lt 0 (left_over n j)) right in
    let none_left : left_over n j ≤ 0 = ltb-false 0 (left_over n j) parts.1 in
    let left : left_over n j ≡ n - j.lines = rw over refl in
    record { none = omega (arith, ltb-false 0 j.wrong parts.0); over = over; all = omega (arith, none_left, left) }

-- the verdict is neither that something is wrong nor that lines are missing
module _ (n : ℕ) (j : Judged) (not_wrong : verdict_of n j ≢ verdict.Wrong) (not_short : verdict_of n j ≢ verdict.Short) where
  not_wrong_is : has_wrong n j ≡ false
  not_wrong_is = by_test (has_wrong n j) refl
    where
      by_test : (t : Bool) → has_wrong n j ≡ t → has_wrong n j ≡ false
      by_test false e = e
      by_test true e = absurd (not_wrong (rw e refl))

  not_short_is : goes_on j.state ≡ false
  not_short_is = by_test (j.state.end == 0) refl
    where
      by_test : (t : Bool) → (j.state.end == 0) ≡ t → (j.state.end == 0) ≡ false
      by_test false e = e
      by_test true e = absurd (not_short (rw (not_wrong_is, e) refl))

  ended : Ended n j
  ended = ended_by n j not_wrong_is not_short_is

-- no verdict is another one
abbrev pub kind : Verdict → ℕ
kind verdict.Halted = 0
kind verdict.Trapped = 1
kind verdict.Short = 2
kind verdict.Wrong = 3
kind verdict.Refused = 4
kind verdict.Unread = 5

pub differ : (a b : Verdict) → (kind a ≡ kind b → ⊥) → a ≡ b → ⊥
differ a b apart same = apart (ap kind same)

module _ (terms : Terms) (s : State) (lines : List Text) where
  abbrev said : List Said
  said = (log_of lines).said

  abbrev last : Judged
  last = judged_of terms s (log_of lines)

  whole : Ended (length said) last → IsWholeRight s lines
  unfolding AllRight
  whole e =
      let b = bounds terms.stop said (none_judged s) in
      let all : last.lines ≡ length said = omega (arith, b.most, e.all) in
      let of = steps_of terms.stop said (none_judged s) in
      record {
        ends = record {
          ended = ap goes_on (sym (of.state (length said) (omega (arith, all)))) ∙ e.over;
          before = λ k less. of.before k (omega (arith, less, all));
        };
        right = all_right terms.stop said (none_judged s) (omega (arith, all)) e.none;
      }

  pub halted_right : verdict_of (length said) last ≡ verdict.Halted → IsWholeRight s lines
  halted_right is =
      whole (ended (length said) last (λ e. differ verdict.Halted verdict.Wrong (λ same. omega (arith, same)) (sym is ∙ e))
      (λ e. differ verdict.Halted verdict.Short (λ same. omega (arith, same)) (sym is ∙ e)))

  pub trapped_right : verdict_of (length said) last ≡ verdict.Trapped → IsWholeRight s lines
  trapped_right is =
      whole (ended (length said) last (λ e. differ verdict.Trapped verdict.Wrong (λ same. omega (arith, same)) (sym is ∙ e))
      (λ e. differ verdict.Trapped verdict.Short (λ same. omega (arith, same)) (sym is ∙ e)))

  found : Finds said s → HasWrongLine s lines
  found f = record { place = f.place; there = f.there; before = f.before; wrong = inl (f.on, f.wrong) }

  left : 0 < left_over (length said) last → HasWrongLine s lines
  left some = by_test (goes_on last.state) refl
    where
      by_test : (t : Bool) → goes_on last.state ≡ t → HasWrongLine s lines
      by_test true on =
          let none : left_over (length said) last ≡ 0 = rw on refl in
          absurd (omega (arith, some, none))
      by_test false over =
          let is : left_over (length said) last ≡ length said - last.lines = rw over refl in
          let of = steps_of terms.stop said (none_judged s) in
          record {
            place = last.lines;
            there = omega (arith, some, is);
            before = λ k less. of.before k (omega (arith, less));
            wrong = inr (ap goes_on (sym (of.state last.lines (omega arith))) ∙ over);
          }

  pub wrong_found : verdict_of (length said) last ≡ verdict.Wrong → HasWrongLine s lines
  wrong_found is = by_test (has_wrong (length said) last) refl
    where
      by_end : (end : End) → verdict_by end ≡ verdict.Wrong → HasWrongLine s lines
      by_end GoesOn is = absurd (differ verdict.Short verdict.Wrong (λ same. omega (arith, same)) is)
      by_end (Halt status) is = absurd (differ verdict.Halted verdict.Wrong (λ same. omega (arith, same)) is)
      by_end (Trap number) is = absurd (differ verdict.Trapped verdict.Wrong (λ same. omega (arith, same)) is)

      by_test : (t : Bool) → has_wrong (length said) last ≡ t → HasWrongLine s lines
      by_test false right = by_end (end_of last.state.end) (rw right at is)
      by_test true wrong =
          elim (or_cases (nat_lt 0 last.wrong) (nat_lt 0 (left_over (length said) last)) wrong) [
            | inl some ↦ found (finds terms.stop said (none_judged s) (ltb-true 0 last.wrong some))
            | inr some ↦ left (ltb-true 0 (left_over (length said) last) some)
          ]

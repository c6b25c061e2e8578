-- Lines of trials, one after the other.
use Rattle.std.proofs.Common.{◌≡◌, ◌++◌, ℕ, List, [], ◌∷◌, Result, Ok, Err, length, take, refl, ap, sym, subst, ◌∙◌, append_assoc, append-nil, length-append, arith}
use Rattle.std.specs.List.{flat_map}
use Rattle.std.proofs.lemmas.Grind.{flat_map-append}
use Rattle.std.proofs.lemmas.List.{take-append-le, take_all}
use Rattle.diva_outside.specs.Lent.{lent}
use Rattle.diva_outside.specs.Sink.{LentSink, PutsTo, SinkAccount}
use Rattle.diva_outside.specs.declared.sink.SinkFailed.{SinkFailed}
use Rattle.diva_outside.proofs.Sinks.{past_nothing, puts_past, puts_then}
use Rattle.diva_inject.specs.Lines.{header_text, outcome_text}
use Rattle.diva_inject.specs.declared.outcome.Outcome.{Outcome}
use Rattle.diva_isa.specs.State.{State}
use Rattle.diva_core.specs.History.{Meaning}
use Rattle.diva_core.specs.Timed.{Config}
use Rattle.diva_inject.specs.Plans.{Plan}
use Rattle.diva_trial.specs.declared.trials.Trials.{Trials}
use Rattle.diva_trial.specs.Lines.{AreOutcomes, IsOutcome, PutsTrials, before_last, trials_text}
use Rattle.diva_trial.specs.Putting.{AreOfOneRun, PutsOutcome, PutsSome}

-- one outcome more
outcomes_more : (this : ℕ → Outcome → Type 0) (numbers : List ℕ) (outcomes : List Outcome) (number : ℕ) (outcome : Outcome)
    → AreOutcomes this numbers outcomes → this number outcome → AreOutcomes this (numbers ++ number ∷ []) (outcomes ++ outcome ∷ [])
outcomes_more this [] [] number outcome are is = (is, tt)
outcomes_more this (n ∷ numbers) (o ∷ outcomes) number outcome are is = (are.0, outcomes_more this numbers outcomes number outcome are.1 is)
outcomes_more this [] (o ∷ outcomes) number outcome are is = absurd are
outcomes_more this (n ∷ numbers) [] number outcome are is = absurd are

text_more : (outcomes : List Outcome) (outcome : Outcome) → trials_text (outcomes ++ outcome ∷ []) ≡ trials_text outcomes ++ outcome_text outcome
text_more outcomes outcome =
    ap (λ (t : List ℕ). header_text ++ t) (flat_map-append outcome_text outcomes (outcome ∷ []) ∙ ap (λ (t : List ℕ). flat_map outcome_text outcomes ++ t) (append-nil (outcome_text outcome)))
    ∙ sym (append_assoc header_text (flat_map outcome_text outcomes) (outcome_text outcome))

text_none : trials_text [] ≡ header_text
text_none = append-nil header_text

before_more : (outcomes : List Outcome) (outcome : Outcome) → before_last (outcomes ++ outcome ∷ []) ≡ trials_text outcomes
before_more [] outcome = refl
before_more (o ∷ outcomes) outcome =
    let long : length (outcomes ++ outcome ∷ []) ≡ length (o ∷ outcomes) = length-append outcomes (outcome ∷ []) ∙ omega arith in
    ap (λ n. trials_text (take n (o ∷ outcomes ++ outcome ∷ []))) long
    ∙ ap trials_text (take-append-le (length (o ∷ outcomes)) (o ∷ outcomes) (outcome ∷ []) (omega arith) ∙ take_all (length (o ∷ outcomes)) (o ∷ outcomes) (omega arith))

module _ {S : Type 0} (this : ℕ → Outcome → Type 0) (numbers : List ℕ) (account : S → SinkAccount) where
  -- the header was put
  pub put_header : (left : List ℕ) (s0 s1 : S) → numbers ≡ left → PutsTo {E = SinkFailed} (lent account s0 s1) header_text (Ok tt) → PutsSome this numbers left (lent account s0 s1)
  put_header left s0 s1 all put =
      record { done = []; in_order = all; outcomes = []; are = tt; put = subst (λ (t : List ℕ). PutsTo {E = SinkFailed} (lent account s0 s1) t (Ok tt)) (sym text_none) put }

  -- or the sink failed in it
  pub cut_header : (s0 s1 : S) (e : SinkFailed) → PutsTo (lent account s0 s1) header_text (Err e) → PutsTrials this numbers (lent account s0 s1) (Err e)
  cut_header s0 s1 e put =
      let none : PutsTo (lent account s0 s1) (trials_text []) (Err e) = subst (λ (t : List ℕ). PutsTo (lent account s0 s1) t (Err e)) (sym text_none) put in
      record { done = []; later = numbers; in_order = refl; outcomes = []; are = tt; put = none; all = tt; cut = past_nothing (lent account s0 s1) (trials_text []) none.part }

  -- one line more was put
  pub put_more : (number : ℕ) (left : List ℕ) (s0 s1 s2 : S)
      → PutsSome this numbers (number ∷ left) (lent account s0 s1) → PutsOutcome (this number) (lent account s1 s2) (Ok tt) → PutsSome this numbers left (lent account s0 s2)
  put_more number left s0 s1 s2 some one =
      record {
        done = some.done ++ number ∷ [];
        in_order = some.in_order ∙ sym (append_assoc some.done (number ∷ []) left);
        outcomes = some.outcomes ++ one.outcome ∷ [];
        are = outcomes_more this some.done some.outcomes number one.outcome some.are one.is;
        put = subst (λ (t : List ℕ). PutsTo {E = SinkFailed} (lent account s0 s2) t (Ok tt)) (sym (text_more some.outcomes one.outcome))
            (puts_then account (trials_text some.outcomes) (outcome_text one.outcome) s0 s1 s2 (Ok tt) some.put one.put);
      }

  -- or the sink failed in it
  pub cut_more : (number : ℕ) (left : List ℕ) (s0 s1 s2 : S) (e : SinkFailed)
      → PutsSome this numbers (number ∷ left) (lent account s0 s1) → PutsOutcome (this number) (lent account s1 s2) (Err e) → PutsTrials this numbers (lent account s0 s2) (Err e)
  cut_more number left s0 s1 s2 e some one =
      record {
        done = some.done ++ number ∷ [];
        later = left;
        in_order = some.in_order ∙ sym (append_assoc some.done (number ∷ []) left);
        outcomes = some.outcomes ++ one.outcome ∷ [];
        are = outcomes_more this some.done some.outcomes number one.outcome some.are one.is;
        put = subst (λ (t : List ℕ). PutsTo (lent account s0 s2) t (Err e)) (sym (text_more some.outcomes one.outcome))
            (puts_then account (trials_text some.outcomes) (outcome_text one.outcome) s0 s1 s2 (Err e) some.put one.put);
        all = tt;
        cut = rw (before_more some.outcomes one.outcome, text_more some.outcomes one.outcome)
            (puts_past account (trials_text some.outcomes) (outcome_text one.outcome) s0 s1 s2 e some.put one.put);
      }

  -- no line is left
  pub put_all : (left : List ℕ) (s0 s1 : S) → left ≡ [] → PutsSome this numbers left (lent account s0 s1) → PutsTrials {E = SinkFailed} this numbers (lent account s0 s1) (Ok tt)
  put_all left s0 s1 none some =
      record { done = some.done; later = left; in_order = some.in_order; outcomes = some.outcomes; are = some.are; put = some.put; all = none; cut = tt }

-- what holds of the trials as they stand holds of those that they began as
pub as_outcome :
    {C S : Type 0} (gives : Meaning C) (before after : Trials C) (plan : Plan) (number : ℕ) (sink : LentSink S) (result : Result (Unit {0}) SinkFailed)
    (config : Config) (start : State) (core : C)
    → AreOfOneRun gives before after
    → PutsOutcome (IsOutcome gives config start core after plan number) sink result → PutsOutcome (IsOutcome gives config start core before plan number) sink result
as_outcome gives before after plan number sink result config start core same one = rw (← same.free, ← same.script, ← same.until) one

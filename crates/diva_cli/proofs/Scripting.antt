-- A drive under a script, of which the core is asked by itself before the first cycle that a row touches, and behind the last.
use Rattle.diva_cli.proofs.Polling.{asked_over-append}
use Rattle.diva_machine.specs.Asked.{asked_over}
use Rattle.diva_vote.specs.Questions.{Question}
use Rattle.diva_isa.specs.declared.record.Record.{Record}
use Rattle.diva_core.proofs.Turning.{IsHistory-run}
use Rattle.std.proofs.lemmas.List.{map-append}
use Rattle.std.proofs.Common.{◌≡◌, ℕ, ◌+◌, ◌-◌, min, true, false, List, ◌++◌, sym, ◌∙◌, arith, length-append, ap, subst}
use Rattle.std.proofs.lemmas.Bool.{true≢false}
use Rattle.diva_isa.specs.State.{goes_on}
use Rattle.diva_core.specs.History.{Meaning, Turns, lists_of, IsHistory}
use Rattle.diva_core.specs.Machine.{IsMachine}
use Rattle.diva_core.specs.Timed.{Timed}
use Rattle.diva_core.proofs.Pacing.{turns-stay}
use Rattle.diva_faults.specs.Spoiled.{spoiled}
use Rattle.diva_faults.specs.Touched.{end_of_rows, first_touched}
use Rattle.diva_faults.specs.declared.rows.Row.{Row}
use Rattle.diva_faults.proofs.Laying.{before_first, behind_end}
use Rattle.diva_faults.proofs.Spoiling.{Turns-untouched}
use Rattle.diva_machine.proofs.Counting.{IsHistory-then}
use Rattle.diva_cli.specs.Changes.{change}
use Rattle.diva_cli.specs.Tasks.{DrivesFor}

-- ---- turns, and turns behind them

unfoldable Turns-then : {C : Type 0} (gives : Meaning C) (m : Timed) (core : C) (mid : Timed) (between : C) (last : Timed) (final : C)
    → Turns gives m core mid between → Turns gives mid between last final → Turns gives m core last final
Turns-then gives m core mid between last final t then =
    record {
      history = t.history ++ then.history;
      good = IsHistory-then gives m core t.history mid between then.history last final t.good then.good;
      each = (let e = t.each in let f = then.each in let l = length-append t.history then.history in omega arith);
    }

-- what was asked in both
asked-then :
    {C : Type 0} (gives : Meaning C) (m : Timed) (core : C) (mid : Timed) (between : C) (history more : List (List Record × C)) (this that both : List Question → Type 0)
    → IsHistory gives m core history mid between
    → ((xs ys : List Question) → this xs → that ys → both (xs ++ ys))
    → this (asked_over m (lists_of history)) → that (asked_over mid (lists_of more)) → both (asked_over m (lists_of (history ++ more)))
asked-then gives m core mid between history more this that both good join first second =
    let ran = IsHistory-run gives m core history mid between good in
    let lists : lists_of (history ++ more) ≡ lists_of history ++ lists_of more = map-append (λ turn. turn.0) history more in
    subst both (sym (ap (asked_over m) lists ∙ asked_over-append m (lists_of history) (lists_of more)))
    (join _ _ first (subst (λ (k : Timed). that (asked_over k (lists_of more))) ran second))

-- ---- the three parts, of which the first is of `few` cycles, and leads to `one`, and the second is of `more`, and leads to `two`

module _ {C : Type 0} (gives : Meaning C) (rows : List Row) (m : Timed) (core : C) (budget few : ℕ) (one : Timed) (between : C) (this : List Question → Type 0)
    (inv : IsMachine m) (before : few ≡ min (m.cycles + budget) (first_touched rows - 1) - m.cycles)
    (first : DrivesFor gives few (change m one) (change core between) this) where
  -- in the cycles before the first that a row touches, the turns of a core are its turns under the script
  unfoldable turns_before : Turns (spoiled rows gives) m core one between
  turns_before =
      let most = first.most in
      Turns-untouched gives rows m core one between inv (λ now list later within. before_first now rows list (omega arith)) first.turns

  asked_before : this (asked_over m (lists_of turns_before.history))
  unfolding turns_before Turns-untouched
  asked_before = first.asked

  -- a machine that ended there was driven far enough
  pub ended_before : goes_on one.arch ≡ false → DrivesFor (spoiled rows gives) budget (change m one) (change core between) this
  ended_before off =
      record { turns = turns_before; asked = asked_before; most = (let w = first.most in omega arith); whole = λ on. absurd (true≢false (sym on ∙ off)) }

  module _ (more : ℕ) (two : Timed) (after : C) (that both : List Question → Type 0)
      (touched : more ≡ min (m.cycles + budget) (end_of_rows rows - 1) - one.cycles)
      (second : DrivesFor (spoiled rows gives) more (change one two) (change between after) that)
      (join : (xs ys : List Question) → this xs → that ys → both (xs ++ ys)) where
    unfoldable turns_touched : Turns (spoiled rows gives) m core two after
    turns_touched = Turns-then (spoiled rows gives) m core one between two after turns_before second.turns

    asked_touched : both (asked_over m (lists_of turns_touched.history))
    unfolding turns_touched Turns-then
    asked_touched =
        asked-then (spoiled rows gives) m core one between turns_before.history second.turns.history this that both turns_before.good join asked_before second.asked

    pub ended_touched : goes_on two.arch ≡ false → DrivesFor (spoiled rows gives) budget (change m two) (change core after) both
    ended_touched off =
        record {
          turns = turns_touched;
          asked = asked_touched;
          most = (let w = first.most in let v = second.most in omega arith);
          whole = λ on. absurd (true≢false (sym on ∙ off));
        }

    -- in the cycles behind the last that a row touches, the turns of a core are its turns under the script, too
    pub drives_behind :
        (rest : ℕ) (last : Timed) (final : C) (other all : List Question → Type 0) → goes_on two.arch ≡ true → rest ≡ (m.cycles + budget) - two.cycles
        → DrivesFor gives rest (change two last) (change after final) other
        → ((xs ys : List Question) → both xs → other ys → all (xs ++ ys))
        → DrivesFor (spoiled rows gives) budget (change m last) (change core final) all
    unfolding Turns-untouched Turns-then
    drives_behind rest last final other all on_two left third joined =
        let w = first.most in
        let v = second.most in
        let u = second.whole on_two in
        let t = third.most in
        let later : Turns (spoiled rows gives) two after last final =
        Turns-untouched gives rows two after last final (turns-stay (spoiled rows gives) m core two after inv turns_touched)
        (λ now list later within. behind_end now rows list (omega arith)) third.turns in
        record {
          turns = Turns-then (spoiled rows gives) m core two after last final turns_touched later;
          asked = asked-then (spoiled rows gives) m core two after turns_touched.history third.turns.history both other all turns_touched.good joined asked_touched third.asked;
          most = omega arith;
          whole = λ on. (let s = third.whole on in omega arith);
        }

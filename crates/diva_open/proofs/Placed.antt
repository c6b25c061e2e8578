-- As long as no record has left that was not due, the committed state is the table's.
use Rattle.std.proofs.Common.{◌≡◌, ℕ, zero, suc, ◌+◌, ◌-◌, List, [], ◌∷◌, Option, Some, None, refl, sym, ap, ◌∙◌, arith, subst}
use Rattle.std.proofs.lemmas.Bool.{cond_both}
use Rattle.std.proofs.lemmas.Option.{none-some}
use Rattle.diva_isa.specs.State.{goes_on}
use Rattle.diva_isa.specs.Step.{record_of}
use Rattle.diva_isa.specs.declared.record.Record.{Record}
use Rattle.diva_core.specs.declared.differences.Diff.{Diff}
use Rattle.diva_core.specs.Difference.{first_difference}
use Rattle.diva_core.specs.Headline.{Rises}
use Rattle.diva_core.specs.Timed.{PendingClaim, Timed}
use Rattle.diva_core.specs.Cycle.{accepts, begun, committed, drained}
use Rattle.diva_core.proofs.Differing.{difference-none}
use Rattle.diva_core.proofs.Outcomes.{Rises-none}
use Rattle.diva_core.proofs.Progressing.{Rises-trans}
use Rattle.diva_core.proofs.Steps.{step-on}
use Rattle.diva_open.specs.Open.{Open, leave, leaves, left, obeyed, open_cycle_of, open_run_of, phases_of, place_behind}
use Rattle.diva_open.proofs.Righting.{obeyed_due}

-- there is no place at the end only if there was none before, and what left was due
record Placed (o last : Open) : Type 0 where
  none : o.place ≡ None
  rises : Rises o.timed last.timed

without_place : (place : Option ℕ) (count : ℕ) (d : Option Diff) → place_behind place count d ≡ None → (place ≡ None) × (d ≡ None)
without_place (Some n) count d e = absurd (none-some _ (sym e))
without_place None count None e = (refl, refl)
without_place None count (Some d) e = absurd (none-some _ (sym e))

-- a due record commits as the table has it
committed_rises : (m : Timed) → Rises m (committed m (record_of m.arch))
unfolding committed
committed_rises m = record { counted = omega arith; stepped = sym (step-on m.arch) ∙ (let one : m.count + 1 - m.count ≡ 1 = omega arith in rw one refl) }

left_placed : (o : Open) (ps : List PendingClaim) → (left o ps).place ≡ None → Placed o (left o ps)
left_placed o [] e = record { none = e; rises = Rises-none o.timed }
left_placed o (p ∷ rest) e =
    let both = without_place o.place o.timed.count (first_difference p.claim (record_of o.timed.arch)) e in
    let due : p.claim ≡ record_of o.timed.arch = difference-none p.claim (record_of o.timed.arch) both.1 in
    let is : obeyed o.timed p.claim ≡ committed o.timed (record_of o.timed.arch) = ap (obeyed o.timed) due ∙ obeyed_due o.timed in
    let risen : Rises o.timed (obeyed o.timed p.claim) = subst (λ (z : Timed). Rises o.timed z) (sym is) (committed_rises o.timed) in
    record { none = both.0; rises = record { counted = risen.counted; stepped = risen.stepped } }

leave_placed : (n : ℕ) (o : Open) → (leave n o).place ≡ None → Placed o (leave n o)
leave_placed zero o = λ e. record { none = e; rises = Rises-none o.timed }
leave_placed (suc n) o =
    cond_both (leaves o.timed o.timed.under.pending) (leave n (left o o.timed.under.pending)) o (λ z. z.place ≡ None → Placed o z)
    (λ leaving e.
    let next = left o o.timed.under.pending in
    let behind = leave_placed n next e in
    let first = left_placed o o.timed.under.pending behind.none in
    record { none = first.none; rises = Rises-trans o.timed next.timed (leave n next).timed first.rises behind.rises })
    (λ stays e. record { none = e; rises = Rises-none o.timed })

phases_placed : (o : Open) (list : List Record) → (phases_of o list).place ≡ None → Placed o (phases_of o list)
unfolding drained accepts
phases_placed o list e =
    let behind = leave_placed o.timed.config.width (record o { timed = drained (begun o.timed) }) e in
    record { none = behind.none; rises = record { counted = behind.rises.counted; stepped = behind.rises.stepped } }

cycle_placed : (o : Open) (list : List Record) → (open_cycle_of o list).place ≡ None → Placed o (open_cycle_of o list)
unfolding open_cycle_of
cycle_placed o list =
    cond_both (goes_on o.timed.arch) (phases_of o list) o (λ z. z.place ≡ None → Placed o z)
    (λ on e. phases_placed o list e)
    (λ off e. record { none = e; rises = Rises-none o.timed })

run_placed : (o : Open) (lists : List (List Record)) → (open_run_of o lists).place ≡ None → Placed o (open_run_of o lists)
run_placed o [] e = record { none = e; rises = Rises-none o.timed }
run_placed o (list ∷ rest) e =
    let next = open_cycle_of o list in
    let behind = run_placed next rest e in
    let first = cycle_placed o list behind.none in
    record { none = first.none; rises = Rises-trans o.timed next.timed (open_run_of next rest).timed first.rises behind.rises }

pub no_place_rises : (o : Open) (lists : List (List Record)) → (open_run_of o lists).place ≡ None → Rises o.timed (open_run_of o lists).timed
no_place_rises o lists e = (run_placed o lists e).rises

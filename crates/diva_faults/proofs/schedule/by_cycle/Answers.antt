use Rattle.std.proofs.Common.{◌≡◌, rules, subst, sym}
use Rattle.std.specs.List.{All}
use Rattle.std.proofs.lemmas.List.Sorted.{IsNonDecreasingBy-from_sort_by_key, answers_always}
use Rattle.diva_faults.specs.Rows.{IsScriptRow, row_cycle}
use Rattle.diva_faults.proofs.Laying.{like-sorted}
use Rattle.diva_faults.proofs.schedule.by_cycle.Goals as goal

pub returns-clause-sorted : goal.returns-clause-sorted
returns-clause-sorted c = IsNonDecreasingBy-from_sort_by_key row_cycle _ c.in_ok-sort_by_key.ensures.sorted (λ a r q k. search rules)

pub returns-clause-same : goal.returns-clause-same
returns-clause-same c =
    let copied : c.in_ok-sorted.sorted.items ≡ c.args.rows.now = search rules in
    rw (← copied) (like-sorted _ _ (subst (All IsScriptRow) (sym copied) c.requires) c.in_ok-sort_by_key.ensures.permutation (c.in_ok-sort_by_key.ensures.stable row_cycle (answers_always _ _ _ (λ f a r q k. search rules))))

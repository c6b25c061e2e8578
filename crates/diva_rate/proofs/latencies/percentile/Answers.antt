-- The number at the rank.
use Rattle.std.proofs.Common.{◌≡◌, ◌<◌, length, sym, ◌∙◌, rules}
use Rattle.std.proofs.lemmas.List.Sorted.{length_permutation}
use Rattle.diva_rate.proofs.Ranking.{percentile_at, percentile_none}
use Rattle.diva_rate.proofs.latencies.percentile.Goals as goal

pub returns-then-is_empty : goal.returns-then-is_empty
returns-then-is_empty c = λ numbers moved.
    let none : length c.args.sorted.now ≡ 0 = search rules in
    sym (percentile_none c.args.percent numbers (sym (length_permutation numbers c.args.sorted.now moved) ∙ none))

pub returns : goal.returns
returns c = λ numbers moved.
    let some : 0 < length c.args.sorted.now = search rules in
    rw c.place_of.ensures.place (sym (percentile_at c.args.percent c.args.sorted.now c.requires.sorted c.requires.some c.requires.most some numbers moved))

-- The line is being judged, and nothing was counted yet.
use Rattle.std.proofs.Common.{◌≡◌, ◌+◌}
use Rattle.diva_claims.proofs.Judging.{IsJudging}
use Rattle.diva_judge.proofs.judging.count_next.Given as goal

abbrev pub invariant-loop : goal.invariant-loop
invariant-loop l = record {
  judging : IsJudging l.fn.said l.fn.m.timed l.m.timed;
  said : l.core ≡ l.fn.said;
  cycles : l.m.timed.cycles ≡ l.fn.m.timed.cycles + l.counter;
  outvoted : l.m.outvoted ≡ l.fn.m.outvoted;
}

-- The lines so far were judged, and what is left of the text grows shorter.
use Rattle.std.proofs.Common.{◌≡◌}
use Rattle.diva_outside.specs.Lent.{lent}
use Rattle.diva_source.specs.SourceLines.{lent_name, lines_account}
use Rattle.diva_judge.specs.Inner.{IsSoFar}
use Rattle.diva_judge.proofs.log.judge_lines.Given as goal

abbrev pub invariant-loop-number : goal.invariant-loop-number
invariant-loop-number g l = record {
  so_far : IsSoFar l.initial.terms l.initial.m.timed.arch (lent (lines_account g.D.Source.account) l.initial.log l.log)
      (lent g.S.Sink.account l.initial.sink l.sink) l.m.timed l.number l.count;
  same_source : lent_name l.log ≡ lent_name l.initial.log;
}

abbrev pub decreases-loop-number : goal.decreases-loop-number
decreases-loop-number g l = (lines_account g.D.Source.account l.log).limit

-- At least two answers to each question will be right.
use Rattle.diva_vote.specs.Polls.{AlwaysTwoAreRight}
use Rattle.diva_vote_tests.proofs.tests.alike.compare_run.Given as goal

abbrev pub invariant-loop : goal.invariant-loop
invariant-loop g l = AlwaysTwoAreRight g.A.Lane.says g.B.Lane.says g.L.Lane.says l.a l.b l.l

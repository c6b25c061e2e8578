use Rattle.diva_duo.specs.Rules.{fences_wait}
use Rattle.diva_duo.specs.Duo.{timed}
use Rattle.diva_duo.specs.Inner.{Puts}
use Rattle.diva_hart.proofs.Fronts.{HasJudged}
use Rattle.diva_duo.proofs.hart.Hart.judge.Given as goal

abbrev pub invariant-loop-i : goal.invariant-loop-i
invariant-loop-i l = record {
  so_far : HasJudged fences_wait l.n l.i (timed l.cycles l.memory l.fn.self) (timed l.cycles l.memory l.self);
  puts : Puts l.memory l.fn.self l.self;
}

use Rattle.std.proofs.Common.{refl, subst, arith}
use Rattle.diva_hart.specs.Inner.{JudgesFront}
use Rattle.diva_hart.proofs.Fronts.{judging_begins, judging_ends, judging_goes_on, judging_stops, none_left}
use Rattle.diva_duo.specs.Rules.{fences_wait}
use Rattle.diva_duo.specs.Duo.{timed}
use Rattle.diva_duo.proofs.Growing.{puts_none, puts_then}
use Rattle.diva_duo.proofs.hart.Hart.judge.Goals as goal

pub loop-i-init : goal.loop-i-init
loop-i-init c =
    record {
      so_far = judging_begins fences_wait c.args.n (timed c.args.cycles c.args.memory.now c.args.self.now) c.requires.owed c.requires.goes_on c.requires.running;
      puts = puts_none c.args.memory.now c.args.self.now c.args.self.now refl;
    }

pub returns-clause-judges : goal.returns-clause-judges
returns-clause-judges c =
    judging_ends fences_wait c.args.n c.loop-i.i _ _ c.loop-i.invariant.so_far (omega arith) (none_left fences_wait c.args.n c.loop-i.i _ (omega arith))

pub returns-then-not-judge_front-clause-judges : goal.returns-then-not-judge_front-clause-judges
returns-then-not-judge_front-clause-judges c =
    judging_stops fences_wait c.args.n c.loop-i.i _ _ _ c.loop-i.invariant.so_far (omega arith)
    (subst (JudgesFront fences_wait _ _) c.if-not-judge_front.true c.judge_front.ensures.judges)

pub returns-then-not-judge_front-clause-buffer : goal.returns-then-not-judge_front-clause-buffer
returns-then-not-judge_front-clause-buffer c =
    puts_then c.args.memory.now c.args.cycles c.args.self.now c.loop-i.self c.judge_front.new.self c.loop-i.invariant.so_far.rises c.judge_front.ensures.judges.rises
    c.loop-i.invariant.puts c.judge_front.ensures.buffer

pub loop-i-preserved : goal.loop-i-preserved
loop-i-preserved c =
    record {
      so_far = judging_goes_on fences_wait c.args.n c.loop-i.i _ _ _ c.loop-i.invariant.so_far (omega arith)
          (subst (JudgesFront fences_wait _ _) c.if-not-judge_front.false c.judge_front.ensures.judges);
      puts = puts_then c.args.memory.now c.args.cycles c.args.self.now c.loop-i.self c.judge_front.new.self c.loop-i.invariant.so_far.rises c.judge_front.ensures.judges.rises
          c.loop-i.invariant.puts c.judge_front.ensures.buffer;
    }

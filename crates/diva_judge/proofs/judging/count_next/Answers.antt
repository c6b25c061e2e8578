-- Each turn judges on, until one counts the instruction.
use Rattle.std.proofs.Common.{rules, ◌≡◌, ◌≢◌, ◌∙◌, arith}
use Rattle.diva_judge.proofs.Turning.{cycles-more, judged, judges-still, says-still, shows}
use Rattle.diva_judge.proofs.judging.count_next.Goals as goal

pub returns-then-count-clause-judged : goal.returns-then-count-clause-judged
returns-then-count-clause-judged c =
    let more : c.turn.new.m.timed.count ≢ c.args.m.now.timed.count = search rules in
    judged c.args.said c.args.m.now.timed c.loop.m c.turn.new.m c.loop.core c.turn.new.core c.turn.new.list c.loop.invariant.judging c.requires.goes_on c.loop.invariant.said c.turn.ensures.is more

pub returns-then-count-clause-shows : goal.returns-then-count-clause-shows
returns-then-count-clause-shows c =
    let more : c.turn.new.m.timed.count ≢ c.args.m.now.timed.count = search rules in
    shows c.args.said c.args.m.now.timed c.loop.m c.turn.new.m c.loop.core c.turn.new.core c.turn.new.list c.loop.invariant.judging c.requires.goes_on c.loop.invariant.said c.turn.ensures.is more

pub loop-preserved : goal.loop-preserved
loop-preserved c =
    let inv = c.loop.invariant in
    let none : c.turn.new.m.timed.count ≡ c.args.m.now.timed.count = search rules in
    record {
      judging = judges-still c.args.said c.args.m.now.timed c.loop.m c.turn.new.m c.loop.core c.turn.new.core c.turn.new.list inv.judging c.requires.goes_on inv.said c.turn.ensures.is none;
      said = says-still c.args.said c.args.m.now.timed c.loop.m c.turn.new.m c.loop.core c.turn.new.core c.turn.new.list inv.judging c.requires.goes_on inv.said c.turn.ensures.is;
      cycles = cycles-more c.args.said c.args.m.now.timed c.loop.m c.turn.new.m c.loop.core c.turn.new.core c.turn.new.list inv.judging c.requires.goes_on inv.said c.turn.ensures.is ∙ omega (arith, inv.cycles);
      outvoted = c.turn.ensures.outvoted ∙ inv.outvoted;
    }

-- What is promised of the lines of the source is promised of the source, which is given back.
use Rattle.std.proofs.Common.{rules}
use Rattle.diva_judge.proofs.Lending.{of_source}
use Rattle.diva_judge.proofs.log.judge.Goals as goal

pub returns : goal.returns
returns g c =
    of_source g.D.Source.account c.args.terms c.args.m.now.timed.arch c.new-log.result c.judge_lines.new.log c.args.source.now _
    c.new-log.ensures.all (search rules) _ _ _ c.judge_lines.ensures.judging

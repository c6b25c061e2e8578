-- What is said of the program's own lanes follows from what is said of any.
use Rattle.diva_cli.proofs.Working.{own_answers}
use Rattle.diva_cli.proofs.program.DivaFront.work.Goals as goal

pub returns-clause-answers : goal.returns-clause-answers
returns-clause-answers g c =
    own_answers g.C.Core.gives _ _ c.own.result c.work.new.lanes c.own.ensures _ _ c.args.job c.work.result c.work.ensures.answers

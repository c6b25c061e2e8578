-- What is said of the workbench's own lanes follows from what is said of any.
use Rattle.diva_workbench.proofs.LabWorking.{own_lab_answers}
use Rattle.diva_workbench.proofs.lab.LabFrontHands.work.Goals as goal

pub returns-clause-answers : goal.returns-clause-answers
returns-clause-answers g c =
    own_lab_answers g.C.Core.gives g.D.Source.account c.args.hands.now.core c.lab_work.new.core c.args.hands.now.source c.lab_work.new.source
    c.own.result c.lab_work.new.lanes c.own.ensures _ _ c.args.job c.lab_work.result c.lab_work.ensures.answers

-- What `diva` answers of one of its jobs, the workbench answers too; and what a command of its own answers.
use Rattle.std.proofs.Common.{None, refl}
use Rattle.diva_cli.proofs.Polling.{none_asked}
use Rattle.diva_workbench.proofs.LabWorking.{drawing_answers, judgement_answers, lab_answers, rates_answer, trials_answer}
use Rattle.diva_workbench.proofs.lab.lab_work.Goals as goal

pub returns-in-Diva-clause-answers : goal.returns-in-Diva-clause-answers
returns-in-Diva-clause-answers g c = rw c.in-Diva.is (lab_answers g.C.Core.gives _ _ refl _ _ _ _ c.work.ensures.answers)

pub returns-in-Draw-clause-answers : goal.returns-in-Draw-clause-answers
returns-in-Draw-clause-answers g c = rw c.in-Draw.is (drawing_answers g.C.Core.gives _ _ refl _ _ _ _ c.draw.ensures)

pub returns-in-Judge-clause-answers : goal.returns-in-Judge-clause-answers
returns-in-Judge-clause-answers g c = rw c.in-Judge.is (judgement_answers g.C.Core.gives _ _ (none_asked g.L.Lane.says c.args.lanes.now None) _ _ _ _ _ c.judge_log.ensures)

pub returns-in-Inject-clause-answers : goal.returns-in-Inject-clause-answers
returns-in-Inject-clause-answers g c = rw c.in-Inject.is (trials_answer g.C.Core.gives _ _ (none_asked g.L.Lane.says c.args.lanes.now None) _ refl _ _ _ _ c.inject.ensures)

pub returns-in-Rate-clause-answers : goal.returns-in-Rate-clause-answers
returns-in-Rate-clause-answers g c =
    rw c.in-Rate.is (rates_answer g.C.Core.gives _ _ (none_asked g.L.Lane.says c.args.lanes.now None) _ _ (λ what. refl) _ _ _ (rw c.as_slice.ensures.names at c.rate_files.ensures))

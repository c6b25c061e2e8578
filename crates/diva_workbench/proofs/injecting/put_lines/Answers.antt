-- What was put is what the options ask for.
use Rattle.std.proofs.Common.{◌∙◌, ap, refl}
use Rattle.std.proofs.lemmas.Result.{err_from_is_err_and}
use Rattle.diva_machine.specs.Machine.{Machine}
use Rattle.diva_workbench.specs.Injecting.{faults_by}
use Rattle.diva_workbench.proofs.InjectRunning.{has_put}
use Rattle.diva_workbench.proofs.injecting.put_lines.Goals as goal

pub returns-in_err-put_trials : goal.returns-in_err-put_trials
returns-in_err-put_trials g c = λ start core are until.
    let failed = err_from_is_err_and c.from_residual.result c.from_residual.ensures.1 in
    rw (failed.1, failed.2) (has_put g.D.Core.gives c.args.options c.args.trials _ _ _ start core
    (c.faults_of-faults.ensures ∙ ap (λ (m : Machine). faults_by c.args.options m.timed) c.free.ensures) are until
    (c.in_err-put_trials.ensures c.args.options.setup.config start core are))

pub returns : goal.returns
returns g c = λ start core are until. (
  refl,
  has_put g.D.Core.gives c.args.options c.args.trials _ _ _ start core
      (c.faults_of-faults.ensures ∙ ap (λ (m : Machine). faults_by c.args.options m.timed) c.free.ensures) are until
      (c.in_ok-put_trials.ensures c.args.options.setup.config start core are),
)

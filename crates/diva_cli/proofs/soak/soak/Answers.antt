-- What was written of the two runs comes to an answer.
use Rattle.std.proofs.Common.{[], refl}
use Rattle.diva_args.specs.declared.job.Job.TheVariants.{Soak}
use Rattle.diva_cli.proofs.Working.{done_answers}
use Rattle.diva_cli.proofs.soak.soak.Goals as goal

pub returns : goal.returns
returns g c =
    done_answers g.C.Core.gives _ _ _ _ (Soak c.args.options) (λ _. []) _ _ tt (λ what. refl) (c.soak_ready.ensures (λ _. []))

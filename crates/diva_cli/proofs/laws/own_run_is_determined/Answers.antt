use Rattle.diva_cli.proofs.Determining.{soak_same, text_same}
use Rattle.diva_cli.proofs.laws.own_run_is_determined.Goals as goal

pub returns-clause-run : goal.returns-clause-run
returns-clause-run g c = λ options bytes core after last status other text same own h k asked.
    text_same g.C.Core.gives c.requires options bytes core after last status other text same own h k asked

pub returns-clause-soak : goal.returns-clause-soak
returns-clause-soak g c = λ options core after last status other text same h k.
    soak_same g.C.Core.gives c.requires options core after last status other text same h k

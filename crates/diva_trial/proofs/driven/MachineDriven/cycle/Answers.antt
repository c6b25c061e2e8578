use Rattle.std.proofs.Common.{ap, ◌∙◌, length}
use Rattle.diva_core.specs.Timed.{Timed}
use Rattle.diva_isa.specs.State.{State}
use Rattle.diva_core.proofs.Outcomes.{cycle-cycles}
use Rattle.diva_core.proofs.Progressing.{same-config}
use Rattle.diva_trial.proofs.Sizes.{steps_size}
use Rattle.diva_trial.proofs.driven.MachineDriven.cycle.Goals as goal

pub returns-clause-raised : goal.returns-clause-raised
returns-clause-raised c =
    ap (λ (m : Timed). m.cycles) c.cycle.ensures.is.cycled ∙ cycle-cycles c.args.self.now.timed c.args.list.now c.goes_on.ensures.machine c.requires.on

pub returns-clause-config : goal.returns-clause-config
returns-clause-config c =
    ap (λ (m : Timed). m.config) c.cycle.ensures.is.cycled ∙ same-config c.args.self.now.timed c.args.list.now c.goes_on.ensures.machine

pub returns-clause-size : goal.returns-clause-size
returns-clause-size c =
    let rises = c.cycle.ensures.is.hart.rises in
    ap (λ (s : State). length s.bytes) rises.stepped ∙ steps_size _ c.args.self.now.timed.arch

use Rattle.std.proofs.Common.{ap, ◌∙◌, length}
use Rattle.diva_open.specs.Open.{Open}
use Rattle.diva_open.proofs.Phases.{cycle_cycles}
use Rattle.diva_trial.proofs.Sizes.{cycle_config, cycle_size}
use Rattle.diva_trial.proofs.driven.OpenMachineDriven.cycle.Goals as goal

pub returns-clause-raised : goal.returns-clause-raised
returns-clause-raised c =
    ap (λ (o : Open). o.timed.cycles) c.cycle.ensures ∙ cycle_cycles c.args.self.now c.args.list.now c.requires.on

pub returns-clause-config : goal.returns-clause-config
returns-clause-config c = ap (λ (o : Open). o.timed.config) c.cycle.ensures ∙ cycle_config c.args.self.now c.args.list.now

pub returns-clause-size : goal.returns-clause-size
returns-clause-size c = ap (λ (o : Open). length o.timed.arch.bytes) c.cycle.ensures ∙ cycle_size c.args.self.now c.args.list.now

use Rattle.std.proofs.Common.{◌∙◌, ap}
use Rattle.diva_asm.proofs.Places.{seen, inserted}
use Rattle.diva_asm.proofs.labels.Labels.insert.Goals as goal

pub returns : goal.returns
returns c =
    rw (← c.self.view_is) (ap seen c.in_ok-insert.ensures.entries ∙ inserted c.self.inside.addresses.entries c.args.name c.args.address)

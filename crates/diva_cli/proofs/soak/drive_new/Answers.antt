-- The drive led as far as the cycles of the image.
use Rattle.std.proofs.Common.{◌∙◌, ap}
use Rattle.diva_cli.specs.SoakTexts.{soak_cycles}
use Rattle.diva_cli.proofs.Soaking.{drove}
use Rattle.diva_cli.proofs.soak.drive_new.Goals as goal

pub returns : goal.returns
returns g c =
    drove g.D.Core.gives c.args.options.now _ _ _ _ _ c.drive.result c.requires
    (c.soak_cycles.ensures ∙ ap soak_cycles c.get.ensures.value)
    c.drive.ensures.is.drives.turns c.drive.ensures.is.within c.drive.ensures.is.ended c.drive.ensures.is.budget

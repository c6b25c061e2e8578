-- The machine begins with the image that was loaded, and the script and the core are those of their files.
use Rattle.std.proofs.Common.{ap, refl, ◌∙◌}
use Rattle.diva_core.specs.Timed.{new_timed}
use Rattle.diva_image.specs.ImageLayout.{layout}
use Rattle.diva_hart.specs.Start.{start_of}
use Rattle.diva_args.specs.Options.{Setup}
use Rattle.diva_cli.proofs.Preparing.{ready_held}
use Rattle.diva_cli.proofs.loading.make_ready.Goals as goal

pub returns-clause-ready : goal.returns-clause-ready
returns-clause-ready g c =
    ready_held (g.F.Files.account c.args.files.now).contents c.args.setup.now c.in_ok-image.field-0 _ c.in_ok-image.ensures.loaded
    (c.in_ok-machine.ensures.timed ∙ ap (λ (s : Setup). new_timed s.config (start_of (layout c.in_ok-image.field-0.image))) c.setup.view_is) refl refl

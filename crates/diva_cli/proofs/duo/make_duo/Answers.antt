-- The harts begin with the image that was loaded, and their cores are new.
use Rattle.std.proofs.Common.{◌≡◌, ap, sym, ◌∙◌, subst}
use Rattle.diva_outside.specs.declared.files.What.TheVariants.{Image}
use Rattle.diva_image.specs.ImageLayout.{layout}
use Rattle.diva_image.specs.Layout.{Layout}
use Rattle.diva_image.specs.Programs.{image_in}
use Rattle.diva_hart.specs.Start.{start_of}
use Rattle.diva_duo.specs.Duo.{new_duo}
use Rattle.diva_args.specs.Options.{DuoOptions}
use Rattle.diva_cli.specs.Wanted.{file_with}
use Rattle.diva_cli.specs.Parts.{Holds, new_cores}
use Rattle.diva_cli.proofs.duo.make_duo.Goals as goal

pub returns-clause-ready : goal.returns-clause-ready
returns-clause-ready g c =
    let i : Layout = layout c.in_ok-image.image in
    let h = subst (λ (o : DuoOptions). Holds (g.F.Files.account c.args.files.now).contents (file_with o.room Image o.image) (λ bytes. image_in o.room bytes ≡ i)) c.options.view_is c.in_ok-image.ensures.holds in
    record {
      bytes = λ _. h.bytes;
      sound = (h.sound, tt);
      is = record {
        begun = c.in_ok-duo.ensures.duo ∙ ap (λ (o : DuoOptions). new_duo o.config (start_of i)) c.options.view_is ∙ ap (λ (l : Layout). new_duo c.args.options.now.config (start_of l)) (sym h.holds);
        cores = c.in_ok-cores.ensures ∙ ap (λ (o : DuoOptions). new_cores o.core) c.options.view_is;
      };
    }

-- The bytes of the image were put.
use Rattle.std.proofs.Common.{◌≡◌, refl, subst}
use Rattle.std.proofs.lemmas.Result.{err_from_is_err_and}
use Rattle.diva_outside.specs.declared.files.What.TheVariants.{Image}
use Rattle.diva_image.specs.ImageLayout.{layout}
use Rattle.diva_image.specs.Programs.{image_in}
use Rattle.diva_args.specs.Options.{MigrateOptions}
use Rattle.diva_args.specs.declared.job.Job.TheVariants.{Migrate}
use Rattle.diva_cli.specs.Wanted.{file_with, wanted, file_rules}
use Rattle.diva_cli.specs.Parts.{Holds, no_lanes}
use Rattle.diva_process.specs.Writing.{Stops}
use Rattle.diva_cli.proofs.Alone.{wrote_all, wrote_part}
use Rattle.diva_cli.proofs.Migrating.{has_migrated}
use Rattle.diva_cli.proofs.Working.{stop_answers}
use Rattle.diva_outside.specs.Lent.{lent}
use Rattle.diva_cli.proofs.images.migrate.Goals as goal

pub returns-in-Err : goal.returns-in-Err
returns-in-Err g c =
    let stopped = subst (λ (o : MigrateOptions). Stops file_rules (g.F.Files.account c.args.files.now) (g.F.Files.account c.load.new.files) (wanted (Migrate o)) c.in-Err.stop) c.options.view_is c.in-Err.ensures.stopped in
    stop_answers g.C.Core.gives _ _ _ _ (Migrate c.args.options) c.in-Err.stop _ refl stopped c.write_stop.ensures

pub returns-in_err-put : goal.returns-in_err-put
returns-in_err-put g c =
    let h = subst (λ (o : MigrateOptions). Holds (g.F.Files.account c.args.files.now).contents (file_with o.room Image o.image) (λ bytes. image_in o.room bytes ≡ layout c.in-Ok.image)) c.options.view_is c.in-Ok.ensures.holds in
    let p = err_from_is_err_and c.from_residual-in_err-put.result c.from_residual-in_err-put.ensures.1 in
    rw (p.1, p.2) (wrote_part g.C.Core.gives (Migrate c.args.options) (lent g.F.Files.account c.args.files.now c.load.new.files) (λ _. h.bytes) c.args._core.now no_lanes _ c.deref.result.now (h.sound, tt) c.in-Ok.ensures.uncounted _
    (has_migrated c.args.options.room (λ _. h.bytes) c.args._core.now _ c.deref.result.now _ c.in_ok-bytes.bytes.items c.deref.ensures.value h.holds c.in_ok-bytes.ensures.bytes c.in_ok-bytes.ensures.begins tt)
    refl c.in_err-put.ensures)

pub returns : goal.returns
returns g c =
    let h = subst (λ (o : MigrateOptions). Holds (g.F.Files.account c.args.files.now).contents (file_with o.room Image o.image) (λ bytes. image_in o.room bytes ≡ layout c.in-Ok.image)) c.options.view_is c.in-Ok.ensures.holds in
    wrote_all g.C.Core.gives (Migrate c.args.options) (lent g.F.Files.account c.args.files.now c.load.new.files) (λ _. h.bytes) c.args._core.now no_lanes _ c.deref.result.now (h.sound, tt) c.in-Ok.ensures.uncounted
    (has_migrated c.args.options.room (λ _. h.bytes) c.args._core.now _ c.deref.result.now _ c.in_ok-bytes.bytes.items c.deref.ensures.value h.holds c.in_ok-bytes.ensures.bytes c.in_ok-bytes.ensures.begins refl)
    refl c.in_ok-put.ensures

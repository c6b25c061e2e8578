-- The lines of the image were put.
use Rattle.std.proofs.Common.{refl, ap, sym}
use Rattle.std.proofs.lemmas.Result.{err_from_is_err_and}
use Rattle.std.specs.List.{concat}
use Rattle.diva_image.specs.Layout.{Layout}
use Rattle.diva_image.specs.ImageLayout.{layout}
use Rattle.diva_args.specs.declared.job.Job.TheVariants.{Dis}
use Rattle.diva_asm.specs.Listing.{listing_of}
use Rattle.diva_cli.specs.Parts.{no_lanes}
use Rattle.diva_cli.proofs.Alone.{wrote_all, wrote_part}
use Rattle.diva_cli.proofs.Working.{stop_answers}
use Rattle.diva_outside.specs.Lent.{lent}
use Rattle.diva_cli.proofs.images.dis.Goals as goal

pub returns-in-Err : goal.returns-in-Err
returns-in-Err g c =
    stop_answers g.C.Core.gives _ _ _ _ (Dis c.args.image) c.in-Err.stop _ refl c.in-Err.ensures.stopped c.write_stop.ensures

pub returns-in_err-put_lines : goal.returns-in_err-put_lines
returns-in_err-put_lines g c =
    let h = c.in-Ok.ensures.holds in
    let p = err_from_is_err_and c.from_residual.result c.from_residual.ensures.1 in
    rw (p.1, p.2) (wrote_part g.C.Core.gives (Dis c.args.image) (lent g.F.Files.account c.args.files.now c.load.new.files) (λ _. h.bytes) c.args._core.now no_lanes _ (concat (listing_of (layout c.in-Ok.listed))) (h.sound, tt) c.in-Ok.ensures.uncounted _
    (record { lines = ap (λ (i : Layout). concat (listing_of i)) (sym h.holds); alone = record { unasked = refl; whole = tt } })
    refl c.in_err-put_lines.ensures)

pub returns : goal.returns
returns g c =
    let h = c.in-Ok.ensures.holds in
    wrote_all g.C.Core.gives (Dis c.args.image) (lent g.F.Files.account c.args.files.now c.load.new.files) (λ _. h.bytes) c.args._core.now no_lanes _ (concat (listing_of (layout c.in-Ok.listed))) (h.sound, tt) c.in-Ok.ensures.uncounted
    (record { lines = ap (λ (i : Layout). concat (listing_of i)) (sym h.holds); alone = record { unasked = refl; whole = refl } })
    refl c.in_ok-put_lines.ensures

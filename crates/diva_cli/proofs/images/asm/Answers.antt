-- The bytes of the image were put.
use Rattle.std.proofs.Common.{refl, ◌∙◌}
use Rattle.std.proofs.lemmas.Result.{err_from_is_err_and}
use Rattle.diva_image.specs.ImageLayout.{layout}
use Rattle.diva_args.specs.declared.job.Job.TheVariants.{Asm}
use Rattle.diva_cli.specs.Parts.{no_lanes}
use Rattle.diva_cli.proofs.Alone.{wrote_all, wrote_part}
use Rattle.diva_cli.proofs.Working.{stop_answers}
use Rattle.diva_outside.specs.Lent.{lent}
use Rattle.diva_cli.proofs.images.asm.Goals as goal

pub returns-in-Err : goal.returns-in-Err
returns-in-Err g c =
    stop_answers g.C.Core.gives _ _ _ _ (Asm c.args.source) c.in-Err.stop _ refl c.in-Err.ensures.stopped c.write_stop.ensures

pub returns-in_err-put : goal.returns-in_err-put
returns-in_err-put g c =
    let h = c.in-Ok.ensures.holds in
    let p = err_from_is_err_and c.from_residual-in_err-put.result c.from_residual-in_err-put.ensures.1 in
    rw (p.1, p.2) (wrote_part g.C.Core.gives (Asm c.args.source) (lent g.F.Files.account c.args.files.now c.load.new.files) (λ _. h.bytes) c.args._core.now no_lanes _ c.deref.result.now (h.sound, tt) c.in-Ok.ensures.uncounted _
    (record { image = layout c.in-Ok.image; assembled = h.holds; written = c.deref.ensures.value ∙ c.in_ok-bytes.ensures.bytes; alone = record { unasked = refl; whole = tt } })
    refl c.in_err-put.ensures)

pub returns : goal.returns
returns g c =
    let h = c.in-Ok.ensures.holds in
    wrote_all g.C.Core.gives (Asm c.args.source) (lent g.F.Files.account c.args.files.now c.load.new.files) (λ _. h.bytes) c.args._core.now no_lanes _ c.deref.result.now (h.sound, tt) c.in-Ok.ensures.uncounted
    (record { image = layout c.in-Ok.image; assembled = h.holds; written = c.deref.ensures.value ∙ c.in_ok-bytes.ensures.bytes; alone = record { unasked = refl; whole = refl } })
    refl c.in_ok-put.ensures

-- What is written is a tape of all that was handed over.
use Rattle.std.proofs.Common.{◌∙◌, Ok, refl}
use Rattle.std.proofs.lemmas.Result.{err_from_is_err_and}
use Rattle.diva_cli.proofs.Replaying.{wrote_tape, cut_tape}
use Rattle.diva_cli.proofs.run.tape_ready.Goals as goal

pub returns-in_err-drive : goal.returns-in_err-drive
returns-in_err-drive g c = λ bytes is.
    let p = err_from_is_err_and c.from_residual.result c.from_residual.ensures.1 in
    rw (p.1, p.2) (cut_tape g.C.Core.gives c.args.options bytes c.args.ready.now _ _ _ _ _ _ _
    (c.from.ensures ∙ c.get.ensures.value)
    c.requires.fits is _ c.in_err-drive.ensures.done.done.1 _ c.in_err-drive.ensures _ refl)

pub returns : goal.returns
returns g c = λ bytes is.
    wrote_tape g.C.Core.gives c.args.options bytes c.args.ready.now _ _ _ _ _ _ (Ok tt)
    (c.from.ensures ∙ c.get.ensures.value)
    c.requires.fits is _ c.in_ok-drive.ensures.done.done.1 _ c.in_ok-drive.ensures c.end_status.result
    c.end_status.ensures
    refl

-- What is written of a run is the text of the machine that was driven.
use Rattle.std.proofs.Common.{◌∙◌, Ok, refl}
use Rattle.std.proofs.lemmas.Result.{err_from_is_err_and}
use Rattle.diva_cli.proofs.Running.{wrote_run, cut_run, cut_trace}
use Rattle.diva_cli.proofs.run.run_ready.Goals as goal

pub returns-in_err-drive_run : goal.returns-in_err-drive_run
returns-in_err-drive_run g c = λ bytes is.
    let p = err_from_is_err_and c.from_residual.result c.from_residual.ensures.1 in
    rw (p.1, p.2) (cut_trace g.C.Core.gives c.args.options bytes c.args.ready.now _ _ _ _ _ _ c.args.options.dump g.S.Sink.account _ _ c.drive_run.new.sink _
    refl
    (c.from.ensures ∙ c.get.ensures.value)
    refl refl
    c.requires.fits is _ c.in_err-drive_run.ensures _ refl)

pub returns-in_err-write_finished : goal.returns-in_err-write_finished
returns-in_err-write_finished g c = λ bytes is.
    let p = err_from_is_err_and c.from_residual-in_err-write_finished.result c.from_residual-in_err-write_finished.ensures.1 in
    rw (p.1, p.2) (cut_run g.C.Core.gives c.args.options bytes c.args.ready.now _ _ _ _ _ _ _ g.S.Sink.account _ _ _ (Ok tt)
    refl
    (c.from.ensures ∙ c.get.ensures.value)
    refl refl
    c.requires.fits is _ c.in_ok-drive_run.ensures refl _ c.in_err-write_finished.ensures)

pub returns : goal.returns
returns g c = λ bytes is.
    wrote_run g.C.Core.gives c.args.options bytes c.args.ready.now _ _ _ _ _ _ _ g.S.Sink.account _ _ _ (Ok tt)
    refl
    (c.from.ensures ∙ c.get.ensures.value)
    refl refl
    c.requires.fits is _ c.in_ok-drive_run.ensures refl c.end_status.result
    c.end_status.ensures
    c.in_ok-write_finished.ensures

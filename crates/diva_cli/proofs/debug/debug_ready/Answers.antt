-- What is written are the replies of the machine that was moved.
use Rattle.std.proofs.Common.{Ok, ap, refl}
use Rattle.std.proofs.lemmas.Result.{err_from_is_err_and}
use Rattle.diva_debug.specs.Rewindable.{Rewindable}
use Rattle.diva_cli.proofs.Sessions.{wrote_replies, cut_replies}
use Rattle.diva_cli.proofs.debug.debug_ready.Goals as goal

pub returns-in_err-perform_by : goal.returns-in_err-perform_by
returns-in_err-perform_by g c = λ bytes is.
    let p = err_from_is_err_and c.from_residual.result c.from_residual.ensures.1 in
    rw (p.1, p.2) (cut_replies g.C.Core.gives c.args.options bytes c.args.session _ _ _ _ _ c.requires.fits is c.deref.result.now c.deref.ensures.value
    _ (ap (λ (r : Rewindable). r.machine.timed) c.new-rewindable.ensures) _ c.in_err-perform_by.ensures _ refl)

pub returns : goal.returns
returns g c = λ bytes is.
    wrote_replies g.C.Core.gives c.args.options bytes c.args.session _ _ _ _ (Ok tt) c.requires.fits is c.deref.result.now c.deref.ensures.value
    _ (ap (λ (r : Rewindable). r.machine.timed) c.new-rewindable.ensures) _ c.in_ok-perform_by.ensures refl

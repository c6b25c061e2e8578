-- What is written is the text of the two machines that were driven.
use Rattle.std.proofs.lemmas.Result.{err_from_is_err_and}
use Rattle.diva_cli.proofs.Soaking.{cut_soaked, wrote_soaked}
use Rattle.diva_cli.proofs.soak.soak_ready.Goals as goal

pub returns-in_err-write_soaked : goal.returns-in_err-write_soaked
returns-in_err-write_soaked g c = λ bytes.
    let p = err_from_is_err_and c.from_residual.result c.from_residual.ensures.1 in
    rw (p.1, p.2) (cut_soaked g.C.Core.gives c.args.options bytes c.args.core.now _ _ _ _ c.requires.few (rw c.requires.scalar at c.drive_both.ensures.under_scalar) c.drive_both.ensures.under_own
    _ _ c.in_err-write_soaked.ensures)

pub returns : goal.returns
returns g c = λ bytes.
    wrote_soaked g.C.Core.gives c.args.options bytes c.args.core.now _ _ _ _ c.requires.few (rw c.requires.scalar at c.drive_both.ensures.under_scalar) c.drive_both.ensures.under_own
    _ c.in_ok-write_soaked.ensures

-- The loading of the bytes stopped, whatever the room.
use Rattle.std.proofs.lemmas.Result.{err_from_is_err_and}
use Rattle.diva_cli.proofs.files.load.Goals as goal

pub returns-in_err-bytes-clause-stopped : goal.returns-in_err-bytes-clause-stopped
returns-in_err-bytes-clause-stopped g c =
    let p = err_from_is_err_and c.from_residual.result c.from_residual.ensures.1 in
    rw (p.1, p.2, ← c.WHAT.ensures) (c.in_err-bytes.ensures.stopped (g.K.FileKind.room c.args.kind.now))

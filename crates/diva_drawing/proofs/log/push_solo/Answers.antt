-- No room could be made.
use Rattle.std.proofs.lemmas.Result.{err_from_is_err_and}
use Rattle.diva_drawing.proofs.Holding.{holds_less}
use Rattle.diva_drawing.proofs.log.push_solo.Goals as goal

pub returns-in_err-make_room : goal.returns-in_err-make_room
returns-in_err-make_room g c =
    let failed = err_from_is_err_and c.from_residual.result c.from_residual.ensures.1 in
    rw failed.1 (holds_less _ _ _ _ _ _ _ _ c.in_err-make_room.ensures.passes)

-- Piece by piece.
use Rattle.std.proofs.Common.{◌∙◌}
use Rattle.std.proofs.lemmas.Result.{err_from_is_err_and}
use Rattle.diva_outside.proofs.Sinks.{puts_cut, puts_then}
use Rattle.diva_rating.proofs.rating.put_unread.Goals as goal

pub returns-in_err-put : goal.returns-in_err-put
returns-in_err-put g c =
    let failed = err_from_is_err_and c.from_residual.result c.from_residual.ensures.1 in
    rw failed.1 (puts_cut g.S.Sink.account _ _ _ _ _ c.in_err-put.ensures)

pub returns-in_err-put-2 : goal.returns-in_err-put-2
returns-in_err-put-2 g c =
    let failed = err_from_is_err_and c.from_residual-in_err-put-2.result c.from_residual-in_err-put-2.ensures.1 in
    rw failed.1 (puts_then g.S.Sink.account _ _ _ _ _ _ c.in_ok-put.ensures
    (puts_cut g.S.Sink.account _ _ _ _ _ (rw (c.as_bytes.ensures.value ∙ c.as_str.ensures) at c.in_err-put-2.ensures)))

pub returns : goal.returns
returns g c =
    puts_then g.S.Sink.account _ _ _ _ _ _ c.in_ok-put.ensures
    (puts_then g.S.Sink.account _ _ _ _ _ _ (rw (c.as_bytes.ensures.value ∙ c.as_str.ensures) at c.in_ok-put-2.ensures) c.put-3.ensures)

-- What was put where each part fails, and where none does.
use Rattle.std.proofs.lemmas.Result.{err_from_is_err_and}
use Rattle.diva_outside.proofs.Sinks.{puts_then, puts_cut}
use Rattle.diva_rate.proofs.writing.write_parts.Goals as goal

pub returns-in_err-write_head : goal.returns-in_err-write_head
returns-in_err-write_head g c =
    let failed = err_from_is_err_and c.from_residual.result c.from_residual.ensures.1 in
    rw failed.1 (puts_cut _ _ _ _ _ _ (puts_cut _ _ _ _ _ _ (puts_cut _ _ _ _ _ _ c.in_err-write_head.ensures)))

pub returns-in_err-write_shares : goal.returns-in_err-write_shares
returns-in_err-write_shares g c =
    let failed = err_from_is_err_and c.from_residual-in_err-write_shares.result c.from_residual-in_err-write_shares.ensures.1 in
    let text = puts_then _ _ _ _ _ _ _ c.in_ok-write_head.ensures (rw c.groups.ensures at c.in_err-write_shares.ensures) in
    rw failed.1 (puts_cut _ _ _ _ _ _ (puts_cut _ _ _ _ _ _ text))

pub returns-in_err-write_latency_head : goal.returns-in_err-write_latency_head
returns-in_err-write_latency_head g c =
    let failed = err_from_is_err_and c.from_residual-in_err-write_latency_head.result c.from_residual-in_err-write_latency_head.ensures.1 in
    let text = puts_then _ _ _ _ _ _ _ (puts_then _ _ _ _ _ _ _ c.in_ok-write_head.ensures (rw c.groups.ensures at c.in_ok-write_shares.ensures)) c.in_err-write_latency_head.ensures in
    rw failed.1 (puts_cut _ _ _ _ _ _ text)

pub returns : goal.returns
returns g c =
    let text = puts_then _ _ _ _ _ _ _ (puts_then _ _ _ _ _ _ _ c.in_ok-write_head.ensures (rw c.groups.ensures at c.in_ok-write_shares.ensures)) c.in_ok-write_latency_head.ensures in
    puts_then _ _ _ _ _ _ _ text (rw c.groups-2.ensures at c.write_latencies.ensures)

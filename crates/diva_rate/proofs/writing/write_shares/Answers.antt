-- One group more was put, or a prefix of it.
use Rattle.std.proofs.Common.{◌≤◌, length, arith}
use Rattle.std.proofs.lemmas.Result.{err_from_is_err_and}
use Rattle.diva_rate.specs.Text.{shares_text}
use Rattle.diva_rate.proofs.Putting.{put_all, put_less, put_more}
use Rattle.diva_rate.proofs.writing.write_shares.Goals as goal

pub loop-rates-preserved : goal.loop-rates-preserved
loop-rates-preserved g c =
    put_more g.S.Sink.account shares_text c.args.groups.now c.loop-rates.rates-index _ _ _ _ (omega arith) c.loop-rates.invariant c.in_ok-write_group.ensures

pub returns-in_err-write_group : goal.returns-in_err-write_group
returns-in_err-write_group g c =
    let failed = err_from_is_err_and c.from_residual.result c.from_residual.ensures.1 in
    rw failed.1 (put_less g.S.Sink.account shares_text c.args.groups.now c.loop-rates.rates-index _ _ _ _ _ (omega arith) c.loop-rates.invariant c.in_err-write_group.ensures)

pub returns : goal.returns
returns g c =
    let all : length c.args.groups.now ≤ c.loop-rates.rates-index = (let h = c.loop-rates-test.false in omega arith) in
    put_all g.S.Sink.account shares_text c.args.groups.now c.loop-rates.rates-index _ _ all c.loop-rates.invariant

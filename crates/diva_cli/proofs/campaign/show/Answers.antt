-- What is written is the text of the runs.
use Rattle.std.proofs.lemmas.Result.{err_from_is_err_and}
use Rattle.diva_cli.proofs.Campaigning.{cut_campaign, wrote_campaign}
use Rattle.diva_cli.proofs.campaign.show.Goals as goal

pub returns-in_err-write_runs : goal.returns-in_err-write_runs
returns-in_err-write_runs g c = λ options bytes are.
    let p = err_from_is_err_and c.from_residual.result c.from_residual.ensures.1 in
    rw (p.1, p.2) (cut_campaign g.C.Core.gives options bytes c.args._core.now _ c.args.runs.now are _ (rw c.in_err-write_runs.was at c.write_runs.ensures))

pub returns : goal.returns
returns g c = λ options bytes are.
    wrote_campaign g.C.Core.gives options bytes c.args._core.now _ c.args.runs.now are c.end_status.result c.end_status.ensures (rw c.in_ok-write_runs.was at c.write_runs.ensures)

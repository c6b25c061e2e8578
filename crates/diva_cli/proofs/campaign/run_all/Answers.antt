-- The runs are counted by the first one.
use Rattle.std.proofs.Common.{List, ap, ◌∙◌}
use Rattle.diva_image.specs.ImageLayout.{layout}
use Rattle.diva_isa.specs.State.{State}
use Rattle.diva_hart.specs.Start.{start_of}
use Rattle.diva_core.specs.Timed.{Timed}
use Rattle.diva_faults.specs.declared.rows.Row.{Row}
use Rattle.diva_cli.specs.CampaignTexts.{flipped_runs, run_under, tally_of}
use Rattle.diva_cli.proofs.campaign.run_all.Goals as goal

pub returns-clause-tally : goal.returns-clause-tally
returns-clause-tally g c =
    let start : State = start_of (layout c.args.image.now) in
    c.in_ok-tally.ensures.tally
    ∙ ap (λ (m : Timed). tally_of m (flipped_runs c.args.last c.args.cycles start))
    (c.in_ok-first.ensures.ran ∙ ap (λ (rows : List Row). run_under rows c.args.cycles start) c.none.ensures)

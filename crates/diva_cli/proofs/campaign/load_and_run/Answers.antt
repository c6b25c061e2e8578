-- The runs are those of the image that was loaded.
use Rattle.std.proofs.Common.{◌∙◌, ap, sym}
use Rattle.diva_image.specs.Layout.{Layout}
use Rattle.diva_hart.specs.Start.{start_of}
use Rattle.diva_cli.specs.CampaignTexts.{campaign_tally, first_run}
use Rattle.diva_cli.proofs.campaign.load_and_run.Goals as goal

pub returns-clause-runs : goal.returns-clause-runs
returns-clause-runs g c =
    let o = c.args.options.now in
    let h = c.in_ok-image.ensures.holds in
    record {
      bytes = λ _. h.bytes;
      sound = (h.sound, tt);
      are = record {
        first = c.in_ok-runs.ensures.first ∙ ap (λ (l : Layout). first_run o.cycles (start_of l)) (sym h.holds);
        tally = c.in_ok-runs.ensures.tally ∙ ap (λ (l : Layout). campaign_tally o.last o.cycles (start_of l)) (sym h.holds);
      };
    }

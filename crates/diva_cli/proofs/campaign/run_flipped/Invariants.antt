-- The runs so far are counted.
use Rattle.std.proofs.Common.{◌≡◌, [], ◌∷◌}
use Rattle.diva_image.specs.ImageLayout.{layout}
use Rattle.diva_hart.specs.Start.{start_of}
use Rattle.diva_cli.specs.CampaignTexts.{run_under, tally_of}
use Rattle.diva_cli.specs.Lanes.{AreHonest}
use Rattle.diva_cli.proofs.Counting.{runs_to}
use Rattle.diva_cli.proofs.campaign.run_flipped.Given as goal

abbrev pub invariant-loop-place : goal.invariant-loop-place
invariant-loop-place g l = record {
  counted : l.tally ≡ tally_of l.first.timed (runs_to (λ row. run_under (row ∷ []) l.cycles (start_of (layout l.image))) l.place);
  many : l.tally.runs ≡ l.place;
  lanes : l.lanes ≡ l.fn.lanes;
  honest : AreHonest g.L.Lane.honest l.lanes;
}

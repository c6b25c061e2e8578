-- The drive leads to where the rule leads.
use Rattle.std.proofs.Common.{◌≡◌, ◌∙◌, ℕ, ap}
use Rattle.diva_image.specs.ImageLayout.{layout}
use Rattle.diva_hart.specs.Start.{start_of}
use Rattle.diva_core.specs.Timed.{Config, default_config, new_timed}
use Rattle.diva_tape.specs.Lists.{lockstep_list}
use Rattle.diva_cli.specs.CampaignTexts.{ruled}
use Rattle.diva_cli.specs.Driven.{scripted_rule}
use Rattle.diva_cli.proofs.Campaigning.{drove_ruled}
use Rattle.diva_cli.proofs.campaign.run_under.Goals as goal

pub returns-clause-ran : goal.returns-clause-ran
returns-clause-ran g c =
    let start = start_of (layout c.args.image.now) in
    let begun : c.in_ok-machine.machine.timed ≡ new_timed default_config start = c.in_ok-machine.ensures.timed ∙ ap (λ (z : Config). new_timed z start) c.default.ensures in
    let same : c.from.result ≡ c.args.cycles = cc in
    drove_ruled c.args.script.now _ _ _ _ c.from.result _ c.drive_scripted.ensures.drives
    ∙ ap (λ (n : ℕ). ruled (scripted_rule c.args.script.now lockstep_list) n c.in_ok-machine.machine.timed) same
    ∙ ap (ruled (scripted_rule c.args.script.now lockstep_list) c.args.cycles) begun

-- One run more is counted, and at the end there is one for each flip.
use Rattle.std.proofs.Common.{◌≡◌, ℕ, ◌+◌, ◌*◌, List, [], ◌∷◌, map, ap, sym, subst, ◌∙◌, arith}
use Rattle.diva_image.specs.ImageLayout.{layout}
use Rattle.diva_isa.specs.State.{State}
use Rattle.diva_hart.specs.Start.{start_of}
use Rattle.diva_core.specs.Timed.{Timed}
use Rattle.diva_faults.specs.Flips.{flip_at}
use Rattle.diva_faults.specs.declared.rows.Row.{Row}
use Rattle.diva_faults.proofs.Flipping.{flips_by_place}
use Rattle.diva_trace.specs.declared.report.Tally.{Tally}
use Rattle.diva_cli.specs.CampaignTexts.{run_under, tally_of}
use Rattle.diva_cli.specs.Lanes.{AreHonest}
use Rattle.diva_cli.proofs.Counting.{as_many, run_more, runs_to}
use Rattle.diva_cli.proofs.campaign.run_flipped.Goals as goal

pub loop-place-preserved : goal.loop-place-preserved
loop-place-preserved g c =
    let start : State = start_of (layout c.args.image.now) in
    let run : Row → Timed = λ row. run_under (row ∷ []) c.args.cycles start in
    let place : ℕ = c.loop-place.place in
    let is : c.in_ok-machine.machine.timed ≡ run (flip_at place) =
    c.in_ok-machine.ensures.ran ∙ ap (λ (rows : List Row). run_under rows c.args.cycles start) (c.in_ok-script.ensures ∙ ap (λ (row : Row). row ∷ []) c.flip_at.ensures.row) in
    let counted : c.count_run.new.tally ≡ tally_of c.args.first.now.timed (runs_to run (place + 1)) =
    c.count_run.ensures (runs_to run place) c.loop-place.invariant.counted
    ∙ ap (tally_of c.args.first.now.timed) (run_more run place c.in_ok-machine.machine.timed is) in
    record { counted = counted; many = ap (λ (t : Tally). t.runs) counted ∙ as_many run (place + 1); lanes = c.run_under.ensures.lanes ∙ c.loop-place.invariant.lanes; honest = subst (λ l. AreHonest g.L.Lane.honest l) (sym c.run_under.ensures.lanes) c.loop-place.invariant.honest }

pub returns-clause-tally : goal.returns-clause-tally
returns-clause-tally g c =
    let start : State = start_of (layout c.args.image.now) in
    let run : Row → Timed = λ row. run_under (row ∷ []) c.args.cycles start in
    let all : c.loop-place.place ≡ 256 * c.args.last = omega (arith, c.get-place-end.ensures.value) in
    c.loop-place.invariant.counted
    ∙ ap (λ (n : ℕ). tally_of c.args.first.now.timed (runs_to run n)) all
    ∙ ap (λ (rows : List Row). tally_of c.args.first.now.timed (map run rows)) (flips_by_place c.args.last)

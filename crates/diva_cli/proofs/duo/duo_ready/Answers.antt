-- What is written is the text of the harts that were driven.
use Rattle.std.proofs.Common.{◌∙◌, ap, subst}
use Rattle.std.proofs.lemmas.Result.{err_from_is_err_and}
use Rattle.diva_duo.specs.Duo.{Duo}
use Rattle.diva_args.specs.Options.{DuoOptions}
use Rattle.diva_outside.specs.Sink.{PutsTo}
use Rattle.diva_outside.specs.Lent.{lent}
use Rattle.diva_cli.specs.DuoTexts.{IsDuoRun, duo_start, duo_text}
use Rattle.diva_cli.specs.Runs.{shown_dump}
use Rattle.diva_cli.proofs.DuoRunning.{cut_duo, wrote_duo}
use Rattle.diva_cli.proofs.duo.duo_ready.Goals as goal

pub returns-in_err-write_duo : goal.returns-in_err-write_duo
returns-in_err-write_duo g c = λ bytes is.
    let o : DuoOptions = c.args.options.now in
    let last : Duo = c.drive_both.new.duo.duo in
    let begun = subst (λ (d : Duo). IsDuoRun o.core c.from-cycles.result d last) is.begun (c.drive_both.ensures o.core is.cores c.requires) in
    let run : IsDuoRun o.core o.cycles (duo_start o bytes) last = subst (λ n. IsDuoRun o.core n (duo_start o bytes) last) (c.from-cycles.ensures ∙ c.get.ensures.value ∙ ap (λ (z : DuoOptions). z.cycles) c.options.view_is) begun in
    let p = err_from_is_err_and c.from_residual.result c.from_residual.ensures.1 in
    let put = subst (λ (z : DuoOptions). PutsTo (lent g.S.Sink.account c.args.sink.now c.write_duo.new.sink) (duo_text last (shown_dump z.dump)) c.write_duo.result) c.options.view_is c.write_duo.ensures in
    rw (p.1, p.2) (cut_duo g.C.Core.gives o bytes c.args._core.now _ last run _ (rw c.in_err-write_duo.was at put))

pub returns : goal.returns
returns g c = λ bytes is.
    let o : DuoOptions = c.args.options.now in
    let last : Duo = c.drive_both.new.duo.duo in
    let begun = subst (λ (d : Duo). IsDuoRun o.core c.from-cycles.result d last) is.begun (c.drive_both.ensures o.core is.cores c.requires) in
    let run : IsDuoRun o.core o.cycles (duo_start o bytes) last = subst (λ n. IsDuoRun o.core n (duo_start o bytes) last) (c.from-cycles.ensures ∙ c.get.ensures.value ∙ ap (λ (z : DuoOptions). z.cycles) c.options.view_is) begun in
    let put = subst (λ (z : DuoOptions). PutsTo (lent g.S.Sink.account c.args.sink.now c.write_duo.new.sink) (duo_text last (shown_dump z.dump)) c.write_duo.result) c.options.view_is c.write_duo.ensures in
    wrote_duo g.C.Core.gives o bytes c.args._core.now _ last run c.duo_status.result c.duo_status.ensures (rw c.in_ok-write_duo.was at put)

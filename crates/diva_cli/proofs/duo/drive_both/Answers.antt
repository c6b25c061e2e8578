-- The cores in use are as those of the kind that is asked for.
use Rattle.std.proofs.Common.{sym, ◌∙◌, ◌≡◌}
use Rattle.diva_cli.proofs.DuoRunning.{locksteps, of_locksteps, of_scalars, of_silents, run_by, scalars, silents}
use Rattle.diva_args.specs.declared.job.HartCore.TheVariants.{Scalar, Lockstep, Silent}
use Rattle.std.specs.Bool.{⊤}
use Rattle.diva_tape.specs.Lists.{IsLockstepCall}
use Rattle.diva_tape.specs.Scalar.{IsScalarCall}
use Rattle.diva_cli.proofs.duo.drive_both.Goals as goal

pub returns-in-Scalar : goal.returns-in-Scalar
returns-in-Scalar c = λ kind new none.
    let e = c.drive2.ensures in
    of_scalars kind _ _ _ _ _ (sym c.in-Scalar.is ∙ new) (λ p q.
    run_by IsScalarCall Scalar (λ c x. c ≡ x) scalars c.args.cycles _ _ _ _ _ _ c.drive2.result p q none e.drives e.within e.ended e.budget e.first_has_gone e.second_has_gone)

pub returns-in-Lockstep : goal.returns-in-Lockstep
returns-in-Lockstep c = λ kind new none.
    let e = c.drive2-in-Lockstep.ensures in
    of_locksteps kind _ _ _ (sym c.in-Lockstep.is ∙ new)
    (run_by IsLockstepCall Lockstep (λ c x. ⊤) locksteps c.args.cycles _ _ _ _ _ _ c.drive2-in-Lockstep.result tt tt none e.drives e.within e.ended e.budget e.first_has_gone e.second_has_gone)

pub returns-in-Silent : goal.returns-in-Silent
returns-in-Silent c = λ kind new none.
    let e = c.drive2-in-Silent.ensures in
    of_silents kind _ _ _ (sym c.in-Silent.is ∙ new)
    (run_by _ Silent (λ c x. ⊤) silents c.args.cycles _ _ _ _ _ _ c.drive2-in-Silent.result tt tt none e.drives e.within e.ended e.budget e.first_has_gone e.second_has_gone)

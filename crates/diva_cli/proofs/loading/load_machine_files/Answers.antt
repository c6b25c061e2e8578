-- The image, the script and the core are those of their files; or the loading stops at one, and those before it can be used.
use Rattle.std.proofs.Common.{◌∙◌, subst}
use Rattle.std.proofs.lemmas.Result.{err_from_is_err_and}
use Rattle.diva_outside.specs.Files.{Contents}
use Rattle.diva_args.specs.Options.{Setup}
use Rattle.diva_cli.specs.Wanted.{machine_files, file_rules}
use Rattle.diva_cli.specs.Parts.{HoldsCore, HoldsRows}
use Rattle.diva_cli.specs.Ready.{HoldsLoaded}
use Rattle.diva_process.specs.Writing.{Stops}
use Rattle.diva_cli.proofs.Preparing.{loaded_held}
use Rattle.diva_cli.proofs.Stopping.{at_script, at_tape}
use Rattle.diva_cli.proofs.loading.load_machine_files.Goals as goal

pub returns-clause-loaded : goal.returns-clause-loaded
returns-clause-loaded g c =
    let script = subst (λ (t : Contents). HoldsRows t c.setup.inside.script c.in_ok-script.script) c.load.ensures.stays c.in_ok-script.ensures.holds in
    let core = subst (λ (t : Contents). HoldsCore t c.setup.inside.core c.in_ok-core.core) (c.load_script_if.ensures.stays ∙ c.load.ensures.stays) c.in_ok-core.ensures.holds in
    subst (λ (s : Setup). HoldsLoaded (g.F.Files.account c.args.files.now).contents s (record { image = c.in_ok-image.image; script = c.in_ok-script.script; core = c.in_ok-core.core })) c.setup.view_is
    (loaded_held (g.F.Files.account c.args.files.now).contents (record { image = c.setup.inside.image; room = c.setup.inside.room; core = c.setup.inside.core; script = c.setup.inside.script; config = c.setup.inside.config }) _
    c.in_ok-image.ensures.holds script core)

pub returns-in_err-script-clause-stopped : goal.returns-in_err-script-clause-stopped
returns-in_err-script-clause-stopped g c =
    let p = err_from_is_err_and c.from_residual-in_err-script.result c.from_residual-in_err-script.ensures.1 in
    rw (p.1, p.2) (subst (λ (s : Setup). Stops file_rules (g.F.Files.account c.args.files.now) (g.F.Files.account c.load_script_if.new.files) (machine_files s) c.in_err-script.field-0.0) c.setup.view_is
    (at_script (g.F.Files.account c.args.files.now) (record { image = c.setup.inside.image; room = c.setup.inside.room; core = c.setup.inside.core; script = c.setup.inside.script; config = c.setup.inside.config }) _
    c.in_ok-image.ensures.holds
    (g.F.Files.account c.load.new.files) (g.F.Files.account c.load_script_if.new.files) _
    c.load.ensures.stays c.in_ok-image.ensures.uncounted c.load_script_if.ensures.others
    c.in_err-script.ensures.stopped))

pub returns-in_err-core-clause-stopped : goal.returns-in_err-core-clause-stopped
returns-in_err-core-clause-stopped g c =
    let p = err_from_is_err_and c.from_residual-in_err-core.result c.from_residual-in_err-core.ensures.1 in
    rw (p.1, p.2) (subst (λ (s : Setup). Stops file_rules (g.F.Files.account c.args.files.now) (g.F.Files.account c.load_core.new.files) (machine_files s) c.in_err-core.field-0.0) c.setup.view_is
    (at_tape (g.F.Files.account c.args.files.now) (record { image = c.setup.inside.image; room = c.setup.inside.room; core = c.setup.inside.core; script = c.setup.inside.script; config = c.setup.inside.config }) _
    c.in_ok-image.ensures.holds
    (g.F.Files.account c.load.new.files).contents (g.F.Files.account c.load_script_if.new.files) (g.F.Files.account c.load_core.new.files) _ _
    c.load.ensures.stays (c.load_script_if.ensures.stays ∙ c.load.ensures.stays)
    (λ w. c.in_ok-script.ensures.uncounted w ∙ c.in_ok-image.ensures.uncounted w)
    c.in_ok-script.ensures.holds c.in_err-core.ensures.stopped))

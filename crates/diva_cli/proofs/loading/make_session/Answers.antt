-- The files of the machine can be used; the commands are those of their file, or the loading stops there.
use Rattle.std.proofs.Common.{subst}
use Rattle.std.proofs.lemmas.Result.{err_from_is_err_and}
use Rattle.diva_outside.specs.Files.{Contents}
use Rattle.diva_outside.specs.declared.files.What.TheVariants.{Commands}
use Rattle.diva_args.specs.Options.{DebugOptions}
use Rattle.diva_cli.specs.Wanted.{file, session_files, file_rules}
use Rattle.diva_cli.specs.Parts.{AreCommands, Holds, HoldsSession}
use Rattle.diva_process.specs.Writing.{Stops}
use Rattle.diva_cli.proofs.Preparing.{session_held}
use Rattle.diva_cli.proofs.Stopping.{at_commands}
use Rattle.diva_cli.proofs.loading.make_session.Goals as goal

pub returns-clause-session : goal.returns-clause-session
returns-clause-session g c =
    let k = subst (λ (t : Contents). Holds t (file Commands c.options.inside.commands) (λ bytes. AreCommands bytes c.in_ok-commands.commands.items)) c.make_ready.ensures.stays c.in_ok-commands.ensures.holds in
    subst (λ (o : DebugOptions). HoldsSession (g.F.Files.account c.args.files.now).contents o (record { ready = c.in_ok-ready.ready; undos = c.in_ok-undos.undos; commands = c.in_ok-commands.commands })) c.options.view_is
    (session_held (g.F.Files.account c.args.files.now).contents (record { setup = c.options.inside.setup; commands = c.options.inside.commands }) (record { ready = c.in_ok-ready.ready; undos = c.in_ok-undos.undos; commands = c.in_ok-commands.commands }) c.in_ok-ready.ensures.ready k)

pub returns-in_err-commands-clause-stopped : goal.returns-in_err-commands-clause-stopped
returns-in_err-commands-clause-stopped g c =
    let p = err_from_is_err_and c.from_residual-in_err-commands.result c.from_residual-in_err-commands.ensures.1 in
    rw (p.1, p.2) (subst (λ (o : DebugOptions). Stops file_rules (g.F.Files.account c.args.files.now) (g.F.Files.account c.load.new.files) (session_files o) c.in_err-commands.field-0.0) c.options.view_is
    (at_commands (g.F.Files.account c.args.files.now) (g.F.Files.account c.make_ready.new.files) (g.F.Files.account c.load.new.files)
    (record { setup = c.options.inside.setup; commands = c.options.inside.commands }) c.in_ok-ready.ensures.ready.bytes c.in_err-commands.field-0.0 c.in_ok-ready.ensures.ready.sound
    c.make_ready.ensures.stays c.in_ok-ready.ensures.uncounted c.in_err-commands.ensures.stopped))

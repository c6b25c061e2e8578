-- With commit lines a watcher writes them, and without them nobody watches.
use Rattle.diva_cli.proofs.Handing.{plays_by_so}
use Rattle.diva_cli.proofs.Running.{runs_quiet, runs_written}
use Rattle.diva_cli.proofs.run.drive_run.Goals as goal

pub returns-then-trace : goal.returns-then-trace
returns-then-trace g c =
    rw c.if-trace.true (plays_by_so g.C.Core.gives _ _ _ _ _ _ (λ lists done. (runs_written _ _ _ _ _ lists _ _ done.0, done.1)) c.drive.ensures)

pub returns-else-trace : goal.returns-else-trace
returns-else-trace g c =
    rw c.if-trace.false (plays_by_so g.C.Core.gives _ _ _ _ _ _ (λ lists done. (runs_quiet _ _ _ lists _ _ done.0, done.1)) c.perform_by.ensures)

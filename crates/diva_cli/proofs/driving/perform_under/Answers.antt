-- A script that has no rows leaves a core's legs as they are.
use Rattle.diva_cli.proofs.Handing.{no_rows, plays_none}
use Rattle.diva_cli.proofs.driving.perform_under.Goals as goal

pub returns-then-is_empty : goal.returns-then-is_empty
returns-then-is_empty g c = plays_none g.D.Core.gives _ _ _ _ _ _ (no_rows _ _ c.rows.ensures.value c.if-is_empty.ensures) c.alone.ensures

use Rattle.std.proofs.Common.{◌≡◌, take}
use Rattle.diva_faults.specs.Touched.{end_of_rows}
use Rattle.diva_faults.proofs.script.end_of.Given as goal

abbrev pub invariant-loop-row : goal.invariant-loop-row
invariant-loop-row l = l.end ≡ end_of_rows (take l.row-index l.rows)

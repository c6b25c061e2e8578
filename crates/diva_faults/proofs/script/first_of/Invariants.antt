use Rattle.std.proofs.Common.{◌≡◌, take}
use Rattle.diva_faults.specs.Touched.{first_touched}
use Rattle.diva_faults.proofs.script.first_of.Given as goal

abbrev pub invariant-loop-row : goal.invariant-loop-row
invariant-loop-row l = l.first ≡ first_touched (take l.row-index l.rows)

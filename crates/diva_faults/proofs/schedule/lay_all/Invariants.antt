use Rattle.std.proofs.Common.{◌≡◌, take, fold}
use Rattle.diva_faults.specs.Lists.{laid_in}
use Rattle.diva_faults.proofs.schedule.lay_all.Given as goal

abbrev pub invariant-loop-row : goal.invariant-loop-row
invariant-loop-row l = l.list ≡ fold (laid_in l.cycle) l.initial.list (take l.row-index l.rows)

use Rattle.std.proofs.Common.{◌≡◌, drop}
use Rattle.diva_core.specs.Difference.{difference_in}
use Rattle.diva_core.proofs.differences.difference_in.Given as goal

abbrev pub invariant-loop-field : goal.invariant-loop-field
invariant-loop-field l = difference_in (drop l.field-index l.fields) l.claim l.due ≡ difference_in l.fields l.claim l.due

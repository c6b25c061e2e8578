-- The greatest so far.
use Rattle.std.proofs.Common.{◌≡◌, take}
use Rattle.diva_rate.specs.Rates.{greatest}
use Rattle.diva_rate.proofs.rates.greatest.Given as goal

abbrev pub invariant-loop-line : goal.invariant-loop-line
invariant-loop-line l = l.greatest ≡ greatest (take l.line-index l.lines)

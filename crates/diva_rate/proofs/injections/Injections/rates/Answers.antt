-- Each part is what it is to be.
use Rattle.std.proofs.Common.{refl}
use Rattle.diva_rate.specs.Rates.{rates_of}
use Rattle.diva_rate.proofs.injections.Injections.rates.Goals as goal

pub returns : goal.returns
unfolding rates_of
returns c = rw (c.twice.ensures, c.missing.ensures, c.in_ok-groups_of.ensures, c.lines-lines.ensures.lines) refl

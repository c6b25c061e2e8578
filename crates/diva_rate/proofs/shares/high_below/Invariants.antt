-- None so far is high.
use Rattle.std.proofs.Common.{◌≡◌, ◌<◌, ℕ, false}
use Rattle.diva_rate.specs.Shares.{is_high}
use Rattle.diva_rate.proofs.shares.high_below.Given as goal

abbrev pub invariant-loop-share : goal.invariant-loop-share
invariant-loop-share l = (m : ℕ) → m < l.share → is_high l.count l.faults m ≡ false

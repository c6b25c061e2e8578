use Rattle.std.proofs.Common.{◌≡◌, Some, map}
use Rattle.diva_isa.specs.State.{State, word_of}
use Rattle.diva_core.specs.Effects.{with_effects}
use Rattle.diva_ahead.proofs.ring.Ring.latest.Given as goal

abbrev pub invariant-loop-effect : goal.invariant-loop-effect
invariant-loop-effect l = (s : State) → word_of s l.addr ≡ Some l.word → word_of (with_effects s (map (λ e. e.now) l.yielded)) l.addr ≡ Some l.latest

use Rattle.std.proofs.Common.{◌≡◌, ◌+◌, Some, map}
use Rattle.diva_isa.specs.State.{State, byte_of}
use Rattle.diva_core.specs.Effects.{with_effects}
use Rattle.diva_ahead.proofs.ring.Ring.overlaid.Given as goal

abbrev pub invariant-loop-effect : goal.invariant-loop-effect
invariant-loop-effect l =
    let s : State = with_effects l.view (map (λ e. e.now) l.yielded) in
    (byte_of s l.addr ≡ Some l.byte0) × (byte_of s (l.addr + 1) ≡ Some l.byte1) × (byte_of s (l.addr + 2) ≡ Some l.byte2) × (byte_of s (l.addr + 3) ≡ Some l.byte3)

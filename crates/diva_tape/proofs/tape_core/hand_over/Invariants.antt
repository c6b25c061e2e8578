use Rattle.std.proofs.Common.{◌≡◌, take}
use Rattle.diva_tape.proofs.tape_core.hand_over.Given as goal

abbrev pub invariant-loop-claim : goal.invariant-loop-claim
invariant-loop-claim l = l.out ≡ take l.claim-index l.list

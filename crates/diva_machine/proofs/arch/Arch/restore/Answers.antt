-- Memory has its range, and no store is left.
use Rattle.std.proofs.Common.{arith}
use Rattle.diva_machine.proofs.arch.Arch.restore.Goals as goal

pub invariant_of-self : goal.invariant_of-self
invariant_of-self c =
    record { range = omega (arith, c.restore.ensures.base, c.restore.ensures.size, c.self.invariant.range); inside = rw c.restore.ensures.empty tt }

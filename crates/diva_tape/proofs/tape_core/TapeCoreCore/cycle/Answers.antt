use Rattle.std.proofs.Common.{◌≡◌, ◌∷◌}
use Rattle.diva_tape.proofs.Playing.{rest_parted}
use Rattle.diva_tape.proofs.tape_core.TapeCoreCore.cycle.Goals as goal

pub invariant_of-self : goal.invariant_of-self
invariant_of-self c =
    let first : c.self.inside.counts.now ≡ c.in-Some.count.now ∷ c.in-Some.counts.now = c.in-Some.ensures.cases.0 in
    rw (c.split_at.ensures.back, c.from.ensures) (rest_parted c.in-Some.count.now c.in-Some.counts.now c.self.inside.claims.now (rw first at c.self.invariant))

-- The claims so far were seen.
use Rattle.std.proofs.Common.{◌≡◌, map, take}
use Rattle.diva_drawing.specs.Snapshot.{snapshot_claim_of}
use Rattle.diva_drawing.proofs.snapshot.claims.Given as goal

abbrev pub invariant-loop-at : goal.invariant-loop-at
invariant-loop-at l = l.claims.items ≡ map snapshot_claim_of (take l.at l.m.entries)

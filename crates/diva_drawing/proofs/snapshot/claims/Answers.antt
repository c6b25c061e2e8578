-- One claim more was seen; and all were.
use Rattle.std.proofs.Common.{◌≤◌, length, map, ap, ◌∙◌, take_all, arith}
use Rattle.diva_drawing.specs.Snapshot.{snapshot_claim_of}
use Rattle.diva_drawing.proofs.Fronts.{map_more}
use Rattle.diva_drawing.proofs.snapshot.claims.Goals as goal

pub loop-at-preserved : goal.loop-at-preserved
loop-at-preserved c = rw (map_more snapshot_claim_of c.args.m.now.entries c.loop-at.at _ c.entry-entry.ensures.entry, ← c.loop-at.invariant) c.push.ensures.items

pub returns : goal.returns
returns c =
    let all : length c.args.m.now.entries ≤ c.loop-at.at = (let e = c.pending-at-end.ensures.entries in let f = c.loop-at-test.false in omega arith) in
    c.loop-at.invariant ∙ ap (map snapshot_claim_of) (take_all c.loop-at.at c.args.m.now.entries all)

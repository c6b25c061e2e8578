-- The bytes that are written, over those of the word.
use Rattle.diva_storeq.proofs.ByteLanes.{merged_byte, byte_here}
use Rattle.diva_storeq.proofs.masked.Masked.over.Goals as goal

pub returns-then-self-addr : goal.returns-then-self-addr
returns-then-self-addr c = λ i lt.
    let e = c.args.self.now in
    rw (← c.if-self-addr.true, byte_here e i lt) (merged_byte e c.args.word c.byte_lanes.result i c.requires.masked c.byte_lanes.type_inv lt (c.byte_lanes.ensures i lt))

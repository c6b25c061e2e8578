-- Each bit of the mask fills its byte.
use Rattle.diva_storeq.proofs.ByteLanes.{lanes_are}
use Rattle.diva_storeq.proofs.masked.Masked.byte_lanes.Goals as goal

pub returns : goal.returns
returns c = λ i lt. rw c.from.ensures (lanes_are c.args.self.now.mask i c.requires lt)

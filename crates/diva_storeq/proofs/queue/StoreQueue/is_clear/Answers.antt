-- What is apart from the interval is so from each word in it.
use Rattle.diva_storeq.proofs.Apart.{apart_byte, apart_half, apart_word}
use Rattle.diva_storeq.proofs.queue.StoreQueue.is_clear.Goals as goal

pub returns-else-is_empty-clause-byte : goal.returns-else-is_empty-clause-byte
returns-else-is_empty-clause-byte c =
    let q = c.self.inside in
    λ t some m. rw (← c.self.view_is) (apart_byte q.interval q.entries.items c.args.addr c.args.n c.self.invariant.1 (c.is_apart.ensures.apart t) some m)

pub returns-else-is_empty-clause-word : goal.returns-else-is_empty-clause-word
returns-else-is_empty-clause-word c =
    let q = c.self.inside in
    λ t four m. rw (← c.self.view_is) (apart_word q.interval q.entries.items c.args.addr c.args.n c.self.invariant.1 (c.is_apart.ensures.apart t) four m)

pub returns-else-is_empty-clause-half : goal.returns-else-is_empty-clause-half
returns-else-is_empty-clause-half c =
    let q = c.self.inside in
    λ t two m. rw (← c.self.view_is) (apart_half q.interval q.entries.items c.args.addr c.args.n c.self.invariant.1 (c.is_apart.ensures.apart t) two m)

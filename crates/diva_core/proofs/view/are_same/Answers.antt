-- Memories of other addresses are others; without stores the bytes tell, and with the same stores they may.
use Rattle.std.proofs.Common.{◌≡◌, arith}
use Rattle.std.proofs.lemmas.Grind.{common_steps}
use Rattle.diva_core.proofs.Reading.{same_base, same_size, same_without, same_under}
use Rattle.diva_core.proofs.view.are_same.Goals as goal

pub returns-then-base : goal.returns-then-base
returns-then-base c =
    let m = c.args.memory.now in
    let n = c.args.other_memory.now in
    let entries = c.args.queue.now.items in
    let others = c.args.other_queue.now.items in
    grind (arith, common_steps, same_base m n entries others, same_size m n entries others)

pub returns-then-owed-eq0-2 : goal.returns-then-owed-eq0-2
returns-then-owed-eq0-2 c =
    let m = c.args.memory.now in
    let n = c.args.other_memory.now in
    grind (arith, common_steps, same_without m n c.args.queue.now.items c.args.other_queue.now.items)

pub returns-then-has_stores_of : goal.returns-then-has_stores_of
returns-then-has_stores_of c =
    let m = c.args.memory.now in
    let n = c.args.other_memory.now in
    grind (arith, common_steps, same_under m n c.args.queue.now.items c.args.other_queue.now.items)

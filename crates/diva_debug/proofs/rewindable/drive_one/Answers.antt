-- The drive had cycles enough, so it came to the count.
use Rattle.std.proofs.Common.{◌≤◌, ◌*◌, ◌^◌, arith}
use Rattle.diva_debug.proofs.rewindable.drive_one.Goals as goal

pub overflow_add-target : goal.overflow_add-target
overflow_add-target g c =
    let few : c.args.m.now.timed.count ≤ 1 * c.args.m.now.timed.cycles = (let all = rw c.requires.width at c.requires.machine.count in omega arith) in
    let first = c.count-target.ensures in
    let fits = c.requires.cycles in
    let small : c.args.m.now.timed.cycles ≤ 2 ^ 60 = omega arith in
    omega arith

use Rattle.std.proofs.Common.{arith}
use Rattle.std.proofs.lemmas.Bool.Decides.{nat_tests}
use Rattle.std.proofs.lemmas.Grind.{common_steps}
use Rattle.diva_core.proofs.Bypassing.{target_reads}
use Rattle.diva_core.proofs.pending.Entry.written.Goals as goal

pub returns-in-Some : goal.returns-in-Some
returns-in-Some c = λ s h e.
    let t = target_reads s c.in-Some.decoded c.args.self.now.claim c.args.n (rw c.in-Some.is at c.requires) h in
    let a = c.if-decoded-n.true in
    let b = c.if-n-ne0.true in
    grind (arith, common_steps, nat_tests)

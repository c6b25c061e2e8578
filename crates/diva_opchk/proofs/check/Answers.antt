use Rattle.std.proofs.Common.{Some, sym}
use Rattle.diva_decode.proofs.Unique.{registers_by}
use Rattle.diva_opchk.proofs.check.Goals as goal

pub compare-requires-clause-registers : goal.compare-requires-clause-registers
compare-requires-clause-registers c =
    registers_by (Some c.in-Some.decoded) c.at-entry.result.now.claim.word (sym (rw c.in-Some.is at c.at-entry.ensures.decoded))

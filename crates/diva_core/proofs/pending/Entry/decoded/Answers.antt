use Rattle.std.proofs.Common.{Some, sym, arith}
use Rattle.diva_decode.proofs.Unique.{registers_by, valid_if}
use Rattle.diva_core.proofs.pending.Entry.decoded.Goals as goal

pub returns-in-Some-clause-registers : goal.returns-in-Some-clause-registers
returns-in-Some-clause-registers c =
    registers_by (Some c.in-Some.decoded) c.args.self.now.claim.word (sym (rw c.in-Some.is at c.requires))

pub returns-in-Some-clause-valid : goal.returns-in-Some-clause-valid
returns-in-Some-clause-valid c =
    valid_if (Some c.in-Some.decoded) c.args.self.now.claim.word (omega arith) (sym (rw c.in-Some.is at c.requires))

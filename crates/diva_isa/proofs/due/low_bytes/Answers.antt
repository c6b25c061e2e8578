-- The masks are the remainders.
use Rattle.std.proofs.lemmas.Nat.{and_mask}
use Rattle.diva_isa.proofs.due.low_bytes.Goals as goal

pub returns-in-Byte : goal.returns-in-Byte
returns-in-Byte c = rw c.in-Byte.is (and_mask c.args.word 8)

pub returns-in-Half : goal.returns-in-Half
returns-in-Half c = rw c.in-Half.is (and_mask c.args.word 16)

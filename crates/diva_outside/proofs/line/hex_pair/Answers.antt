-- The pair in the table is that of the byte.
use Rattle.std.proofs.Common.{[], arith}
use Rattle.diva_outside.proofs.Digits.{pair_listed}
use Rattle.diva_outside.proofs.line.hex_pair.Goals as goal

pub returns : goal.returns
returns c = rw (c.from.ensures) (pair_listed c.args.byte [] (omega arith))
